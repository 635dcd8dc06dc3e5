-- `lucid_master::hear::hear` meets its contract, test by test. Assumes nothing.
use Rattle.std.proofs.Common.{refl, sym, ap, ◌∙◌, [], ◌∷◌, ℕ, eq-eqb, ne_eqb}
use Rattle.wire.proofs.Cases.{yes, no, told_true, told_false}
use Rattle.asking.specs.Hearing.Hearing.{Refused}
use Rattle.lucid_master.specs.Heard.{heard}
use Rattle.lucid_master.proofs.Values.{fault_test, refusal_test, status_bare}
use Rattle.lucid_master.proofs.hear.hear.Goals as goal

pub returns-then-status : goal.returns-then-status
unfolding heard
returns-then-status c = let r = c.args.reply.now in
    let status = c.bare_status-status.ensures in
    yes _ _ _ _ (fault_test r ∙ eq-eqb _ _ (sym status ∙ c.if-status.true)) refl

pub returns-then-is_status : goal.returns-then-is_status
unfolding heard
returns-then-is_status c = let r = c.args.reply.now in
    let status = c.bare_status-status.ensures in
    let found = rw status at (told_true c.is_status.ensures c.if-is_status.true) in
    no _ _ _ _ (fault_test r ∙ ne_eqb _ _ (λ e. c.if-status.false (status ∙ e))) (yes _ _ _ _ (refusal_test r ∙ found) (ap (λ (s : ℕ). Refused (s ∷ [])) (status ∙ status_bare r found)))

pub returns : goal.returns
unfolding heard
returns c = let r = c.args.reply.now in
    let status = c.bare_status-status.ensures in
    let none = rw status at (told_false c.is_status.ensures c.if-is_status.false) in
    no _ _ _ _ (fault_test r ∙ ne_eqb _ _ (λ e. c.if-status.false (status ∙ e))) (no _ _ _ _ (refusal_test r ∙ none) c.hear_answer.ensures)
