-- `lecom_master::hear::hear` meets its contract, test by test. Assumes nothing.
use Rattle.std.proofs.Common.{◌≡◌, ◌≤◌, true, sym, refl, ap, ◌∙◌}
use Rattle.wire.proofs.Cases.{yes, no, told_true, told_false}
use Rattle.card.specs.Fitness.{lecom_most}
use Rattle.lecom_master.specs.Request.{askable}
use Rattle.lecom_master.specs.Heard.{heard_task, heard}
use Rattle.lecom_master.specs.declared.request.Task.{Task}
use Rattle.lecom_master.specs.declared.request.Request.{Request}
use Rattle.lecom_master.proofs.Requests.{askable_parts, address_most_law, read_byte}
use Rattle.lecom_master.proofs.hear.hear.Goals as goal

pub returns-then-is_collective : goal.returns-then-is_collective
unfolding heard
returns-then-is_collective c = yes _ _ _ _ (told_true c.is_collective.ensures c.if-is_collective.true) refl

-- an askable request's address has two figures
two-figures : (q : Request) → askable q ≡ true → q.address ≤ lecom_most
two-figures q h = address_most_law q.address (askable_parts q h).0

pub returns-then-is_refusal : goal.returns-then-is_refusal
unfolding heard
returns-then-is_refusal c = no _ _ _ _ (told_false c.is_collective.ensures c.if-is_collective.false) (yes _ _ _ _ (told_true (c.is_refusal.ensures _ (two-figures c.args.request c.requires)) c.if-is_refusal.true) refl)

pub hear_read-requires : goal.hear_read-requires
hear_read-requires c = read_byte _ (rw c.in-Read.is at (askable_parts c.args.request c.requires).1)

pub returns-in-Read : goal.returns-in-Read
unfolding heard heard_task
returns-in-Read c =
    let whole = c.is_collective in
    let first = c.if-is_collective in
    let refusal = c.is_refusal in
    let second = c.if-is_refusal in
    no _ _ _ _ (told_false whole.ensures first.false) (no _ _ _ _ (told_false (refusal.ensures _ (two-figures c.args.request c.requires)) second.false)
    (c.hear_read.ensures ∙ ap (λ (t : Task). heard_task t c.args.reply.now) (sym c.in-Read.is)))

pub returns-in-Write : goal.returns-in-Write
unfolding heard heard_task
returns-in-Write c =
    let whole = c.is_collective in
    let first = c.if-is_collective in
    let refusal = c.is_refusal in
    no _ _ _ _ (told_false whole.ensures first.false) (no _ _ _ _ (told_false (refusal.ensures _ (two-figures c.args.request c.requires)) c.if-is_refusal.false)
    (c.hear_write.ensures ∙ ap (λ (t : Task). heard_task t c.args.reply.now) (sym c.in-Write.is)))
