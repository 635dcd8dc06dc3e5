-- `lucid::frame::option_asked` meets its contract, test by test. Assumes nothing.
use Rattle.std.proofs.Common.{eq-eqb, ne_eqb, sym, ◌∙◌}
use Rattle.lucid.specs.Frame.{len_in}
use Rattle.lucid.specs.Stages.{option_asked}
use Rattle.wire.proofs.Cases.{yes, no, told_yes, told_no}
use Rattle.lucid.proofs.frame.option_asked.Goals as goal

pub returns-then-not-type_known : goal.returns-then-not-type_known
unfolding option_asked
returns-then-not-type_known c = search (no, told_no)

pub returns-then-not-type_writable : goal.returns-then-not-type_writable
unfolding option_asked
returns-then-not-type_writable c = search (yes, no, told_yes, told_no)

pub returns-then-not-option_right : goal.returns-then-not-option_right
unfolding option_asked
returns-then-not-option_right c = search (yes, no, told_yes, told_no) depth 12

pub returns-then-f-len_for : goal.returns-then-f-len_for
unfolding option_asked
returns-then-f-len_for c = let wrong = ne_eqb (len_in c.args.f.now) _ (λ e. c.if-f-len_for.true (e ∙ sym c.len_for.ensures)) in search (yes, no, told_yes, told_no) depth 12

pub returns : goal.returns
unfolding option_asked
returns c = let right = eq-eqb (len_in c.args.f.now) _ (c.if-f-len_for.false ∙ c.len_for.ensures) in search (yes, no, told_yes, told_no) depth 12
