-- `love_master::hear::hear` meets its contract. Assumes nothing.
use Rattle.std.proofs.Common.{◌≡◌, true, ◌∙◌, subst, ltb-true}
use Rattle.card.specs.Layout.{love_count}
use Rattle.love_master.specs.declared.request.Task.{Task}
use Rattle.love_master.specs.declared.request.Task.TheVariants.{Status, Read, Write}
use Rattle.love_master.specs.Request.{task_right}
use Rattle.love_master.specs.Heard.{heard_task}
use Rattle.love_master.proofs.Errors.{heard_error_law, heard_normal, askable_facts}
use Rattle.love_master.proofs.hear.hear.Goals as goal

pub returns-then-reply-eq-ERROR_LENGTH : goal.returns-then-reply-eq-ERROR_LENGTH
returns-then-reply-eq-ERROR_LENGTH c = (rw c.unit-address.ensures at c.hear_error.ensures) ∙ heard_error_law _ _ c.if-reply-eq-ERROR_LENGTH.true

pub hear_value-requires : goal.hear_value-requires
unfolding task_right
hear_value-requires c =
    let pre = c.requires in
    let right = subst (λ (t : Task). task_right t ≡ true) c.in-Read.is (askable_facts _ pre).1 in
    ltb-true _ love_count right

pub returns-in-Status : goal.returns-in-Status
unfolding heard_task
returns-in-Status c = heard_normal _ _ Status c.if-reply-eq-ERROR_LENGTH.false c.in-Status.is (rw c.unit-address.ensures at c.hear_status.ensures)

pub returns-in-Read : goal.returns-in-Read
unfolding heard_task
returns-in-Read c = heard_normal _ _ (Read _) c.if-reply-eq-ERROR_LENGTH.false c.in-Read.is (rw c.unit-address.ensures at c.hear_value.ensures)

pub returns-in-Write : goal.returns-in-Write
unfolding heard_task
returns-in-Write c = heard_normal _ _ (Write _ _) c.if-reply-eq-ERROR_LENGTH.false c.in-Write.is (rw c.unit-address.ensures at c.hear_written.ensures)
