-- `love::frame::order_in` meets its contract, test by test. Assumes nothing.
use Rattle.std.proofs.Common.{sym, ◌∙◌, ltb-true, arith}
use Rattle.wire.proofs.Cases.{cases}
use Rattle.card.specs.Layout.{love_count}
use Rattle.love.specs.Form.{status_command}
use Rattle.love.specs.Stages.{order_by, order_in}
use Rattle.love.proofs.Exits.{handed_on, is_given, is_none, byte_told}
use Rattle.love.proofs.frame.order_in.Goals as goal

-- past the tests of the length: the first half is 00 or is not
pub returns-then-d-ne-STATUS_LENGTH : goal.returns-then-d-ne-STATUS_LENGTH
unfolding order_in
returns-then-d-ne-STATUS_LENGTH c =
    let status = byte_told c.byte_at-command.result status_command (omega arith) c.eq.ensures c.if-eq.true in
    rw (← c.byte_at-command.ensures) (search (cases, status))

pub returns-then-eq : goal.returns-then-eq
unfolding order_in
returns-then-eq c =
    let status = byte_told c.byte_at-command.result status_command (omega arith) c.eq.ensures c.if-eq.true in
    rw (← c.byte_at-command.ensures) (search (cases, status))

pub returns-then-d-lt-COMMAND_LENGTH : goal.returns-then-d-lt-COMMAND_LENGTH
unfolding order_in
returns-then-d-lt-COMMAND_LENGTH c =
    let other = byte_told c.byte_at-command.result status_command (omega arith) c.eq.ensures c.if-eq.false in
    rw (← c.byte_at-command.ensures) (search (cases, other))

pub returns-in_err-k : goal.returns-in_err-k
unfolding order_in order_by
returns-in_err-k c =
    let none = c.in_err-k.ensures in
    let other = byte_told c.byte_at-command.result status_command (omega arith) c.eq.ensures c.if-eq.false in
    let foreign = is_none _ _ (sym none.ok_part ∙ c.parameter.ensures) in
    let out = handed_on _ _ _ _ none.ok_part none.value c.from_residual.ensures.1 in
    rw (← c.byte_at-command.ensures, ← c.byte_at-low.ensures) (search (cases, other, foreign, out))

pub order_by-requires : goal.order_by-requires
order_by-requires c =
    let k = is_given _ _ _ (sym c.in_ok-k.ensures.ok_part ∙ c.parameter.ensures) in
    rw k.1 (ltb-true _ love_count k.0)

pub returns : goal.returns
unfolding order_in
returns c =
    let other = byte_told c.byte_at-command.result status_command (omega arith) c.eq.ensures c.if-eq.false in
    let k = is_given _ _ _ (sym c.in_ok-k.ensures.ok_part ∙ c.parameter.ensures) in
    rw (← c.byte_at-command.ensures, ← c.byte_at-low.ensures, ← k.1) (search (cases, other))
