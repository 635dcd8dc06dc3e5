-- `datalink::frame::order_here` meets its contract, test by test. Assumes nothing.
use Rattle.std.proofs.Common.{◌∙◌}
use Rattle.std.proofs.lemmas.Result.{err_from_is_err_and}
use Rattle.wire.proofs.Cases.{cases, told_true}
use Rattle.datalink.specs.Stages.{order_here}
use Rattle.datalink.proofs.Commands.{known}
use Rattle.datalink.proofs.frame.order_here.Goals as goal

pub returns-in_err-command : goal.returns-in_err-command
unfolding order_here
returns-in_err-command c =
    let wrong = c.in_err-command.ensures in
    let p = err_from_is_err_and c.from_residual.result c.from_residual.ensures.1 in
    rw (p.1, p.2, wrong.1, ← c.command_in.ensures) (search (cases, wrong.0))

pub form_right-requires : goal.form_right-requires
form_right-requires c = c.in_ok-command.ensures ∙ c.command_in.ensures

pub lrc_right-requires : goal.lrc_right-requires
lrc_right-requires c = (c.requires, c.in_ok-command.ensures ∙ c.command_in.ensures)

pub returns-then-not-form_right : goal.returns-then-not-form_right
unfolding order_here
returns-then-not-form_right c =
    let is_known = known c.in_ok-command.command in
    rw (← c.command_in.ensures, ← c.in_ok-command.ensures) (search cases)

pub returns-then-not-lrc_right : goal.returns-then-not-lrc_right
unfolding order_here
returns-then-not-lrc_right c =
    let is_known = known c.in_ok-command.command in
    rw (← c.command_in.ensures, ← c.in_ok-command.ensures) (search cases)

pub order_in-requires : goal.order_in-requires
order_in-requires c = (c.in_ok-command.ensures ∙ c.command_in.ensures, told_true c.form_right.ensures c.if-not-form_right.false)

pub returns : goal.returns
unfolding order_here
returns c =
    let is_known = known c.in_ok-command.command in
    rw (← c.command_in.ensures, ← c.in_ok-command.ensures) (search cases)
