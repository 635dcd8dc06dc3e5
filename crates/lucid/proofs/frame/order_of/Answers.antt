-- `lucid::frame::order_of` meets its contract, test by test. Assumes nothing.
use Rattle.std.proofs.Common.{◌≤◌, length, arith, eq-eqb, ne_eqb}
use Rattle.lucid.specs.Form.{shortest}
use Rattle.lucid.specs.Frame.{asked}
use Rattle.lucid.proofs.Commands.{known}
use Rattle.lucid.specs.Stages.{parameter_asked, command_asked, option_asked}
use Rattle.wire.proofs.Cases.{yes, no, told_true, told_yes, told_no}
use Rattle.wire.proofs.Lengths.{between_facts}
use Rattle.std.proofs.lemmas.Result.{err_from_is_err_and}
use Rattle.lucid.proofs.frame.order_of.Goals as goal
use Rattle.lucid.proofs.frame.order_of.Goals.{Else-not-fits}

-- a frame of the right length has an OPC, P1, P2 and LEN
framed : (c : Else-not-fits) → shortest ≤ length c.args.f.now
framed c = (between_facts _ _ _ (told_true c.fits.ensures c.if-not-fits.false)).0

pub returns-then-not-fits : goal.returns-then-not-fits
unfolding asked
returns-then-not-fits c = search (no, told_no)

pub bounds-f-3 : goal.bounds-f-3
bounds-f-3 c = omega (arith, framed ((goal.at.bounds-f-3 c).Else-not-fits))

pub returns-then-f : goal.returns-then-f
unfolding asked
returns-then-f c = let wrong = ne_eqb _ _ c.if-f.true in search (yes, no, told_yes, told_no) depth 14

pub returns-in_err-command : goal.returns-in_err-command
unfolding asked
returns-in_err-command c = let measured = eq-eqb _ _ c.if-f.false in
    let wrong = c.in_err-command.ensures in
    let p = err_from_is_err_and c.from_residual.result c.from_residual.ensures.1 in
    rw (p.1, p.2, wrong.1) (search (yes, no, told_yes, told_no, wrong.0) depth 14)

pub returns-then-not-channel_right : goal.returns-then-not-channel_right
unfolding asked
returns-then-not-channel_right c = let measured = eq-eqb _ _ c.if-f.false in
    let is_known = known c.in_ok-command.command in
    rw (← c.in_ok-command.ensures) (search (yes, no, told_yes, told_no) depth 14)

pub returns-then-not-mask_right : goal.returns-then-not-mask_right
unfolding asked
returns-then-not-mask_right c = let measured = eq-eqb _ _ c.if-f.false in
    let is_known = known c.in_ok-command.command in
    rw (← c.in_ok-command.ensures) (search (yes, no, told_yes, told_no) depth 14)

pub returns : goal.returns
unfolding asked option_asked command_asked parameter_asked
returns c = let measured = eq-eqb _ _ c.if-f.false in
    let is_known = known c.in_ok-command.command in
    rw (← c.in_ok-command.ensures) (search (yes, no, told_yes, told_no) depth 14)
