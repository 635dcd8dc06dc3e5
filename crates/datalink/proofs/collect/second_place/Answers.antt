-- `datalink::collect::second_place` meets its contract, test by test. Assumes nothing.
use Rattle.wire.specs.Choose.{choose}
use Rattle.wire.proofs.Cases.{told_true, told_false}
use Rattle.datalink.specs.Stages.{second_place}
use Rattle.datalink.proofs.Commands.{known}
use Rattle.datalink.proofs.collect.second_place.Goals as goal

pub returns-in-Err : goal.returns-in-Err
unfolding second_place choose
returns-in-Err c =
    let wrong = c.in-Err.ensures.0 in
    rw (← c.command_of.ensures, wrong)

pub returns-in-Ok : goal.returns-in-Ok
unfolding second_place choose
returns-in-Ok c =
    let is_known = known c.in-Ok.command in
    rw (← c.command_of.ensures, ← c.in-Ok.ensures, is_known, told_true c.is_acknowledge.ensures c.if-is_acknowledge.true)

pub returns-in-Ok-2 : goal.returns-in-Ok-2
unfolding second_place choose
returns-in-Ok-2 c =
    let is_known = known c.in-Ok.command in
    rw (← c.command_of.ensures, ← c.in-Ok.ensures, is_known, told_false c.is_acknowledge.ensures c.if-is_acknowledge.false)
