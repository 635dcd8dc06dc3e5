-- `datalink::collect::goes_on` meets its contract: a second byte is a command's, and no Acknowledge. Assumes nothing.
use Rattle.datalink.specs.Stages.{goes_on}
use Rattle.datalink.proofs.Commands.{known}
use Rattle.datalink.proofs.collect.goes_on.Goals as goal

pub returns-in-Err : goal.returns-in-Err
unfolding goes_on
returns-in-Err c =
    let wrong = c.in-Err.ensures.0 in
    rw (← c.command_of.ensures, wrong)

pub returns-in-Ok : goal.returns-in-Ok
unfolding goes_on
returns-in-Ok c =
    let is_known = known c.in-Ok.command in
    rw (← c.command_of.ensures, ← c.in-Ok.ensures, is_known, c.is_acknowledge.ensures)
