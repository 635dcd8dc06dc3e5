-- `lucid::frame::command_asked` meets its contract, command by command. Assumes nothing.
use Rattle.std.proofs.Common.{refl}
use Rattle.wire.proofs.Cases.{yes, no}
use Rattle.lucid.specs.Stages.{command_asked}
use Rattle.lucid.proofs.Commands.{gets, sets, parameters}
use Rattle.lucid.proofs.Frames.{addressed}
use Rattle.lucid.proofs.frame.command_asked.Goals as goal

pub parameter_asked-requires : goal.parameter_asked-requires
parameter_asked-requires c = let p = parameters c.args.head.command c.in-SetParam.is in addressed _ _ _ _ c.requires p.0 p.1

pub returns-in-GetIo : goal.returns-in-GetIo
unfolding command_asked
returns-in-GetIo c = rw (← c.mask_of.ensures) (yes _ _ _ _ (gets c.args.head.command c.in-GetIo.is) refl)

pub returns-in-SetIo : goal.returns-in-SetIo
unfolding command_asked
returns-in-SetIo c = let p = sets c.args.head.command c.in-SetIo.is in
    rw (← c.mask_of-in-SetIo.ensures) (no _ _ _ _ p.0 (yes _ _ _ _ p.1 refl))

pub returns-in-SetParam : goal.returns-in-SetParam
unfolding command_asked
returns-in-SetParam c = let p = parameters c.args.head.command c.in-SetParam.is in no _ _ _ _ p.0 (no _ _ _ _ p.1 c.parameter_asked.ensures)
