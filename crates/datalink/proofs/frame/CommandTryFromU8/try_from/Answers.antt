-- `datalink::frame::Command::try_from` meets its contract: other bits are no command's. Assumes nothing.
use Rattle.std.proofs.Common.{rules}
use Rattle.datalink.specs.Frame.{command_known}
use Rattle.datalink.proofs.frame.CommandTryFromU8.try_from.Goals as goal

pub returns-in_default : goal.returns-in_default
unfolding command_known
returns-in_default c = search rules
