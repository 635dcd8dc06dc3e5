-- `datalink::frame::command_of` meets its contract. Assumes nothing.
use Rattle.datalink.specs.Stages.{command_of}
use Rattle.std.proofs.Common.{rules}
use Rattle.datalink.proofs.frame.command_of.Goals as goal

pub returns : goal.returns
unfolding command_of
returns c = search rules
