-- `datalink::frame::command_in` meets its contract. Assumes nothing.
use Rattle.datalink.specs.Frame.{command_in}
use Rattle.datalink.specs.Stages.{command_of}
use Rattle.datalink.proofs.frame.command_in.Goals as goal

pub returns : goal.returns
unfolding command_in command_of
returns c = c.command_of.ensures
