-- `datalink::frame::Command::kind` meets its contract, command by command. Assumes nothing.
use Rattle.std.proofs.Common.{⊎_elim}
use Rattle.wire.specs.Choose.{choose}
use Rattle.datalink.specs.Frame.{kind_of}
use Rattle.datalink.proofs.frame.Command.kind.Goals as goal

pub returns-in-Change : goal.returns-in-Change
unfolding kind_of choose
returns-in-Change c = rw c.in-Change.is

pub returns-in-ChangeBits : goal.returns-in-ChangeBits
unfolding kind_of choose
returns-in-ChangeBits c = rw c.in-ChangeBits.is

pub returns-in-Interrogate : goal.returns-in-Interrogate
unfolding kind_of choose
returns-in-Interrogate c = ⊎_elim (λ e. rw e) (λ e. rw e) c.in-Interrogate.is
