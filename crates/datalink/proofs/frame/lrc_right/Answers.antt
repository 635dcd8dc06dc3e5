-- `datalink::frame::lrc_right` meets its contract: the tests are those of the definition. Assumes nothing.
use Rattle.datalink.specs.Frame.{lrc_right, is_acknowledge}
use Rattle.datalink.proofs.frame.lrc_right.Goals as goal

pub returns : goal.returns
unfolding lrc_right is_acknowledge
returns c = rw (← c.requires.1, ← c.sum-sum.ensures, c.is_acknowledge.ensures)
