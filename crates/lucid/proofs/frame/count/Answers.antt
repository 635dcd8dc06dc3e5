-- `lucid::frame::count` meets its contract: the ones among the bits of the channels. Assumes nothing.
use Rattle.lucid.proofs.Channels.{count_ones_channels}
use Rattle.lucid.proofs.frame.count.Goals as goal

pub returns : goal.returns
returns c = count_ones_channels c.args.mask
