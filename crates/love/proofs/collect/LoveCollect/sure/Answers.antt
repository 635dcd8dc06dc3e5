-- `love::collect::LoveCollect::sure` meets its contract: no byte is kept unseen. Assumes nothing.
use Rattle.receiver.proofs.Sure.{sure_none}
use Rattle.love.proofs.Receiver.{held_few}
use Rattle.love.proofs.collect.LoveCollect.sure.Goals as goal

pub returns : goal.returns
returns c = sure_none _ _ c.args._part.now c.requires (held_few _ c.requires)
