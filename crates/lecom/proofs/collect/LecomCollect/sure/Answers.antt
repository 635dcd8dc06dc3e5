-- `lecom::collect::LecomCollect::sure` meets its contract: no byte is kept unseen. Assumes nothing.
use Rattle.receiver.proofs.Sure.{sure_none}
use Rattle.lecom.proofs.Receiver.{held_few}
use Rattle.lecom.proofs.collect.LecomCollect.sure.Goals as goal

pub returns : goal.returns
returns c = sure_none _ _ c.args._part.now c.requires (held_few _ c.requires)
