-- `lecom::frame::pair_in` meets its contract, its definition. Assumes nothing.
use Rattle.wire.proofs.Cases.{cases}
use Rattle.lecom.specs.Frame.{pair_in}
use Rattle.lecom.proofs.frame.pair_in.Goals as goal

pub returns : goal.returns
unfolding pair_in
returns c = search cases
