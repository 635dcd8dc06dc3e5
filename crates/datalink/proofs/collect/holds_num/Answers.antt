-- `datalink::collect::holds_num` meets its contract. Assumes nothing.
use Rattle.datalink.specs.Frame.{num_in}
use Rattle.datalink.specs.Stages.{held_with_num}
use Rattle.datalink.proofs.collect.holds_num.Goals as goal

pub returns : goal.returns
unfolding held_with_num num_in
returns c = rw c.size-size.ensures
