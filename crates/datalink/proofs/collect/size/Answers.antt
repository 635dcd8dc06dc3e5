-- `datalink::collect::size` meets its contract. Assumes nothing.
use Rattle.datalink.specs.Stages.{size_of}
use Rattle.datalink.proofs.collect.size.Goals as goal

pub returns : goal.returns
unfolding size_of
returns c = rw (c.data_carried-data.ensures, c.kind.ensures)
