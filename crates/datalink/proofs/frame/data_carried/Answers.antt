-- `datalink::frame::data_carried` meets its contract: the tests are those of the definition. Assumes nothing.
use Rattle.wire.proofs.Cases.{cases}
use Rattle.datalink.specs.Frame.{carried}
use Rattle.datalink.proofs.frame.data_carried.Goals as goal

pub returns-then-kind-eq-NO_CHANGE : goal.returns-then-kind-eq-NO_CHANGE
unfolding carried
returns-then-kind-eq-NO_CHANGE c = search cases

pub returns : goal.returns
unfolding carried
returns c = search cases
