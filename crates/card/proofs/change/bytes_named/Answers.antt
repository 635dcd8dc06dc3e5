-- `card::change::bytes_named` meets its contract, test by test. Assumes nothing.
use Rattle.wire.proofs.Cases.{cases}
use Rattle.card.specs.Change.{named}
use Rattle.card.proofs.change.bytes_named.Goals as goal

pub returns-then-kind-eq-CHANGE_BITS : goal.returns-then-kind-eq-CHANGE_BITS
unfolding named
returns-then-kind-eq-CHANGE_BITS c = search cases

pub returns : goal.returns
unfolding named
returns c = search cases
