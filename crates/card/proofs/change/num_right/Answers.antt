-- `card::change::num_right` meets its contract: the tests are those of the definition. Assumes nothing.
use Rattle.card.specs.Change.{num_right}
use Rattle.std.proofs.Common.{rules}
use Rattle.card.proofs.change.num_right.Goals as goal

pub returns : goal.returns
unfolding num_right
returns c = search rules
