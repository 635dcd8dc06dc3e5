-- `card::change::in_memory` meets its contract: the tests are those of the definition. Assumes nothing.
use Rattle.card.specs.Change.{in_memory}
use Rattle.std.proofs.Common.{rules}
use Rattle.card.proofs.change.in_memory.Goals as goal

pub returns : goal.returns
unfolding in_memory
returns c = search rules
