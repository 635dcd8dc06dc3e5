-- `card::change::names_read_only` meets its contract: the tests are those of the definition. Assumes nothing.
use Rattle.std.proofs.Common.{rules}
use Rattle.card.specs.Change.{names_read_only}
use Rattle.card.proofs.change.names_read_only.Goals as goal

pub returns : goal.returns
unfolding names_read_only
returns c = search rules
