-- `card::change::two_bytes` meets its contract: the tests are those of the definition. Assumes nothing.
use Rattle.card.specs.Change.{two_bytes}
use Rattle.std.proofs.Common.{rules}
use Rattle.card.proofs.change.two_bytes.Goals as goal

pub returns : goal.returns
unfolding two_bytes
returns c = search rules
