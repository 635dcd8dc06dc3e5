-- `card::row::set_count` meets its contract. Assumes nothing.
use Rattle.card.specs.Row.{with_count}
use Rattle.std.proofs.Common.{rules}
use Rattle.card.proofs.row.set_count.Goals as goal

pub returns : goal.returns
unfolding with_count
returns c = search rules
