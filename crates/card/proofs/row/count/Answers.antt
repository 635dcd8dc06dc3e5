-- `card::row::count` meets its contract. Assumes nothing.
use Rattle.card.specs.Row.{count_at}
use Rattle.std.proofs.Common.{rules}
use Rattle.card.proofs.row.count.Goals as goal

pub returns : goal.returns
unfolding count_at
returns c = search rules
