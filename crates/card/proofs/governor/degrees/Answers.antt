-- `card::governor::degrees` meets its contract: the sweep over all temperature codes. Assumes nothing.
use Rattle.card.proofs.Floats.{exact}
use Rattle.std.proofs.Common.{rules}
use Rattle.card.proofs.governor.degrees.Goals as goal

pub returns : goal.returns
returns c = exact c.args.code (search rules)
