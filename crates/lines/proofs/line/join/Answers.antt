-- `lines::line::join` meets its contract.
use Rattle.std.proofs.Common.{arith}
use Rattle.lines.proofs.Joins.{too_long, joined}
use Rattle.lines.proofs.line.join.Goals as goal

pub returns-then-text-n : goal.returns-then-text-n
returns-then-text-n c = too_long _ _ _ (omega arith)

pub returns-then-text-n-2 : goal.returns-then-text-n-2
returns-then-text-n-2 c = too_long _ _ _ (omega arith)

pub returns : goal.returns
returns c = joined _ _ _ _ (omega arith) c.copy.ensures
