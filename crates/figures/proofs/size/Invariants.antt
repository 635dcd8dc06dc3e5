-- `figures::size` meets its contract. The invariant: the figures of v are those of n but the k − 1 passed. Assumes nothing.
use Rattle.std.proofs.Common.{◌+◌, ◌≡◌}
use Rattle.figures.specs.Decimal.{size_of}
use Rattle.figures.proofs.size.Given as goal

abbrev pub invariant-loop-v : goal.invariant-loop-v
invariant-loop-v l = l.k + size_of l.v ≡ 1 + size_of l.n

abbrev pub decreases-loop-v : goal.decreases-loop-v
decreases-loop-v l = l.v
