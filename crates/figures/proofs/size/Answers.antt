-- `figures::size` meets its contract. The invariant: the figures of v are those of n but the k − 1 passed. Assumes nothing.
use Rattle.std.proofs.Common.{arith}
use Rattle.figures.proofs.Decimals.{size_one, size_more, size_positive, size_at_most}
use Rattle.figures.proofs.size.Goals as goal

pub overflow_add-k : goal.overflow_add-k
overflow_add-k c = let n = c.args.n in
    omega (arith, size_positive c.loop-v.v, size_at_most 9 n (omega arith))

pub loop-v-preserved : goal.loop-v-preserved
loop-v-preserved c = omega (arith, size_more c.loop-v.v (omega arith))

pub returns : goal.returns
returns c = omega (arith, size_one c.loop-v.v (omega arith))
