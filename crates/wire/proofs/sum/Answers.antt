-- `wire::sum` meets its contract: a byte more. Assumes nothing.
use Rattle.std.proofs.Common.{◌<◌, length, refl, add-one, arith}
use Rattle.wire.specs.Sum.{total, sum_of}
use Rattle.wire.proofs.Sums.{total_suc}
use Rattle.wire.proofs.sum.Goals as goal

pub loop-b-init : goal.loop-b-init
unfolding sum_of total
loop-b-init c = refl

pub loop-b-preserved : goal.loop-b-preserved
unfolding sum_of
loop-b-preserved c = let l = c.loop-b in
    let s = c.args.s.now in
    let h : l.b-index < length s = omega arith in
    rw (add-one l.b-index) (omega (arith, total_suc s l.b-index h, l.invariant))
