-- `wire::copy_sum` meets its contract. Assumes nothing.
use Rattle.std.proofs.Common.{◌≡◌, ◌<◌, length, take, refl, append_assoc, add-one, arith, length-set, take_all, rules}
use lib.Seq.{paste-zero, paste-suc, take-length}
use Rattle.wire.specs.Buffer.{put}
use Rattle.wire.specs.Sum.{total, sum_of}
use Rattle.wire.proofs.Sums.{total_suc}
use Rattle.wire.proofs.copy_sum.Goals as goal

pub loop-i-init : goal.loop-i-init
unfolding sum_of total
loop-i-init c = let a = c.args in
    (refl, (paste-zero a.dst.now a.at a.bytes.now, refl))

pub loop-i-preserved : goal.loop-i-preserved
unfolding sum_of
loop-i-preserved c = let l = c.loop-i in
    let a = c.args in
    let h : l.i < length a.bytes.now = omega arith in (
      rw length-set l.invariant.0,
      (
        rw (add-one, l.invariant.1.0) (paste-suc a.dst.now a.at a.bytes.now l.i 0 (omega arith) h),
        rw (add-one l.i) (omega (arith, total_suc a.bytes.now l.i h, l.invariant.1.1)),
      ),
    )

pub returns : goal.returns
unfolding put
returns c = let l = c.loop-i in
    let a = c.args in
    let e : l.i ≡ length a.bytes.now = omega arith in
    (rw (l.invariant.1.1, take_all l.i a.bytes.now (search rules)), rw (l.invariant.1.0, e, take-length) (append_assoc (take a.at a.dst.now) a.bytes.now _))
