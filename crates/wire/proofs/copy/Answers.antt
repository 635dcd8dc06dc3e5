-- `wire::copy` meets its contract. Assumes nothing.
use Rattle.std.proofs.Common.{◌≡◌, ◌<◌, length, take, refl, append_assoc, add-one, arith, length-set}
use lib.Seq.{paste-zero, paste-suc, take-length}
use Rattle.wire.specs.Buffer.{put}
use Rattle.wire.proofs.copy.Goals as goal

pub loop-i-init : goal.loop-i-init
loop-i-init c = (refl, paste-zero c.args.dst.now c.args.at c.args.src.now)

pub loop-i-preserved : goal.loop-i-preserved
loop-i-preserved c = let l = c.loop-i in
    let a = c.args in
    let h : l.i < length a.src.now = omega arith in
    (rw length-set l.invariant.0, rw (add-one, l.invariant.1) (paste-suc a.dst.now a.at a.src.now l.i 0 (omega arith) h))

pub returns : goal.returns
unfolding put
returns c = let l = c.loop-i in
    let a = c.args in
    let e : l.i ≡ length a.src.now = omega arith in
    rw (l.invariant.1, e, take-length) (append_assoc (take a.at a.dst.now) a.src.now _)
