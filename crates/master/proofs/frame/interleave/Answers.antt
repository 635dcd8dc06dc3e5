-- `master::frame::interleave` meets its contract.
use Rattle.std.proofs.Common.{List, ℕ, sym, ap₂, ◌∙◌, arith, add-one, take_all, length-set}
use Rattle.wire.proofs.Buffers.{overlay_none}
use Rattle.wire.specs.Buffer.{overlay}
use Rattle.master.proofs.Frames.{pair_stored}
use Rattle.master.specs.Frames.{pairs}
use Rattle.master.proofs.frame.interleave.Goals as goal

pub loop-i-init : goal.loop-i-init
loop-i-init c = sym (overlay_none _)

pub bounds-out-i-in-loop-i : goal.bounds-out-i-in-loop-i
bounds-out-i-in-loop-i c = simp length-set (omega arith)

pub loop-i-preserved : goal.loop-i-preserved
loop-i-preserved c =
    let l = c.loop-i in
    let a = c.args in
    rw (l.invariant, add-one l.i) (pair_stored a.masks.now a.states.now a.out.now l.i (omega arith) c.requires.0 c.requires.1)

pub returns : goal.returns
returns c =
    let l = c.loop-i in
    let a = c.args in
    l.invariant ∙ ap₂ (λ (x y : List ℕ). overlay (pairs x y) a.out.now) (take_all l.i a.masks.now (omega arith)) (take_all l.i a.states.now (omega arith))
