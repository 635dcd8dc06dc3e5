-- The loop of `master::frame::interleave`: the first i masks and states stand in out.
use Rattle.std.proofs.Common.{◌≡◌, take}
use Rattle.wire.specs.Buffer.{overlay}
use Rattle.master.specs.Frames.{pairs}
use Rattle.master.proofs.frame.interleave.Given as goal

abbrev pub invariant-loop-i : goal.invariant-loop-i
invariant-loop-i l = l.out ≡ overlay (pairs (take l.i l.masks) (take l.i l.states)) l.initial.out
