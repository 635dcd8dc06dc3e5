-- The loop of `wire::copy_sum`: `dst` is as it came with the first i bytes of `bytes` pasted at `at`, and `summed` is their sum. Assumes nothing.
use Rattle.std.proofs.Common.{◌≡◌, length, take}
use lib.Seq.{paste}
use Rattle.wire.specs.Sum.{sum_of}
use Rattle.wire.proofs.copy_sum.Given as goal

abbrev pub invariant-loop-i : goal.invariant-loop-i
invariant-loop-i l = (length l.dst ≡ length l.initial.dst) × ((l.dst ≡ paste l.initial.dst l.at l.bytes l.i) × (l.summed ≡ sum_of (take l.i l.bytes)))
