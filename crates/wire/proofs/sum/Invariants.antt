-- `wire::sum` meets its contract. The invariant: `sum` is the sum of the bytes passed, modulo 256. Assumes nothing.
use Rattle.std.proofs.Common.{◌≡◌, take}
use Rattle.wire.specs.Sum.{sum_of}
use Rattle.wire.proofs.sum.Given as goal

abbrev pub invariant-loop-b : goal.invariant-loop-b
invariant-loop-b l = l.sum ≡ sum_of (take l.b-index l.s)
