-- `figures::put_digits` meets its contract. The invariant: with the j figures of v still to put, the buffer is what it becomes. Assumes nothing.
use Rattle.std.proofs.Common.{◌≡◌, length}
use Rattle.wire.specs.Buffer.{put}
use Rattle.figures.specs.Decimal.{digits}
use Rattle.figures.proofs.put_digits.Given as goal

abbrev pub invariant-loop-j : goal.invariant-loop-j
invariant-loop-j l = (length l.out ≡ length l.initial.out) × (put l.out l.at (digits l.j l.v) ≡ put l.initial.out l.at (digits l.k l.n))
