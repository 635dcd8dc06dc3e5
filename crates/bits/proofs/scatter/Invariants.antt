-- `bits::scatter` meets its contract. The invariant: the bytes that are left to write, with what is left of the number, give the whole write. Assumes nothing.
use Rattle.std.proofs.Common.{◌≡◌, ◌*◌}
use Rattle.bits.specs.Bits.{put_field}
use Rattle.bits.proofs.Reading.{Bytes}
use Rattle.bits.proofs.scatter.Given as goal

abbrev pub invariant-loop-left : goal.invariant-loop-left
invariant-loop-left l = Bytes l.image × (put_field l.image (8 * l.first) (8 * l.left) l.rest ≡ put_field l.initial.image (8 * l.first) (8 * l.count) l.n)
