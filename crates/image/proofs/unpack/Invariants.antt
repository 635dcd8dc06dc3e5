-- `image::unpack` meets its contract. The invariant: the runs before this one are read, and the reader stands where it begins. Assumes nothing.
use Rattle.std.proofs.Common.{◌≡◌}
use Rattle.image.specs.Scans.{first_of}
use Rattle.image.proofs.Walking.{At, Filled}
use Rattle.image.proofs.unpack.Given as goal

abbrev pub invariant-loop-run : goal.invariant-loop-run
invariant-loop-run l = (l.first ≡ first_of l.run-index) × (l.r.image.now ≡ l.image) × (At l.run-index l.r.place) × (Filled l.image l.run-index l.r.place l.values)
