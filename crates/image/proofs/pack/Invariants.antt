-- `image::pack` meets its contract: the runs, one after another, and then the padding are the whole image. Assumes nothing.
use Rattle.std.proofs.Common.{◌≡◌, ◌+◌}
use Rattle.bits.specs.Packing.{packed, place_of}
use Rattle.image.specs.Form.{saved_form, used}
use Rattle.image.specs.Scans.{rest_of}
use Rattle.image.specs.Saved.{put_entries}
use Rattle.image.proofs.pack.Given as goal

abbrev pub invariant-loop-run : goal.invariant-loop-run
invariant-loop-run l = (place_of l.p + used (rest_of l.run-index) ≡ used saved_form)
    × (put_entries (rest_of l.run-index) l.words (packed l.image l.p) (place_of l.p) ≡ put_entries saved_form l.words l.initial.image 0)
