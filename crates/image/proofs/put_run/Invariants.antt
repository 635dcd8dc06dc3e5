-- `image::put_run` meets its contract. The invariant: the entries put, and then those that are left, are the run. Assumes nothing.
use Rattle.std.proofs.Common.{◌≡◌, ◌+◌}
use Rattle.bits.specs.Packing.{packed, place_of}
use Rattle.image.specs.Form.{entries_of_run, used}
use Rattle.image.specs.Saved.{put_entries}
use Rattle.image.proofs.Runs.{left}
use Rattle.image.proofs.put_run.Given as goal

abbrev pub invariant-loop-word : goal.invariant-loop-word
invariant-loop-word l = (place_of l.q + used (left l.run l.word-index) ≡ place_of l.initial.q + used (entries_of_run l.run))
    × (put_entries (left l.run l.word-index) l.words (packed l.image l.q) (place_of l.q) ≡ put_entries (entries_of_run l.run) l.words (packed l.initial.image l.initial.q) (place_of l.initial.q))
