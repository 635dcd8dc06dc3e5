-- `image::store_run` meets its contract. The invariant: the words stored, and then those that are left, are the run. Assumes nothing.
use Rattle.std.proofs.Common.{◌≡◌, drop}
use Rattle.image.specs.Form.{entries_of_run}
use Rattle.image.specs.Saved.{replaced}
use Rattle.image.proofs.Runs.{left}
use Rattle.image.proofs.store_run.Given as goal

abbrev pub invariant-loop-i : goal.invariant-loop-i
invariant-loop-i l = replaced (left l.run l.i) l.words (drop l.i l.values) ≡ replaced (entries_of_run l.run) l.initial.words l.values
