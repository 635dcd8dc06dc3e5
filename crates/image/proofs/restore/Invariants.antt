-- `image::restore` meets its contract: the runs, one after another, are the form. Assumes nothing.
use Rattle.std.proofs.Common.{◌≡◌, drop}
use Rattle.image.specs.Form.{saved_form}
use Rattle.image.specs.Scans.{rest_of, first_of}
use Rattle.image.specs.Saved.{replaced}
use Rattle.image.proofs.restore.Given as goal

abbrev pub invariant-loop-run : goal.invariant-loop-run
invariant-loop-run l = (l.first ≡ first_of l.run-index) × (replaced (rest_of l.run-index) l.words (drop l.first l.values) ≡ replaced saved_form l.initial.words l.values)
