-- `image::form::runs` meets its contract: the code's table is that of specs/Form.antt. Assumes nothing.
use Rattle.std.proofs.Common.{refl}
use Rattle.image.specs.Form.{saved_runs}
use Rattle.image.proofs.form.runs.Goals as goal

pub returns : goal.returns
unfolding saved_runs
returns c = refl
