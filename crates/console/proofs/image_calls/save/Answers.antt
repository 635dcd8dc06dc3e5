-- `console::image_calls::save` meets its contract. Assumes nothing.
use Rattle.std.proofs.Common.{sym}
use Rattle.std.proofs.Math.Seq.{length-take-le}
use Rattle.console.proofs.Answers.{answer_fits}
use Rattle.console.proofs.image_calls.save.Goals as goal

pub slice_bounds-tell-end : goal.slice_bounds-tell-end
slice_bounds-tell-end c = sym (length-take-le _ _ (answer_fits c.write_image-given.ensures))
