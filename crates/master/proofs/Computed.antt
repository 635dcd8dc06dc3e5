-- To unfold `computed` is to unfold every definition of this crate's written meanings, for examples and runs that are computed. Assumes nothing.
use Prim.{Unit, tt}
use Rattle.master.specs.Request.{askable, as_asked, bit_of}
use Rattle.master.specs.Frames.{change_frame, acknowledge_frame, interrogate_frame, echo, is_echo, is_response, all_asked, confirms}
use Rattle.master.specs.Step.{move, step_of}

unfoldable pub computed : Unit {0}
unfolding askable as_asked bit_of change_frame acknowledge_frame interrogate_frame echo is_echo is_response all_asked confirms move step_of
computed = tt
