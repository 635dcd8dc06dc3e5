-- To unfold `computed` is to unfold every definition of this crate's written meanings, for examples and runs that are computed. Assumes nothing.
use Prim.{Unit, tt}
use Rattle.love.specs.Frame.{for_unit, checksum_right, parameter_of, sign_right, number_in, asked}
use Rattle.love.specs.Answer.{unit_of, error_reply, normal_reply, written_data, value_data, status_data, probe_data, obeyed, love_reply}
use Rattle.love.specs.Receiver.{step, held}

unfoldable pub computed : Unit {0}
unfolding for_unit checksum_right parameter_of sign_right number_in asked unit_of error_reply normal_reply written_data value_data status_data probe_data obeyed love_reply step held
computed = tt
