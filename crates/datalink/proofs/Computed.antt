-- To unfold `computed` is to unfold every definition of this crate's written meanings, for examples and runs that are computed. Assumes nothing.
use Prim.{Unit, tt}
use Rattle.datalink.specs.Form.{framed}
use Rattle.datalink.specs.Frame.{ia_in, command_in, num_in, address_in, command_known, is_acknowledge, kind_of, kind_in, named_in, carried, form_right, lrc_right, range_right, change_allowed, change_right, ordered, asked}
use Rattle.datalink.specs.Answer.{response, ia_of, shown, interrogated, body_of, pended, echoed, new_byte, changed, applied_to, applied, acknowledged, obeyed, datalink_reply}
use Rattle.datalink.specs.Receiver.{once_come, starts_right, wanted, judged, step, held}

unfoldable pub computed : Unit {0}
unfolding framed ia_in command_in num_in address_in command_known is_acknowledge kind_of kind_in named_in carried form_right lrc_right range_right change_allowed change_right ordered asked response ia_of shown interrogated body_of pended echoed new_byte changed applied_to applied acknowledged obeyed datalink_reply once_come starts_right wanted judged step held
computed = tt
