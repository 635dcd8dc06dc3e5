-- To unfold `computed` is to unfold every definition of this crate's written meanings, for examples and runs that are computed. Assumes nothing.
use Prim.{Unit, tt}
use Rattle.receive.specs.Parts.{within, all_within}
use Rattle.receive.specs.Receive.{collected_row, collected, ready, receive_reply, quiet_reply}

unfoldable pub computed : Unit {0}
unfolding within all_within collected_row collected ready receive_reply quiet_reply
computed = tt
