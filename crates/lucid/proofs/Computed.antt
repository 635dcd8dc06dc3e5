-- To unfold `computed` is to unfold every definition of this crate's written meanings, for examples and runs that are computed. Assumes nothing.
use Prim.{Unit, tt}
use Rattle.lucid.specs.Form.{channels_from, size_of, little, number_at}
use Rattle.lucid.specs.Frame.{mask_of, len_for, place_of, asked}
use Rattle.lucid.specs.Answer.{joined, group, hundredths_of, temperature_in, reading_in, value_of, read, demanded, stored, default_of, reset, obeyed, lucid_reply, named, reads_probe, asks_probe}
use Rattle.lucid.specs.Receiver.{complete, step, held}

unfoldable pub computed : Unit {0}
unfolding channels_from size_of little number_at mask_of len_for place_of asked joined group hundredths_of temperature_in reading_in value_of read demanded stored default_of reset obeyed lucid_reply named reads_probe asks_probe complete step held
computed = tt
