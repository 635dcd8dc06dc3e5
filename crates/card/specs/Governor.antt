-- The governor's reading: "degrees, or the word fault and no degrees (9), or the word refused (12, then 6 for a channel above 3)".
use Rattle.std.specs.Prelude.{◌≡◌, ℕ, ◌-◌, ◌*◌, Bool, true, false, List, [], ◌∷◌, ◌==◌, from_bits, nat_lt, slice_index, to_bits, Float}
use Rattle.std.specs.Float.Ieee.{odd}
use Rattle.std.specs.Float.{binary32}
use Rattle.wire.specs.Choose.{choose}
use Rattle.card.specs.Numbers.{answered, range_unknown, probe_fault, card_unfit}
use Rattle.card.specs.Layout.{Card, channels}
use Rattle.card.specs.Fitness.{fit}
use Rattle.card.specs.Probe.{reading_of}
use Rattle.card.specs.Reply.{Reply, Answer, sent}
use Rattle.card.specs.declared.probe.Reading.{Reading}
use Rattle.card.specs.declared.probe.Reading.TheVariants.{Temperature, Fault as Failed}
use Rattle.card.specs.declared.governor.Governor.{Governor}
use Rattle.card.specs.declared.governor.Governor.TheVariants.{Degrees, Fault, Refused}

-- "half the code less 40"
abbrev pub degrees_below : ℕ
degrees_below = 40

-- the code that is 0 °C
abbrev pub zero_code : ℕ
zero_code = 2 * degrees_below

-- the float ± n / 2, written in the one way that an f32 (24 significant bits) is written; no float is computed with
abbrev pub significant_bits : ℕ
significant_bits = 24

unfoldable pub degrees_of : ℕ → Float
degrees_of code =
    choose (nat_lt code zero_code) (odd significant_bits true (zero_code - code) 0 1) (odd significant_bits false (code - zero_code) 0 1)

-- what the governor is told of a code, by what the code is read as
abbrev pub told_by : Reading → ℕ → Governor
told_by (Temperature tenths) code = Degrees (degrees_of code)
told_by Failed code = Fault

unfoldable pub told_of : ℕ → Governor
told_of code = told_by (reading_of code) code

-- what the governor is told of a channel
unfoldable pub governor_of : Card → ℕ → Governor
governor_of card channel =
    choose (fit card)
    (choose (nat_lt channel channels) (told_of (slice_index card.memory channel)) (Refused range_unknown))
    (Refused card_unfit)

-- document 01's number of each case
abbrev pub number_of : Governor → ℕ
number_of (Degrees d) = answered
number_of Fault = probe_fault
number_of (Refused number) = number

-- the values of each case: the f32's bits, or none
abbrev pub values_of : Governor → List ℕ
values_of (Degrees d) = to_bits binary32 d ∷ []
values_of Fault = []
values_of (Refused number) = []

-- the case that a number and values stand for, as one who has only these reads them
unfoldable pub case_of : ℕ → List ℕ → Governor
case_of number values =
    choose (number == answered) (Degrees (from_bits binary32 (slice_index values 0)))
    (choose (number == probe_fault) Fault
    (Refused number))

-- what is answered of a code, by what the code is read as: the degrees' bits, or 9 and no values
abbrev pub answer_by : Reading → ℕ → Answer
answer_by (Temperature tenths) code = record { number = answered; bytes = to_bits binary32 (degrees_of code) ∷ [] }
answer_by Failed code = record { number = probe_fault; bytes = [] }

-- a test, and the number that refuses where it fails
abbrev pub unless : Bool → ℕ → Answer → Answer
unless test number rest = choose test rest (record { number = number; bytes = [] })

-- document 01's number and values: "12, then 6 for a channel above 3", then the fault or the degrees
unfoldable pub governor_answer : Card → ℕ → Answer
governor_answer card channel =
    unless (fit card) card_unfit
    (unless (nat_lt channel channels) range_unknown
    (answer_by (reading_of (slice_index card.memory channel)) (slice_index card.memory channel)))

-- the entry's whole meaning; every table stays
abbrev pub governor_reply : Card → ℕ → Reply
governor_reply card channel = sent (governor_answer card channel).number (governor_answer card channel).bytes card

-- the governor was told r of a channel: the case itself, the number and the values of the case, and the card as it then stands
pub record GovernorTold (card : Card) (channel : ℕ) (r : Governor) (card' : Card) : Type 0 where
  pub case : r ≡ governor_of card channel
  pub numbered : number_of r ≡ (governor_reply card channel).number
  pub valued : values_of r ≡ (governor_reply card channel).bytes
  pub left : card' ≡ (governor_reply card channel).card
