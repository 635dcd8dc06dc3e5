-- What a master hears in a reply. Document 02, M-102: "read each reply, refusals included"; "a reply that 01 has neither as an answer to that
-- request nor as a refusal from that address is 3, but 4 if only its check characters are wrong".
use Rattle.std.specs.Prelude.{ℕ, Bool, true, false, List, [], ◌∷◌, take, ◌==◌, Result, Ok, Err}
use Rattle.wire.specs.Choose.{choose}
use Rattle.card.specs.Numbers.{done, frame_form, check_character, value_outside}
use Rattle.asking.specs.declared.hearing.Group.{Group}
use Rattle.asking.specs.declared.hearing.Heard.{Heard}
use Rattle.asking.specs.declared.hearing.Heard.TheVariants.{Value, Values, Done as HeardDone, Fault as HeardFault, Refused as HeardRefused, RefusedFor}
use Rattle.asking.specs.declared.hearing.Unread.{Unread as Why}
use Rattle.asking.specs.declared.hearing.Unread.TheVariants.{Form, Check, Request}

pub data Hearing : Type 0 where
  -- a value; of a group one for each channel, lowest first
  Gives : List ℕ → Hearing
  Done : Hearing
  Fault : Hearing
  -- with the code or status that the reply carries, if it carries one
  Refused : List ℕ → Hearing
  -- none of these, by its number
  Unread : ℕ → Hearing

-- a group's values
abbrev pub values_in : Group → List ℕ
values_in g = take g.count g.values

-- what each case of the enum says
abbrev pub said_of : Heard → Hearing
said_of (Value value) = Gives (value ∷ [])
said_of (Values group) = Gives (values_in group)
said_of HeardDone = Done
said_of HeardFault = Fault
said_of HeardRefused = Refused []
said_of (RefusedFor code) = Refused (code ∷ [])

-- the number of each reason why nothing is said
abbrev pub number_in : Why → ℕ
number_in Form = frame_form
number_in Check = check_character
number_in Request = value_outside

-- the hearing that a result is
abbrev pub hearing_of : Result Heard Why → Hearing
hearing_of (Ok said) = said_of said
hearing_of (Err why) = Unread (number_in why)

-- what a comparison came to, by its number: 1 or the reason's
abbrev pub outcome_of : Result Unit Why → ℕ
outcome_of (Ok _) = done
outcome_of (Err why) = number_in why

-- the number of each hearing: "done is 1, since no bytes are handed over"
abbrev pub number_of : Hearing → ℕ
number_of (Gives values) = done
number_of Done = done
number_of Fault = done
number_of (Refused code) = done
number_of (Unread number) = number

-- its values: what is given, or the code or status of a refusal
abbrev pub values_of : Hearing → List ℕ
values_of (Gives values) = values
values_of Done = []
values_of Fault = []
values_of (Refused code) = code
values_of (Unread number) = []

-- the reply says something
abbrev pub is_said : Hearing → Bool
is_said (Gives values) = true
is_said Done = true
is_said Fault = true
is_said (Refused code) = true
is_said (Unread number) = false

-- what is heard where a reply was compared with this outcome (specs/Against.antt)
unfoldable pub heard_by : ℕ → Hearing → Hearing
heard_by number hearing = choose (number == done) hearing (Unread number)

-- "7 first, for a request that make would refuse"
unfoldable pub unless_outside : Bool → Hearing → Hearing
unless_outside askable hearing = choose askable hearing (Unread value_outside)
