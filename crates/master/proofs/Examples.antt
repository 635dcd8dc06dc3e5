-- Steps computed: what the step's equation shuts out, each beside what it lets pass. Assumes nothing.
use Rattle.std.proofs.Common.{◌≡◌, refl, List, [], ◌∷◌, ℕ, replicate}
use Prim.{Unit, tt}
use Rattle.wire.specs.Choose.{choose}
use Rattle.wire.specs.Sum.{total, sum_of}
use Rattle.datalink.specs.Form.{framed}
use Rattle.datalink.specs.Answer.{response}
use Rattle.wire.specs.Buffer.{same}
use Rattle.master.specs.Request.{Ask, askable, as_asked}
use Rattle.master.specs.Request.Ask.{bytes, bits}
use Rattle.master.specs.Frames.{body, change_frame, acknowledge_frame, interrogate_frame, echo, is_echo, is_response, all_asked, confirms}
use Rattle.master.specs.Step.{Move, sends, ends, move, step_of}
use Rattle.master.specs.declared.Phase.{Phase}
use Rattle.master.specs.declared.Phase.TheVariants.{New, Changing, Acknowledging, Reading, EndedDone, EndedUnknown}

-- to unfold this is to unfold every definition of a step
unfoldable all : Unit {0}
unfolding choose total sum_of framed response askable as_asked change_frame acknowledge_frame interrogate_frame same echo is_echo is_response all_asked confirms move step_of
all = tt

abbrev step : Ask → Phase → List ℕ → Move Phase
step a phase heard = step_of (record { ia = 3; address = 0x1010; ask = a }) phase heard 38

abbrev two : Ask
two = bytes (8 ∷ 12 ∷ [])

-- mask F0h and state 01h
abbrev one : Ask
one = bits (0xF0 ∷ []) (0x01 ∷ [])

-- 7E A3 02 10 10 08 0C D9: the change of two bytes
change : step two New [] ≡ sends (0x7E ∷ 0xA3 ∷ 0x02 ∷ 0x10 ∷ 0x10 ∷ 0x08 ∷ 0x0C ∷ 0xD9 ∷ []) Changing
unfolding all
change = refl

-- 7E C3 02 10 10 F0 01 D6: Change Bits carries mask, state
change_bits_law : step one New [] ≡ sends (0x7E ∷ 0xC3 ∷ 0x02 ∷ 0x10 ∷ 0x10 ∷ 0xF0 ∷ 0x01 ∷ 0xD6 ∷ []) Changing
unfolding all
change_bits_law = refl

-- an exact echo is acknowledged
acknowledged : step two Changing (0x7E ∷ 0x23 ∷ 0x02 ∷ 0x10 ∷ 0x10 ∷ 0x08 ∷ 0x0C ∷ 0x59 ∷ []) ≡ sends (0x7E ∷ 0x83 ∷ []) Acknowledging
unfolding all
acknowledged = refl

-- an echo of other data, with its own right LRC, is not
echo_of_others : step two Changing (0x7E ∷ 0x23 ∷ 0x02 ∷ 0x10 ∷ 0x10 ∷ 0x08 ∷ 0x0D ∷ 0x5A ∷ []) ≡ ends EndedUnknown
unfolding all
echo_of_others = refl

-- after the acknowledge's round comes the interrogate, whatever was heard
interrogated : step one Acknowledging (0x15 ∷ []) ≡ sends (0x7E ∷ 0xE3 ∷ 0x01 ∷ 0x10 ∷ 0x10 ∷ 0x04 ∷ []) Reading
unfolding all
interrogated = refl

-- F1h, and 51h too: every forced bit is as asked
read_back : step one Reading (0x7E ∷ 0x23 ∷ 0x01 ∷ 0x10 ∷ 0x10 ∷ 0x51 ∷ 0x95 ∷ []) ≡ ends EndedDone
unfolding all
read_back = refl

-- a forced bit that is not
not_forced : step one Reading (0x7E ∷ 0x23 ∷ 0x01 ∷ 0x10 ∷ 0x10 ∷ 0x50 ∷ 0x94 ∷ []) ≡ ends EndedUnknown
unfolding all
not_forced = refl

-- a repeated echo is no read-back
echo_again : step one Reading (echo (record { ia = 3; address = 0x1010; ask = one })) ≡ ends EndedUnknown
unfolding all
echo_again = refl

-- nor is a response of another unit, of another address or with a wrong LRC
other_unit : step one Reading (response 4 (body 1 0x1010 (0x51 ∷ []))) ≡ ends EndedUnknown
unfolding all
other_unit = refl

other_address : step one Reading (response 3 (body 1 0x1011 (0x51 ∷ []))) ≡ ends EndedUnknown
unfolding all
other_address = refl

wrong_lrc : step one Reading (0x7E ∷ 0x23 ∷ 0x01 ∷ 0x10 ∷ 0x10 ∷ 0x51 ∷ 0x96 ∷ []) ≡ ends EndedUnknown
unfolding all
wrong_lrc = refl

-- 7, then 11, then 10, at their limits

abbrev number : ℕ → ℕ → Ask → Phase → ℕ → ℕ
number ia address a phase room = (step_of (record { ia = ia; address = address; ask = a }) phase [] room).number

limits : List ℕ
limits =
    number 31 0 two New 38
    ∷ number 32 0 two New 38
    ∷ number 0 0 (bytes (replicate 32 0)) New 38
    ∷ number 0 0 (bytes (replicate 33 0)) New 38
    ∷ number 0 0 (bits (replicate 16 0) (replicate 16 0)) New 38
    ∷ number 0 0 (bits (replicate 17 0) (replicate 17 0)) New 38
    ∷ number 0 0 (bits (replicate 2 0) (replicate 1 0)) New 38
    ∷ number 0 65535 (bytes []) New 38
    ∷ number 0 65536 (bytes []) New 38
    ∷ number 0 65534 two New 38
    ∷ number 0 65535 two New 38
    ∷ number 32 0 two EndedDone 37
    ∷ number 31 0 two EndedDone 37
    ∷ number 31 0 two EndedDone 38
    ∷ []

limits_are : limits ≡ 0 ∷ 7 ∷ 0 ∷ 7 ∷ 0 ∷ 7 ∷ 7 ∷ 0 ∷ 7 ∷ 0 ∷ 7 ∷ 7 ∷ 11 ∷ 10 ∷ []
unfolding all limits
limits_are = refl
