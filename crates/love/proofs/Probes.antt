-- What an answer shows of the probes: 00 is answered by the reading of probe 0, and no reply depends on another probe. Assumes nothing.
use Rattle.std.proofs.Common.{◌≡◌, refl, List, [], ◌∷◌, ℕ, get_or, Result, Ok, Err}
use Rattle.wire.specs.Choose.{choose}
use Rattle.figures.specs.Figure.{zero_char, char_of, pair_of}
use Rattle.figures.specs.Decimal.{digits}
use Rattle.card.specs.Numbers.{answered}
use Rattle.card.specs.Layout.{Card}
use Rattle.card.specs.Probe.{reading_of}
use Rattle.card.specs.Reply.{sent, shell, room_least}
use Rattle.card.specs.declared.probe.Tenths.{Tenths}
use Rattle.card.specs.declared.probe.Reading.TheVariants.{Temperature, Fault}
use Rattle.love.specs.Form.{data_at}
use Rattle.love.specs.Frame.{asked}
use Rattle.love.specs.Answer.{unit_of, normal_reply, fine_char, fault_char, status_data, probe_data, address_of, obeyed, love_reply}
use Rattle.love.specs.declared.frame.Order.{Order}
use Rattle.love.specs.declared.frame.Order.TheVariants.{Probe, Read, Write}
use Rattle.love.specs.declared.frame.Refusal.{Refusal}
use Rattle.love.specs.declared.frame.Refusal.TheVariants.{Silent, Refused}

-- 00 is answered by the reading of probe 0, unless 12 or 11 comes first
pub probe_read : (card : Card) (room : ℕ) (f : List ℕ) → asked (address_of card.words) f ≡ Ok Probe
    → love_reply card room f ≡ shell room_least card room (sent answered (normal_reply (address_of card.words) (probe_data (reading_of (get_or card.memory 0 0)))) card)
unfolding love_reply obeyed
probe_read card room f order = rw order

-- the data for 00: D0000000 at a fault, and what begins with C for a temperature
pub fault_data : probe_data Fault ≡ fault_char ∷ zero_char ∷ zero_char ∷ zero_char ∷ zero_char ∷ zero_char ∷ zero_char ∷ zero_char ∷ []
unfolding probe_data status_data digits char_of choose
fault_data = refl

pub temperature_data : (tenths : Tenths) → (rest : List ℕ) × (probe_data (Temperature tenths) ≡ fine_char ∷ rest)
unfolding probe_data status_data
temperature_data tenths = (_, refl)

-- where the first character of the data stands in a normal reply
pub first_of_data : (address x : ℕ) (rest field : List ℕ) → field ≡ x ∷ rest → get_or (normal_reply address field) data_at 0 ≡ x
unfolding normal_reply unit_of pair_of
first_of_data address x rest field e = rw e

-- the reply depends on the code of probe 0 where the frame asks for it, and on no other byte of the memory
pub asked_alone : (words memory memory' f : List ℕ) → (asked (address_of words) f ≡ Ok Probe → get_or memory 0 0 ≡ get_or memory' 0 0)
    → obeyed words memory (asked (address_of words) f) ≡ obeyed words memory' (asked (address_of words) f)
unfolding obeyed
asked_alone words memory memory' f = by (asked (address_of words) f)
  where
    by : (order : Result Order Refusal) → (order ≡ Ok Probe → get_or memory 0 0 ≡ get_or memory' 0 0) → obeyed words memory order ≡ obeyed words memory' order
    by (Err (Silent number)) same = refl
    by (Err (Refused number code)) same = refl
    by (Ok Probe) same = rw (same refl)
    by (Ok (Read k)) same = refl
    by (Ok (Write k word)) same = refl
