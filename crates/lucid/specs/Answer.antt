-- What the card answers to a LucidControl frame, and what its words become. Document 01, "LucidControl", and document 02, M-103.
use Rattle.std.specs.Prelude.{ℕ, zero, suc, ◌+◌, ◌*◌, ◌/◌, ◌%◌, Bool, false, ◌&&◌, not, List, [], ◌∷◌, ◌++◌, Result, Ok, Err, eqb, length, get_or, set}
use Rattle.wire.specs.Choose.{choose}
use Rattle.wire.specs.Word.{word_values}
use Rattle.card.specs.Numbers.{answered, probe_fault}
use Rattle.card.specs.Layout.{Card, demands_at, parameters_each, parameters_at, saved_parameters_at}
use Rattle.card.specs.Fitness.{cycle_default, floor_default}
use Rattle.card.specs.Probe.{reading_of}
use Rattle.card.specs.Reply.{Reply, WordsReply, Answer, on_words, leaving, room_least, shell}
use Rattle.card.specs.declared.probe.Tenths.{Tenths}
use Rattle.card.specs.declared.probe.Reading.{Reading}
use Rattle.card.specs.declared.probe.Reading.TheVariants.{Temperature, Fault}
use Rattle.lucid.specs.Form.{data_at, channels_of, demand, tenths, demand_size, tenths_size, hundredths_size, parameter_size, ok, err_execution, little, number_at}
use Rattle.lucid.specs.Frame.{asked}
use Rattle.lucid.specs.declared.answer.Hundredths.{Hundredths}
use Rattle.lucid.specs.declared.frame.Order.{Order}
use Rattle.lucid.specs.declared.frame.Order.TheVariants.{GetIo, SetIo, GetParam, SetParam, Reset}
use Rattle.lucid.specs.declared.frame.Refusal.{Refusal}
use Rattle.lucid.specs.declared.frame.Refusal.TheVariants.{Silent, Refused}

-- what is read of channels: the bytes of their values one after another, or a failed probe
pub data Values : Type 0 where
  Held : List ℕ → Values
  Failed : Values

-- "One failed probe refuses a whole group"
unfoldable pub joined : Values → Values → Values
joined (Held a) (Held b) = Held (a ++ b)
joined (Held a) Failed = Failed
joined Failed rest = Failed

-- the values of channels, in their order
unfoldable pub group : (ℕ → Values) → List ℕ → Values
group value [] = Held []
group value (k ∷ ks) = joined (value k) (group value ks)

-- hundredths of a degree for each tenth
abbrev pub hundredths_per_tenth : ℕ
hundredths_per_tenth = 10

-- hundredths of a degree are ten times the tenths, as a word
unfoldable pub hundredths_of : Tenths → Hundredths
hundredths_of t = record { 0 = hundredths_per_tenth * t.0 % word_values }

-- a temperature in type 40h, else 41h
unfoldable pub temperature_in : ℕ → Tenths → List ℕ
temperature_in valueType t = choose (eqb valueType tenths) (little tenths_size t.0) (little hundredths_size (hundredths_of t).0)

-- "In every probe reading a temperature is taken out of the reading, or the fault is answered"
unfoldable pub reading_in : ℕ → Reading → Values
reading_in valueType (Temperature t) = Held (temperature_in valueType t)
reading_in valueType Fault = Failed

-- the value of a channel: its demand in type 10h, else its probe
unfoldable pub value_of : List ℕ → List ℕ → ℕ → ℕ → Values
value_of ws memory valueType channel =
    choose (eqb valueType demand) (Held (little demand_size (get_or ws (demands_at + channel) 0))) (reading_in valueType (reading_of (get_or memory channel 0)))

-- "answer: status, LEN, data"
abbrev pub told : ℕ → ℕ → List ℕ → Answer
told number status bytes = record { number = number; bytes = status ∷ length bytes ∷ bytes }

-- "A refusal answers its status and LEN 0"
abbrev pub refused : ℕ → ℕ → Answer
refused number status = told number status []

-- what a refusal answers: a silent one its number, with no byte on the wire
abbrev pub turned_down : Refusal → Answer
turned_down (Silent number) = record { number = number; bytes = [] }
turned_down (Refused number status) = refused number status

-- a command that was done and gives no data
abbrev pub done : Answer
done = told answered ok []

-- a probe at fault: no temperature is in it; "fault (9, D0h)"
abbrev pub faulted : Answer
faulted = refused probe_fault err_execution

-- what is told of values
unfoldable pub read : Values → Answer
read (Held bytes) = told answered ok bytes
read Failed = faulted

-- the words with the demands of channels set, in their order, from the frame's bytes at an index on
unfoldable pub demanded : List ℕ → List ℕ → ℕ → List ℕ → List ℕ
demanded [] f at ws = ws
demanded (channel ∷ rest) f at ws = demanded rest f (at + demand_size) (set ws (demands_at + channel) (number_at demand_size f at))

-- the words with a parameter set; "Option 80h also sets the saved copy"
unfoldable pub stored : ℕ → Bool → ℕ → List ℕ → List ℕ
stored place saved value ws =
    choose saved (set (set ws (parameters_at + place) value) (saved_parameters_at + place) value) (set ws (parameters_at + place) value)

-- a parameter's default: 1110h stands at even places, 1120h at odd ones
unfoldable pub default_of : ℕ → ℕ
default_of place = choose (eqb (place % parameters_each) 0) cycle_default floor_default

-- document 02, M-103: option 01h "resets that one parameter; with 80h its saved copy too"
unfoldable pub reset : ℕ → Bool → List ℕ → List ℕ
reset place saved ws = stored place saved (default_of place) ws

-- what the card does with an order or a refusal: what it answers, and the words that it leaves
unfoldable pub obeyed : List ℕ → List ℕ → List ℕ → Result Order Refusal → WordsReply
obeyed ws memory f (Err refusal) = leaving ws (turned_down refusal)
obeyed ws memory f (Ok (GetIo valueType mask)) = leaving ws (read (group (value_of ws memory valueType) (channels_of mask)))
obeyed ws memory f (Ok (SetIo mask)) = leaving (demanded (channels_of mask) f data_at ws) done
obeyed ws memory f (Ok (GetParam place)) = leaving ws (told answered ok (little parameter_size (get_or ws (parameters_at + place) 0)))
obeyed ws memory f (Ok (SetParam place saved value)) = leaving (stored place saved value ws) done
obeyed ws memory f (Ok (Reset place saved)) = leaving (reset place saved ws) done

-- the entry's whole meaning; room is the answer buffer's length
unfoldable pub lucid_reply : Card → ℕ → List ℕ → Reply
lucid_reply card room f = shell room_least card room (on_words card (obeyed card.words card.memory f (asked f)))

-- the mask names a channel: the channel's bit, counted from the lowest
unfoldable pub named : ℕ → ℕ → Bool
named zero mask = eqb (mask % 2) 1
named (suc channel) mask = named channel (mask / 2)

-- an order asks for the probe of a channel
unfoldable pub reads_probe : Result Order Refusal → ℕ → Bool
reads_probe (Err refusal) channel = false
reads_probe (Ok (GetIo valueType mask)) channel = not (eqb valueType demand) && named channel mask
reads_probe (Ok (SetIo mask)) channel = false
reads_probe (Ok (GetParam place)) channel = false
reads_probe (Ok (SetParam place saved value)) channel = false
reads_probe (Ok (Reset place saved)) channel = false

-- a frame does
unfoldable pub asks_probe : List ℕ → ℕ → Bool
asks_probe f channel = reads_probe (asked f) channel
