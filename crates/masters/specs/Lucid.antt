-- LucidControl's master and card, as a dialect (Rattle.asking.specs.Claims). It has no addresses and no check characters.
use Rattle.std.specs.Prelude.{ℕ, zero, suc, ◌+◌, ◌^◌, true, List, [], ◌∷◌, eqb, length, get_or, Result, Ok, Err}
use Rattle.wire.specs.Choose.{choose}
use Rattle.card.specs.Layout.{Card, demands_at, parameters_at}
use Rattle.card.specs.Probe.{reading_of}
use Rattle.card.specs.declared.probe.Tenths.{Tenths}
use Rattle.card.specs.declared.probe.Reading.{Reading}
use Rattle.card.specs.declared.probe.Reading.TheVariants.{Temperature, Fault as FaultRead}
use Rattle.lucid.specs.Form.{data_at, channels_of, demand, tenths, demand_size, default, persistent, number_at, err_execution}
use Rattle.lucid.specs.Frame.{opc_in, place_of, asked}
use Rattle.lucid.specs.Answer.{Values, Held, Failed, group, hundredths_of, lucid_reply}
use Rattle.lucid.specs.declared.frame.Order.{Order}
use Rattle.lucid.specs.declared.frame.Refusal.{Refusal}
use Rattle.lucid.specs.declared.frame.Order.TheVariants.{GetIo as GetOrder, SetIo as SetOrder}
use Rattle.lucid.specs.declared.frame.Order.TheVariants.{GetParam as GetParamOrder, SetParam as SetParamOrder, Reset as ResetOrder}
use Rattle.asking.specs.Hearing.{Hearing}
use Rattle.asking.specs.Hearing.Hearing.{Gives, Done, Fault, Refused}
use Rattle.asking.specs.Claims.{Dialect}
use Rattle.lucid_master.specs.Request.{Asking, opc_of, askable, made}
use Rattle.lucid_master.specs.Heard.{heard}
use Rattle.lucid_master.specs.declared.request.Command.{Command}
use Rattle.lucid_master.specs.declared.request.Command.TheVariants.{GetIo, GetIoGroup, SetIo, SetIoGroup, GetParam, SetParam, Reset}

-- what a frame asks: the command that it names, the order and, since that of SetIo has its mask alone, the demands that it sets
pub record Asked : Type 0 where
  pub opc : ℕ
  pub order : Result Order Refusal
  pub demands : List ℕ

-- n demands, from an index of a frame on
unfoldable pub demands_from : ℕ → List ℕ → ℕ → List ℕ
demands_from zero f at = []
demands_from (suc n) f at = number_at demand_size f at ∷ demands_from n f (at + demand_size)

-- the demands that a frame with this order sets
unfoldable pub demands_in : Result Order Refusal → List ℕ → List ℕ
demands_in (Err refusal) f = []
demands_in (Ok (GetOrder valueType mask)) f = []
demands_in (Ok (SetOrder mask)) f = demands_from (length (channels_of mask)) f data_at
demands_in (Ok (GetParamOrder place)) f = []
demands_in (Ok (SetParamOrder place saved value)) f = []
demands_in (Ok (ResetOrder place saved)) f = []

-- what a frame asks
unfoldable pub asked_in : List ℕ → Asked
asked_in f = record { opc = opc_in f; order = asked f; demands = demands_in (asked f) f }

-- the order that a command with this P1, P2, address and values is to be
unfoldable pub order_of : Command → ℕ → ℕ → ℕ → List ℕ → Result Order Refusal
order_of GetIo p1 p2 address values = Ok (GetOrder p2 (2 ^ p1))
order_of GetIoGroup p1 p2 address values = Ok (GetOrder p2 p1)
order_of SetIo p1 p2 address values = Ok (SetOrder (2 ^ p1))
order_of SetIoGroup p1 p2 address values = Ok (SetOrder p1)
order_of GetParam p1 p2 address values = Ok (GetParamOrder (place_of p1 address))
order_of SetParam p1 p2 address values = Ok (SetParamOrder (place_of p1 address) (eqb p2 persistent) (get_or values 0 0))
order_of Reset p1 p2 address values = Ok (ResetOrder (place_of p1 address) (eqb p2 (default + persistent)))

-- the demands that it is to set
unfoldable pub demands_of : Command → List ℕ → List ℕ
demands_of GetIo values = []
demands_of GetIoGroup values = []
demands_of SetIo values = values
demands_of SetIoGroup values = values
demands_of GetParam values = []
demands_of SetParam values = []
demands_of Reset values = []

-- what a request is to ask
unfoldable pub asked_of : Asking → Asked
asked_of q =
    record {
      opc = opc_of q.request.command;
      order = order_of q.request.command q.request.p1 q.request.p2 q.request.address q.values;
      demands = demands_of q.request.command q.values;
    }

-- the word of a temperature in type 40h, else 41h
unfoldable pub temperature_word : ℕ → Tenths → ℕ
temperature_word valueType t = choose (eqb valueType tenths) t.0 (hundredths_of t).0

-- the word of a reading
unfoldable pub reading_word : ℕ → Reading → Values
reading_word valueType (Temperature t) = Held (temperature_word valueType t ∷ [])
reading_word valueType FaultRead = Failed

-- the word that a card holds of a channel: its demand in type 10h, else its probe's temperature, unless that is at fault
unfoldable pub word_in : Card → ℕ → ℕ → Values
word_in card valueType channel =
    choose (eqb valueType demand) (Held (get_or card.words (demands_at + channel) 0 ∷ []))
    (reading_word valueType (reading_of (get_or card.memory channel 0)))

-- what words say: "One failed probe refuses a whole group"
unfoldable pub said_by : Values → Hearing
said_by (Held words) = Gives words
said_by Failed = Fault

-- what a card answers to a command: what it holds, or that it did it
unfoldable pub answer_to : Card → Command → ℕ → ℕ → ℕ → Hearing
answer_to card GetIo p1 p2 address = said_by (word_in card p2 p1)
answer_to card GetIoGroup p1 p2 address = said_by (group (word_in card p2) (channels_of p1))
answer_to card SetIo p1 p2 address = Done
answer_to card SetIoGroup p1 p2 address = Done
answer_to card GetParam p1 p2 address = Gives (get_or card.words (parameters_at + place_of p1 address) 0 ∷ [])
answer_to card SetParam p1 p2 address = Done
answer_to card Reset p1 p2 address = Done

-- and to a request
unfoldable pub answer_of : Card → Asking → Hearing
answer_of card q = answer_to card q.request.command q.request.p1 q.request.p2 q.request.address

-- what a refusal says: D0h a fault, any other status that it is refused for that
unfoldable pub refusal_in : List ℕ → Hearing
refusal_in bytes = choose (eqb (get_or bytes 0 0) err_execution) Fault (Refused (get_or bytes 0 0 ∷ []))

-- the dialect
abbrev pub lucid_master : Dialect
lucid_master =
    record {
      Request = Asking;
      numbers = λ q. q.request.p1 ∷ q.request.p2 ∷ q.request.address ∷ q.values;
      address = λ q. 0;
      askable = askable;
      made = made;
      Asked = Asked;
      is_unit = λ unit. true;
      asked = λ unit f. asked_in f;
      asked_of = λ q unit. asked_of q;
      reply = lucid_reply;
      unit_of = λ card. 0;
      answer_of = answer_of;
      refusal_of = λ reply. refusal_in reply.bytes;
      heard = heard;
      check_back = λ q. 0;
      check_size = λ q. 0;
    }
