-- Love, as its master and its card have it: the dialect of which the four claims are made. Document 02, M-102.
use Rattle.std.specs.Prelude.{ℕ, ◌+◌, List, [], ◌∷◌, eqb, get_or, Result, Ok, Err}
use Rattle.wire.specs.Choose.{choose}
use Rattle.figures.specs.Figure.{upper_hex}
use Rattle.card.specs.Numbers.{foreign_address}
use Rattle.card.specs.Layout.{Card, love_at}
use Rattle.card.specs.Fitness.{love_right}
use Rattle.card.specs.Probe.{reading_of}
use Rattle.card.specs.Reply.{Reply}
use Rattle.card.specs.declared.probe.Reading.{Reading}
use Rattle.card.specs.declared.probe.Reading.TheVariants.{Temperature, Fault as Failed}
use Rattle.love.specs.Frame.{byte_at, asked}
use Rattle.love.specs.Answer.{address_of, love_reply}
use Rattle.love.specs.declared.frame.Order.{Order}
use Rattle.love.specs.declared.frame.Refusal.{Refusal}
use Rattle.love.specs.declared.frame.Order.TheVariants.{Probe, Read as ReadOrder, Write as WriteOrder}
use Rattle.love.specs.declared.frame.Refusal.TheVariants.{Silent}
use Rattle.asking.specs.Hearing.{Hearing}
use Rattle.asking.specs.Hearing.Hearing.{Gives, Done, Fault, Refused}
use Rattle.asking.specs.Claims.{Dialect}
use Rattle.love_master.specs.declared.request.Task.{Task}
use Rattle.love_master.specs.declared.request.Task.TheVariants.{Status, Read, Write}
use Rattle.love_master.specs.declared.request.Request.{Request}
use Rattle.love_master.specs.Request.{askable, made}
use Rattle.love_master.specs.Heard.{check_back, check_size, code_at, heard}

-- the numbers of a task
abbrev pub numbers_in : Task → List ℕ
numbers_in Status = []
numbers_in (Read place) = place ∷ []
numbers_in (Write place value) = place ∷ value ∷ []

-- what a task is to the unit that it reaches: the command and its values
abbrev pub order_of : Task → Result Order Refusal
order_of Status = Ok Probe
order_of (Read place) = Ok (ReadOrder place)
order_of (Write place value) = Ok (WriteOrder place value)

-- what a request is to ask of a unit: every other unit takes it as a foreign one
unfoldable pub asked_of : Request → ℕ → Result Order Refusal
asked_of q unit = choose (eqb q.address unit) (order_of q.task) (Err (Silent foreign_address))

-- what a probe's reading is heard as
abbrev pub heard_reading : Reading → Hearing
heard_reading (Temperature tenths) = Gives (tenths.0 ∷ [])
heard_reading Failed = Fault

-- what a card answers to a task, by what it holds
abbrev pub answer_to : Card → Task → Hearing
answer_to card Status = heard_reading (reading_of (get_or card.memory 0 0))
answer_to card (Read place) = Gives (get_or card.words (love_at + place) 0 ∷ [])
answer_to card (Write place value) = Done

-- "Error reply: STX, filter, address, N, code, ACK": a refusal says its code
abbrev pub refusal_of : Reply → Hearing
refusal_of reply = Refused (byte_at upper_hex reply.bytes code_at ∷ [])

abbrev pub love_master : Dialect
love_master =
    record {
      Request = Request;
      numbers = λ q. q.address ∷ numbers_in q.task;
      address = λ q. q.address;
      askable = askable;
      made = made;
      Asked = Result Order Refusal;
      is_unit = love_right;
      asked = asked;
      asked_of = asked_of;
      reply = love_reply;
      unit_of = λ card. address_of card.words;
      answer_of = λ card q. answer_to card q.task;
      refusal_of = refusal_of;
      heard = heard;
      check_back = λ _. check_back;
      check_size = λ _. check_size;
    }
