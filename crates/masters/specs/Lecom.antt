-- LECOM's master and card, as a dialect of crates/asking/specs/Claims.antt. Document 02, M-102, with document 01, "LECOM".
use Rattle.std.specs.Prelude.{ℕ, ◌+◌, ◌/◌, ◌%◌, Bool, ◌||◌, List, [], ◌∷◌, eqb, get_or, Option, Some, None, Result, Err}
use Rattle.wire.specs.Choose.{choose}
use Rattle.figures.specs.Figure.{decimal}
use Rattle.card.specs.Numbers.{foreign_address}
use Rattle.card.specs.Layout.{Card, operational_at}
use Rattle.card.specs.Fitness.{lecom_right}
use Rattle.card.specs.Probe.{reading_of}
use Rattle.card.specs.declared.probe.Reading.{Reading}
use Rattle.card.specs.declared.probe.Reading.TheVariants.{Temperature, Fault}
use Rattle.lecom.specs.Form.{named_by}
use Rattle.lecom.specs.Frame.{ordering, asked}
use Rattle.lecom.specs.Answer.{address_of, lecom_reply}
use Rattle.lecom.specs.declared.form.Named.{Named}
use Rattle.lecom.specs.declared.form.Named.TheVariants.{Register, Probe, Activate, Store}
use Rattle.lecom.specs.declared.frame.Order.{Order}
use Rattle.lecom.specs.declared.frame.Refusal.{Refusal}
use Rattle.lecom.specs.declared.frame.Order.TheVariants.{Read as ReadOrder, Write as WriteOrder}
use Rattle.lecom.specs.declared.frame.Refusal.TheVariants.{Silent}
use Rattle.asking.specs.Hearing.{Hearing}
use Rattle.asking.specs.Hearing.Hearing.{Gives, Done, Refused}
use Rattle.asking.specs.Claims.{Dialect}
use Rattle.lecom_master.specs.Request.{askable, made}
use Rattle.lecom_master.specs.Heard.{check_size, heard}
use Rattle.lecom_master.specs.declared.request.Task.{Task}
use Rattle.lecom_master.specs.declared.request.Task.TheVariants.{Read, Write}
use Rattle.lecom_master.specs.declared.request.Request.{Request}

-- the numbers in a task
unfoldable pub numbers_in : Task → List ℕ
numbers_in (Read code) = code ∷ []
numbers_in (Write code value) = code ∷ value ∷ []

-- what a task is to ask of a unit that it reaches: a code by what it names
unfoldable pub order_of : Task → Result Order Refusal
order_of (Read code) = ordering ReadOrder (named_by code)
order_of (Write code value) = ordering (λ (named : Named). WriteOrder named value) (named_by code)

-- "Address 00, or the unit's tens figure followed by 0, reaches the unit", and so does its own
unfoldable pub addresses : ℕ → ℕ → Bool
addresses address unit =
    choose (eqb (address % decimal) 0) (eqb (address / decimal) 0 || eqb (address / decimal) (unit / decimal)) (eqb address unit)

-- what a request is to ask of the unit at an address
unfoldable pub asked_of : Request → ℕ → Result Order Refusal
asked_of q unit = choose (addresses q.address unit) (order_of q.task) (Err (Silent foreign_address))

-- what a probe's reading is told as: "LECOM's NAK says only refused"
unfoldable pub heard_reading : Reading → Hearing
heard_reading (Temperature tenths) = Gives (tenths.0 ∷ [])
heard_reading Fault = Refused []

-- what a card holds, of what is named: a register's operational copy, a probe's reading; ACTIVATE and STORE "read 0"
unfoldable pub held_by : Card → Option Named → Hearing
held_by card (Some (Register k)) = Gives (get_or card.words (operational_at + k) 0 ∷ [])
held_by card (Some (Probe channel)) = heard_reading (reading_of (get_or card.memory channel 0))
held_by card (Some Activate) = Gives (0 ∷ [])
held_by card (Some Store) = Gives (0 ∷ [])
held_by card None = Refused []

-- what a card answers to a task
unfoldable pub answer_to : Card → Task → Hearing
answer_to card (Read code) = held_by card (named_by code)
answer_to card (Write code value) = Done

-- a read's answer has a BCC, ACK has none
unfoldable pub checks_in : Task → ℕ
checks_in (Read code) = check_size
checks_in (Write code value) = 0

abbrev pub lecom_master : Dialect
lecom_master =
    record {
      Request = Request;
      numbers = λ q. q.address ∷ numbers_in q.task;
      address = λ q. q.address;
      askable = askable;
      made = made;
      Asked = Result Order Refusal;
      is_unit = lecom_right;
      asked = asked;
      asked_of = asked_of;
      reply = lecom_reply;
      unit_of = λ card. address_of card.words;
      answer_of = λ card q. answer_to card q.task;
      refusal_of = λ _. Refused [];
      heard = heard;
      check_back = λ q. checks_in q.task;
      check_size = λ q. checks_in q.task;
    }
