-- What LECOM's master hears in a reply. Document 02, M-102, with document 01, "LECOM": "Read answer: STX, code, shortest decimal, ETX, BCC";
-- ACK to a write; "From layout on the wire answer is NAK, except an unknown code in a read: STX, the code as received, EOT".
use Rattle.std.specs.Prelude.{ℕ, ◌-◌, ◌/◌, ◌%◌, Bool, true, false, ◌&&◌, ◌||◌, not, List, [], ◌∷◌, ◌++◌, Option, Some, None, Result, Ok, Err, eqb, length}
use Rattle.wire.specs.Choose.{choose}
use Rattle.wire.specs.Buffer.{part, same}
use Rattle.figures.specs.Figure.{decimal, char_of}
use Rattle.figures.specs.Signed.{parsed_of}
use Rattle.card.specs.Numbers.{frame_form, range_unknown}
use Rattle.card.specs.Fitness.{register_most}
use Rattle.lecom.specs.Form.{stx, eot, enq, ack, nak, closing, named_by}
use Rattle.lecom.specs.Frame.{is_write, asked}
use Rattle.lecom.specs.Answer.{unknown_bytes}
use Rattle.lecom.specs.declared.form.Named.{Named}
use Rattle.lecom.specs.declared.form.Named.TheVariants.{Register, Probe, Activate, Store}
use Rattle.lecom.specs.declared.frame.Order.{Order}
use Rattle.lecom.specs.declared.frame.Refusal.{Refusal}
use Rattle.lecom.specs.declared.frame.Refusal.TheVariants.{Silent, Refused as RefusedOrder}
use Rattle.asking.specs.Hearing.{Hearing, heard_by}
use Rattle.asking.specs.Hearing.Hearing.{Gives, Done, Refused, Unread}
use Rattle.asking.specs.Against.{against}
use Rattle.asking.specs.Steps.{is_temperature}
use Rattle.lecom_master.specs.Request.{is_collective, checked}
use Rattle.lecom_master.specs.declared.request.Task.{Task}
use Rattle.lecom_master.specs.declared.request.Task.TheVariants.{Read, Write}
use Rattle.lecom_master.specs.declared.request.Request.{Request}

-- where the data of a read's answer begin: behind STX and two code characters
abbrev pub data_at : ℕ
data_at = 3

-- the BCC: how many bytes, counted from the end
abbrev pub check_size : ℕ
check_size = 1

-- a value, of six figures at most, that a read of this may be answered by: of a register every one, of a probe one that some code gives;
-- "67h and 68h .. read 0"
unfoldable pub answerable : Option Named → ℕ → Bool
answerable (Some (Register k)) value = true
answerable (Some (Probe channel)) value = is_temperature 1 value
answerable (Some Activate) value = eqb value 0
answerable (Some Store) value = eqb value 0
answerable None value = false

-- "Read answer: STX, code, shortest decimal, ETX, BCC"
unfoldable pub answer_bytes : ℕ → ℕ → List ℕ
answer_bytes code value = stx ∷ checked code value

-- what stands between code and ETX
unfoldable pub data_read : List ℕ → Option ℕ
data_read r = parsed_of register_most (part r data_at (length r - closing))

-- a reply to a read, against the answer that has this value
unfoldable pub heard_value : ℕ → List ℕ → Option ℕ → Hearing
heard_value code r None = Unread frame_form
heard_value code r (Some value) =
    choose (answerable (named_by code) value)
    (heard_by (against check_size check_size r (answer_bytes code value)) (Gives (value ∷ [])))
    (Unread frame_form)

unfoldable pub heard_task : Task → List ℕ → Hearing
heard_task (Read code) r = heard_value code r (data_read r)
heard_task (Write code value) r = choose (same r (ack ∷ [])) Done (Unread frame_form)

-- the read that asks the unit at an address for these code characters
unfoldable pub read_of : ℕ → List ℕ → List ℕ
read_of address code = eot ∷ char_of (address / decimal) ∷ char_of (address % decimal) ∷ (code ++ (enq ∷ []))

-- an order that is refused for its code
unfoldable pub is_unknown : Result Order Refusal → Bool
is_unknown (Err (Silent number)) = false
is_unknown (Err (RefusedOrder number)) = eqb number range_unknown
is_unknown (Ok order) = false

-- "an unknown code in a read: STX, the code as received, EOT": the unit refuses a read of that code for its code
unfoldable pub unknown_code : ℕ → List ℕ → Bool
unknown_code address r =
    let f = read_of address (part r 1 (length r - 1)) in
    same r (unknown_bytes f) && (not (is_write f) && is_unknown (asked address f))

-- a refusal from the unit at an address: NAK, or an unknown code
unfoldable pub is_refusal : ℕ → List ℕ → Bool
is_refusal address r = same r (nak ∷ []) || unknown_code address r

-- what is heard in a reply to a request. To a collective address no unit replies
unfoldable pub heard : Request → List ℕ → Hearing
heard q r =
    choose (is_collective q.address) (Unread frame_form)
    (choose (is_refusal q.address r) (Refused [])
    (heard_task q.task r))
