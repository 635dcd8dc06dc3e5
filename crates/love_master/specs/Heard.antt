-- What Love's master hears in a reply. Document 02, M-102, with document 01, "Love": "Error reply: STX, filter, address, N, code, ACK, no checksum.
-- Normal reply ends in checksum, ACK; data is 00 for a write; sign 00 or 01 and four figures for a read. For 00, probe 0: C (D at fault), 0, 0,
-- 0 (2 if negative), four figures (0000 at fault)."
use Rattle.std.specs.Prelude.{ℕ, ◌+◌, Bool, ◌&&◌, ◌||◌, List, [], ◌∷◌, ◌==◌, slice_index}
use Rattle.wire.specs.Choose.{choose}
use Rattle.wire.specs.Buffer.{part, same}
use Rattle.figures.specs.Figure.{decimal, upper_hex, all_figures}
use Rattle.figures.specs.Decimal.{value_of}
use Rattle.figures.specs.Signed.{with_sign}
use Rattle.card.specs.Numbers.{frame_form}
use Rattle.card.specs.Layout.{love_at}
use Rattle.card.specs.Fitness.{in_range}
use Rattle.card.specs.declared.probe.Reading.TheVariants.{Temperature, Fault as Failed}
use Rattle.love.specs.Form.{data_at, undefined_command, checksum_error, illegal_character, field_error, out_of_range}
use Rattle.love.specs.Frame.{byte_at}
use Rattle.love.specs.Answer.{error_reply, normal_reply, written_data, negative, figure_count, value_data, fault_char, negative_char, probe_data}
use Rattle.asking.specs.Hearing.{Hearing, heard_by}
use Rattle.asking.specs.Hearing.Hearing.{Gives, Done, Fault, Refused, Unread}
use Rattle.asking.specs.Against.{against}
use Rattle.asking.specs.Steps.{is_temperature}
use Rattle.love_master.specs.declared.request.Task.{Task}
use Rattle.love_master.specs.declared.request.Task.TheVariants.{Status, Read, Write}
use Rattle.love_master.specs.declared.request.Request.{Request}

-- the two checksum figures, which stand before the last byte
abbrev pub check_size : ℕ
check_size = 2

abbrev pub check_back : ℕ
check_back = 3

-- where the code of an error reply stands, behind N
abbrev pub code_at : ℕ
code_at = data_at + 1

-- the codes that document 01 has
unfoldable pub is_code : ℕ → Bool
is_code code =
    (code == undefined_command)
    || (code == checksum_error
    || (code == illegal_character
    || (code == field_error
    || code == out_of_range)))

-- an error reply from the unit at an address, with one of these codes
unfoldable pub is_refusal : ℕ → List ℕ → Bool
is_refusal address r = is_code (byte_at upper_hex r code_at) && same r (error_reply address (byte_at upper_hex r code_at))

-- a reply against the normal reply with these data, which says h
unfoldable pub heard_data : ℕ → List ℕ → List ℕ → Hearing → Hearing
heard_data address r characters h = heard_by (against check_back check_size r (normal_reply address characters)) h

-- a number of four figures at an index
abbrev pub figures_at : List ℕ → ℕ → List ℕ
figures_at r at = part r at (at + figure_count)

-- 00: the fourth character of the data is the sign, then four figures
unfoldable pub status_word : List ℕ → ℕ
status_word r = with_sign (slice_index r (data_at + 3) == negative_char) (value_of (figures_at r (data_at + 4)))

-- a reply to 00: a fault, or a temperature that some code gives
unfoldable pub heard_status : ℕ → List ℕ → Hearing
heard_status address r =
    choose (slice_index r data_at == fault_char) (heard_data address r (probe_data Failed) Fault)
    (choose (all_figures decimal (figures_at r (data_at + 4)) && is_temperature 1 (status_word r))
    (heard_data address r (probe_data (Temperature (record { 0 = status_word r }))) (Gives (status_word r ∷ [])))
    (Unread frame_form))

-- a read: the sign's two characters, then four figures
unfoldable pub value_word : List ℕ → ℕ
value_word r = with_sign (byte_at upper_hex r data_at == negative) (value_of (figures_at r (data_at + 2)))

-- a reply to a read: a value in the range of its parameter
unfoldable pub heard_value : ℕ → ℕ → List ℕ → Hearing
heard_value address place r =
    choose (all_figures decimal (figures_at r (data_at + 2)) && in_range (love_at + place) (value_word r))
    (heard_data address r (value_data (value_word r)) (Gives (value_word r ∷ [])))
    (Unread frame_form)

unfoldable pub heard_task : ℕ → Task → List ℕ → Hearing
heard_task address Status r = heard_status address r
heard_task address (Read place) r = heard_value address place r
heard_task address (Write place value) r = heard_data address r written_data Done

-- what is heard in a reply to a request
unfoldable pub heard : Request → List ℕ → Hearing
heard q r =
    choose (is_refusal q.address r) (Refused (byte_at upper_hex r code_at ∷ []))
    (heard_task q.address q.task r)
