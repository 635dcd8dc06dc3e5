-- What LucidControl's master hears in a reply. Document 02, M-102, with document 01, "LucidControl": "answer: status, LEN, data, little-endian";
-- "A refusal answers its status and LEN 0". There are no check characters.
use Rattle.std.specs.Prelude.{ℕ, zero, suc, ◌+◌, ◌*◌, Bool, true, ◌&&◌, ◌||◌, List, [], ◌∷◌, leb, eqb, length, get_or}
use Rattle.wire.specs.Choose.{choose}
use Rattle.wire.specs.Buffer.{same}
use Rattle.wire.specs.Word.{minus}
use Rattle.card.specs.Numbers.{frame_form}
use Rattle.card.specs.Layout.{parameters_at}
use Rattle.card.specs.Fitness.{in_range, demand_most}
use Rattle.lucid.specs.Form.{channels_of, demand, tenths, size_of, parameter_size, number_at, ok, no_support, inv_length, inv_p1, inv_p2, inv_value, inv_channel, inv_param, inv_data, err_execution}
use Rattle.lucid.specs.Frame.{place_of}
use Rattle.lucid.specs.Answer.{hundredths_per_tenth}
use Rattle.asking.specs.Hearing.{Hearing}
use Rattle.asking.specs.Hearing.Hearing.{Gives, Done, Fault, Refused, Unread}
use Rattle.asking.specs.Steps.{is_temperature}
use Rattle.lucid_master.specs.Request.{Asking}
use Rattle.lucid_master.specs.declared.request.Command.{Command}
use Rattle.lucid_master.specs.declared.request.Command.TheVariants.{GetIo, GetIoGroup, SetIo, SetIoGroup, GetParam, SetParam, Reset}
use Rattle.lucid_master.specs.declared.request.Request.{Request}

-- where an answer's data begin, behind status and LEN
abbrev pub head_size : ℕ
head_size = 2

-- the statuses that document 01 has, D0h apart
unfoldable pub is_status : ℕ → Bool
is_status s =
    eqb s no_support
    || (eqb s inv_length
    || (eqb s inv_p1
    || (eqb s inv_p2
    || (eqb s inv_value
    || (eqb s inv_channel
    || (eqb s inv_param
    || eqb s inv_data))))))

-- an answer that is done, with n bytes of data
unfoldable pub shaped : List ℕ → ℕ → Bool
shaped r n = eqb (length r) (head_size + n) && (eqb (get_or r 0 0) ok && eqb (get_or r 1 0) n)

-- type 40h has two bytes, signed: their upper half are the negative numbers
abbrev pub short_half : ℕ
short_half = 32768

abbrev pub short_values : ℕ
short_values = 65536

-- the word of a number of this type
unfoldable pub word_of : ℕ → ℕ → ℕ
word_of valueType n = choose (eqb valueType tenths && leb short_half n) (n + minus short_values) n

-- a value that an answer of this type may have: a demand, or a temperature that some code gives, in tenths or hundredths
unfoldable pub answerable : ℕ → ℕ → Bool
answerable valueType value =
    choose (eqb valueType demand) (leb value demand_most)
    (choose (eqb valueType tenths) (is_temperature 1 value)
    (is_temperature hundredths_per_tenth value))

-- n values of a type, from an index of the reply on
unfoldable pub values_from : ℕ → ℕ → List ℕ → ℕ → List ℕ
values_from valueType zero r at = []
values_from valueType (suc n) r at = word_of valueType (number_at (size_of valueType) r at) ∷ values_from valueType n r (at + size_of valueType)

unfoldable pub all_answerable : ℕ → List ℕ → Bool
all_answerable valueType [] = true
all_answerable valueType (value ∷ values) = answerable valueType value && all_answerable valueType values

-- an answer with n values of a type
unfoldable pub heard_values : ℕ → ℕ → List ℕ → Hearing
heard_values valueType n r =
    choose (shaped r (size_of valueType * n) && all_answerable valueType (values_from valueType n r head_size))
    (Gives (values_from valueType n r head_size))
    (Unread frame_form)

-- an answer with a parameter's value
unfoldable pub heard_parameter : ℕ → List ℕ → Hearing
heard_parameter place r =
    choose (shaped r parameter_size && in_range (parameters_at + place) (number_at parameter_size r head_size))
    (Gives (number_at parameter_size r head_size ∷ []))
    (Unread frame_form)

-- an answer without data
unfoldable pub heard_done : List ℕ → Hearing
heard_done r = choose (shaped r 0) Done (Unread frame_form)

unfoldable pub heard_command : Command → Request → List ℕ → Hearing
heard_command GetIo q r = heard_values q.p2 1 r
heard_command GetIoGroup q r = heard_values q.p2 (length (channels_of q.p1)) r
heard_command SetIo q r = heard_done r
heard_command SetIoGroup q r = heard_done r
heard_command GetParam q r = heard_parameter (place_of q.p1 q.address) r
heard_command SetParam q r = heard_done r
heard_command Reset q r = heard_done r

-- what is heard in a reply to a request. "fault (9, D0h)" is a fault, every other status of document 01 a refusal
unfoldable pub heard : Asking → List ℕ → Hearing
heard q r =
    choose (same r (err_execution ∷ 0 ∷ [])) Fault
    (choose (is_status (get_or r 0 0) && same r (get_or r 0 0 ∷ 0 ∷ [])) (Refused (get_or r 0 0 ∷ []))
    (heard_command q.request.command q.request r))
