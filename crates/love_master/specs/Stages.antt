-- What is heard, by stages, one for each function that judges: each is a part of `heard`, word for word.
use Rattle.std.specs.Prelude.{ℕ, ◌+◌, ◌&&◌, List, [], ◌∷◌}
use Rattle.wire.specs.Choose.{choose}
use Rattle.figures.specs.Figure.{decimal, upper_hex, all_figures}
use Rattle.card.specs.Numbers.{frame_form}
use Rattle.card.specs.declared.probe.Reading.TheVariants.{Temperature}
use Rattle.love.specs.Form.{data_at}
use Rattle.love.specs.Frame.{byte_at}
use Rattle.love.specs.Answer.{probe_data}
use Rattle.asking.specs.Hearing.{Hearing}
use Rattle.asking.specs.Hearing.Hearing.{Gives, Refused, Unread}
use Rattle.asking.specs.Steps.{is_temperature}
use Rattle.love_master.specs.Heard.{code_at, is_refusal, figures_at, status_word, heard_data}

-- how many bytes an error reply has, and a reply to 00
abbrev pub error_length : ℕ
error_length = 8

abbrev pub status_reply_length : ℕ
status_reply_length = 15

-- and a reply to a read and to a write
abbrev pub value_reply_length : ℕ
value_reply_length = 13

abbrev pub written_reply_length : ℕ
written_reply_length = 9

-- the last character of a read's sign: where it stands, and ASCII 1, that of a negative number
abbrev pub sign_last_at : ℕ
sign_last_at = data_at + 1

abbrev pub one_char : ℕ
one_char = 49

-- the last character of an error reply's code
abbrev pub code_last_at : ℕ
code_last_at = code_at + 1

-- how many numbers four figures are
abbrev pub number_values : ℕ
number_values = 10000

-- an error reply, or what is heard otherwise
unfoldable pub heard_error : ℕ → List ℕ → Hearing → Hearing
heard_error address r other = choose (is_refusal address r) (Refused (byte_at upper_hex r code_at ∷ [])) other

-- a reply to 00 that shows no fault
unfoldable pub heard_temperature : ℕ → List ℕ → Hearing
heard_temperature address r =
    choose (all_figures decimal (figures_at r (data_at + 4)) && is_temperature 1 (status_word r))
    (heard_data address r (probe_data (Temperature (record { 0 = status_word r }))) (Gives (status_word r ∷ [])))
    (Unread frame_form)
