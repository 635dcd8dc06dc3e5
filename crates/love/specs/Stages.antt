-- The order of `asked` by stages, one for each function that judges: each is a part of `asked`, word for word. And what the answer knows of it.
use Prim.{Unit}
use Rattle.std.specs.Prelude.{ℕ, ◌+◌, ◌<◌, ◌≡◌, Bool, true, ◌||◌, List, Option, Some, None, Result, Ok, Err, leb, ltb, eqb, length}
use Rattle.wire.specs.Choose.{choose}
use Rattle.wire.specs.Buffer.{part}
use Rattle.figures.specs.Figure.{decimal, hex, all_figures}
use Rattle.card.specs.Numbers.{foreign_address, frame_form, check_character, command_unknown, value_outside}
use Rattle.card.specs.Layout.{love_at, love_count}
use Rattle.card.specs.Fitness.{in_range}
use Rattle.love.specs.Form.{command_at, parameter_at, value_at, sign_at, plus_sign, minus_sign, status_command, read_command, write_command, data_least, data_most, status_length, command_length, read_length, write_length, undefined_command, checksum_error, illegal_character, field_error, out_of_range}
use Rattle.love.specs.Frame.{silently, unless, data_of, byte_at, for_unit, checksum_right, parameter_of, sign_right, number_in}
use Rattle.love.specs.declared.frame.Order.{Order}
use Rattle.love.specs.declared.frame.Order.TheVariants.{Probe, Read, Write}
use Rattle.love.specs.declared.frame.Refusal.{Refusal}

-- a parameter's place, if `parameter_of` gives one
abbrev pub place_of : ℕ → Option ℕ
place_of k = choose (ltb k love_count) (Some k) None

-- whether a write's sign is minus, if it is a sign
abbrev pub minus_in : ℕ → Option Bool
minus_in sign = choose (eqb sign plus_sign || eqb sign minus_sign) (Some (eqb sign minus_sign)) None

-- a write of parameter k
unfoldable pub order_write : ℕ → List ℕ → Result Order Refusal
order_write k characters =
    unless (all_figures decimal (part characters value_at sign_at)) value_outside field_error
    (unless (sign_right characters) value_outside field_error
    (unless (in_range (love_at + k) (number_in characters)) value_outside out_of_range
    (Ok (Write k (number_in characters)))))

-- a command by its first half, and the parameter that its second half names
unfoldable pub order_by : ℕ → ℕ → List ℕ → Result Order Refusal
order_by command k characters =
    unless (ltb k love_count) command_unknown undefined_command
    (choose (eqb command read_command)
    (unless (eqb (length characters) read_length) frame_form field_error
    (Ok (Read k)))
    (unless (eqb command write_command) command_unknown undefined_command
    (unless (eqb (length characters) write_length) frame_form field_error
    (order_write k characters))))

-- the data
unfoldable pub order_in : List ℕ → Result Order Refusal
order_in characters =
    unless (leb data_least (length characters)) frame_form field_error
    (unless (leb (length characters) data_most) frame_form field_error
    (choose (eqb (byte_at hex characters command_at) status_command)
    (unless (eqb (length characters) status_length) frame_form field_error
    (Ok Probe))
    (unless (leb command_length (length characters)) frame_form field_error
    (order_by (byte_at hex characters command_at) (parameter_of (byte_at hex characters parameter_at)) characters))))

-- a frame whose STX, ETX and address figures are right
unfoldable pub order_here : ℕ → List ℕ → Result Order Refusal
order_here address f =
    silently (for_unit address f) foreign_address
    (unless (checksum_right f) check_character checksum_error
    (unless (all_figures hex (data_of f)) frame_form illegal_character
    (order_in (data_of f))))

-- an order names one of the four parameters, and what it writes is in the range of that parameter's word
abbrev pub Sound : Result Order Refusal → Type 0
Sound (Err refusal) = Unit {0}
Sound (Ok Probe) = Unit {0}
Sound (Ok (Read k)) = k < love_count
Sound (Ok (Write k word)) = (k < love_count) × (in_range (love_at + k) word ≡ true)
