-- What a Love frame asks of the unit at an address: document 01, "Love", "Order". A line of `asked` is a test, and the number and the error
-- code if it fails.
use Rattle.std.specs.Prelude.{ℕ, ◌+◌, ◌-◌, ◌%◌, Bool, ◌&&◌, ◌||◌, List, Result, Ok, Err, leb, ltb, eqb, length, get_or}
use Rattle.wire.specs.Choose.{choose}
use Rattle.wire.specs.Buffer.{part}
use Rattle.wire.specs.Sum.{sum_of}
use Rattle.figures.specs.Figure.{decimal, upper_hex, hex, all_figures, pair_byte}
use Rattle.figures.specs.Decimal.{value_of}
use Rattle.figures.specs.Signed.{with_sign}
use Rattle.card.specs.Numbers.{foreign_address, frame_form, check_character, command_unknown, value_outside}
use Rattle.card.specs.Layout.{love_at, love_count}
use Rattle.card.specs.Fitness.{in_range, love_hundred}
use Rattle.love.specs.Form.{length_right, stx, etx, filter_at, address_at, data_at, tail, filter_of, command_at, parameter_at, value_at, sign_at, status_command, read_command, write_command, sp1, sp2, allo, alhi, plus_sign, minus_sign, data_least, data_most, status_length, command_length, read_length, write_length, undefined_command, checksum_error, illegal_character, field_error, out_of_range}
use Rattle.love.specs.declared.frame.Order.{Order}
use Rattle.love.specs.declared.frame.Order.TheVariants.{Probe, Read, Write}
use Rattle.love.specs.declared.frame.Refusal.{Refusal}
use Rattle.love.specs.declared.frame.Refusal.TheVariants.{Silent, Refused}

-- a test, and the number if it fails; then no byte is sent
abbrev pub silently : Bool → ℕ → Result Order Refusal → Result Order Refusal
silently test number rest = choose test rest (Err (Silent number))

-- a test, and the number and the error code if it fails
abbrev pub unless : Bool → ℕ → ℕ → Result Order Refusal → Result Order Refusal
unless test number code rest = choose test rest (Err (Refused number code))

-- a frame's data
abbrev pub data_of : List ℕ → List ℕ
data_of f = part f data_at (length f - tail)

-- the byte that two characters are, both of them figures below limit. "In data a to f mean A to F": there the limit is `hex`
abbrev pub byte_at : ℕ → List ℕ → ℕ → ℕ
byte_at limit s i = pair_byte limit (get_or s i 0) (get_or s (i + 1) 0)

-- filter and address are the unit's
unfoldable pub for_unit : ℕ → List ℕ → Bool
for_unit address f = eqb (get_or f filter_at 0) (filter_of address) && eqb (byte_at upper_hex f address_at) (address % love_hundred)

-- "A host checksum adds address and data characters. .. The host's two checksum figures are upper-case, else 4."
unfoldable pub checksum_right : List ℕ → Bool
checksum_right f = eqb (byte_at upper_hex f (length f - tail)) (sum_of (part f address_at (length f - tail)))

-- the parameter that a second half names: its place among Love's four, or `love_count` for none
unfoldable pub parameter_of : ℕ → ℕ
parameter_of low =
    choose (eqb low sp1) 0
    (choose (eqb low sp2) 1
    (choose (eqb low allo) 2
    (choose (eqb low alhi) 3
    love_count)))

-- a write's sign is 00 or FF
unfoldable pub sign_right : List ℕ → Bool
sign_right characters = eqb (byte_at hex characters sign_at) plus_sign || eqb (byte_at hex characters sign_at) minus_sign

-- the number that a write's data holds, as a word; minus zero is zero
unfoldable pub number_in : List ℕ → ℕ
number_in characters = with_sign (eqb (byte_at hex characters sign_at) minus_sign) (value_of (part characters value_at sign_at))

-- "Order: STX, ETX, address figures (3, silent); filter and address (2); checksum (4, code 02); data characters outside 0-9, A-F, a-f
-- (3, code 04); then, d being the data length:
-- - d below 2 or above 10: 3, code 05.
-- - 00 needs d = 2, else 3, code 05. Any other with d below 4: 3, code 05.
-- - 0100, 0102, 0104, 0105 read with d = 4; 0200, 0202, 0204, 0205 write with d = 10; else 5, code 01; a wrong d is 3, code 05.
-- - Write: four decimal figures, then sign 00 or FF; else 7, code 05. Value outside: 7, code 06."
unfoldable pub asked : ℕ → List ℕ → Result Order Refusal
asked address f =
    let characters = data_of f in
    let d = length characters in
    let command = byte_at hex characters command_at in
    let k = parameter_of (byte_at hex characters parameter_at) in
    silently (length_right (length f)) frame_form
    (silently (eqb (get_or f 0 0) stx) frame_form
    (silently (eqb (get_or f (length f - 1) 0) etx) frame_form
    (silently (all_figures upper_hex (part f address_at data_at)) frame_form
    (silently (for_unit address f) foreign_address
    (unless (checksum_right f) check_character checksum_error
    (unless (all_figures hex characters) frame_form illegal_character
    (unless (leb data_least d) frame_form field_error
    (unless (leb d data_most) frame_form field_error
    (choose (eqb command status_command)
    (unless (eqb d status_length) frame_form field_error
    (Ok Probe))
    (unless (leb command_length d) frame_form field_error
    (unless (ltb k love_count) command_unknown undefined_command
    (choose (eqb command read_command)
    (unless (eqb d read_length) frame_form field_error
    (Ok (Read k)))
    (unless (eqb command write_command) command_unknown undefined_command
    (unless (eqb d write_length) frame_form field_error
    (unless (all_figures decimal (part characters value_at sign_at)) value_outside field_error
    (unless (sign_right characters) value_outside field_error
    (unless (in_range (love_at + k) (number_in characters)) value_outside out_of_range
    (Ok (Write k (number_in characters))))))))))))))))))))
