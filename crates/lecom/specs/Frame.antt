-- What a LECOM frame asks. Document 01, "LECOM", with source document 001.
use Rattle.std.specs.Prelude.{ℕ, ◌+◌, ◌-◌, ◌*◌, ◌/◌, Bool, true, false, ◌&&◌, ◌||◌, List, [], ◌∷◌, Option, Some, None, Result, Ok, Err, leb, eqb, length, get_or}
use Rattle.std.specs.Int.Bits.{bit_xor}
use Rattle.wire.specs.Choose.{choose}
use Rattle.wire.specs.Buffer.{part}
use Rattle.wire.specs.Sum.{byte_values}
use Rattle.figures.specs.Figure.{decimal, upper_hex, figure_of, all_figures, pair_byte}
use Rattle.figures.specs.Signed.{parsed_of}
use Rattle.card.specs.Numbers.{foreign_address, frame_form, check_character, range_unknown, value_outside, read_only}
use Rattle.card.specs.Fitness.{register_most}
use Rattle.lecom.specs.Form.{length_right, stx, etx, eot, enq, extended_mark, tens_at, ones_at, start_at, standard_hex, extended_hex, standard_at, subcode_at, data_least, data_most, closing, named_by, known, writable, takes}
use Rattle.lecom.specs.declared.form.Named.{Named}
use Rattle.lecom.specs.declared.frame.Order.{Order}
use Rattle.lecom.specs.declared.frame.Order.TheVariants.{Read, Write}
use Rattle.lecom.specs.declared.frame.Refusal.{Refusal}
use Rattle.lecom.specs.declared.frame.Refusal.TheVariants.{Silent, Refused}

-- both address figures are figures
unfoldable pub figures_right : List ℕ → Bool
figures_right f = all_figures decimal (part f tens_at start_at)

-- the values of the address figures
unfoldable pub tens_in : List ℕ → ℕ
tens_in f = figure_of (get_or f tens_at 0)

unfoldable pub ones_in : List ℕ → ℕ
ones_in f = figure_of (get_or f ones_at 0)

-- an address that ends in 0 is collective: no unit has such a one for itself
unfoldable pub collective : List ℕ → Bool
collective f = eqb (ones_in f) 0

-- "Address 00, or the unit's tens figure followed by 0, reaches the unit", and so does its own
unfoldable pub reaches : ℕ → List ℕ → Bool
reaches address f =
    choose (collective f) (eqb (tens_in f) 0 || eqb (tens_in f) (address / decimal)) (eqb (decimal * tens_in f + ones_in f) address)

-- a frame with STX after its figures is a write, any other a read
unfoldable pub is_write : List ℕ → Bool
is_write f = eqb (get_or f start_at 0) stx

-- the place of the code's first character
unfoldable pub code_at : List ℕ → ℕ
code_at f = choose (is_write f) (start_at + 1) start_at

unfoldable pub is_extended : List ℕ → Bool
is_extended f = eqb (get_or f (code_at f) 0) extended_mark

-- the place of the code's first hex character, and the place after its last
unfoldable pub hex_at : List ℕ → ℕ
hex_at f = choose (is_extended f) (code_at f + 1) (code_at f)

unfoldable pub code_end : List ℕ → ℕ
code_end f = choose (is_extended f) (hex_at f + extended_hex) (hex_at f + standard_hex)

-- the code as received
unfoldable pub code_of : List ℕ → List ℕ
code_of f = part f (code_at f) (code_end f)

-- layout: a read ends after the byte that follows its code; a write has 1 to 12 data characters, ETX and BCC
unfoldable pub size_right : List ℕ → Bool
size_right f =
    choose (is_write f)
    (leb (code_end f + data_least + closing) (length f) && leb (length f) (code_end f + data_most + closing))
    (eqb (length f) (code_end f + 1))

-- layout: "ENQ" last in a read; "in a write ETX is the last byte but one"
unfoldable pub end_right : List ℕ → Bool
end_right f = choose (is_write f) (eqb (get_or f (length f - closing) 0) etx) (eqb (get_or f (length f - 1) 0) enq)

-- layout: the code's characters are upper-case hex
unfoldable pub code_right : List ℕ → Bool
code_right f = all_figures upper_hex (part f (hex_at f) (code_end f))

-- the exclusive-or of the bytes that are left, after those of x
unfoldable pub xor_from : ℕ → List ℕ → ℕ
xor_from x [] = x
xor_from x (b ∷ bs) = xor_from (bit_xor x b) bs

-- the block check character of a list
unfoldable pub bcc_of : List ℕ → ℕ
bcc_of bytes = xor_from 0 bytes

-- "BCC is the exclusive-or from the code's first character ("!" too) through ETX." A read has none
unfoldable pub bcc_right : List ℕ → Bool
bcc_right f = choose (is_write f) (eqb (bcc_of (part f (code_at f) (length f - 1))) (get_or f (length f - 1) 0)) true

-- the byte that two hex characters are
unfoldable pub pair_in : List ℕ → ℕ → ℕ
pair_in f at = pair_byte upper_hex (get_or f at 0) (get_or f (at + 1) 0)

-- the number that four hex characters are
unfoldable pub quad_in : List ℕ → ℕ → ℕ
quad_in f at = byte_values * pair_in f at + pair_in f (at + standard_at)

-- a code's number: that of its two hex characters, or of an extended code's first four; so "!00" before a standard code reaches the same register
unfoldable pub code_number : List ℕ → ℕ
code_number f = choose (is_extended f) (quad_in f (hex_at f)) (pair_in f (hex_at f))

-- an extended code's last two characters are 00
unfoldable pub subcode_right : List ℕ → Bool
subcode_right f = choose (is_extended f) (eqb (pair_in f (hex_at f + subcode_at)) 0) true

-- what a frame's code names; "a subcode other than 00 is an unknown code"
unfoldable pub named_in : List ℕ → Option Named
named_in f = choose (subcode_right f) (named_by (code_number f)) None

-- "code": it names something
unfoldable pub code_known : List ℕ → Bool
code_known f = known (named_in f)

-- "read-only": a write names what may be written
unfoldable pub write_right : List ℕ → Bool
write_right f = choose (is_write f) (writable (named_in f)) true

-- the data characters, and what they are read as: "an optional minus, then at least one figure", −999,999 to 999,999
unfoldable pub data_of : List ℕ → List ℕ
data_of f = part f (code_end f) (length f - closing)

unfoldable pub data_read : List ℕ → Option ℕ
data_read f = parsed_of register_most (data_of f)

-- a value that what is named takes
unfoldable pub value_right : Option Named → Option ℕ → Bool
value_right named None = false
value_right named (Some value) = takes named value

-- the value that was read, if one was
unfoldable pub value_in : Option ℕ → ℕ
value_in None = 0
value_in (Some value) = value

-- "data": a write's data are a value that what it names takes
unfoldable pub data_right : List ℕ → Bool
data_right f = choose (is_write f) (value_right (named_in f) (data_read f)) true

-- the order for what a code names; a code that names nothing is refused
abbrev pub ordering : (Named → Order) → Option Named → Result Order Refusal
ordering order None = Err (Refused range_unknown)
ordering order (Some named) = Ok (order named)

-- what a frame that passed asks
unfoldable pub ordered : List ℕ → Result Order Refusal
ordered f = ordering (λ (named : Named). choose (is_write f) (Write named (value_in (data_read f))) (Read named)) (named_in f)

-- a test, the number that refuses a frame where it fails, and what comes after it: `silently` with no byte on the wire
abbrev pub silently : Bool → ℕ → Result Order Refusal → Result Order Refusal
silently test number rest = choose test rest (Err (Silent number))

abbrev pub unless : Bool → ℕ → Result Order Refusal → Result Order Refusal
unless test number rest = choose test rest (Err (Refused number))

-- what a frame asks of the unit at an address. "Order: EOT and figures (3, silent); address (2); layout (3); BCC (4); code (6); read-only (8);
-- data (7); fault (9)": the fault is found in reading the probe
unfoldable pub asked : ℕ → List ℕ → Result Order Refusal
asked address f =
    silently (length_right (length f)) frame_form
    (silently (eqb (get_or f 0 0) eot) frame_form
    (silently (figures_right f) frame_form
    (silently (reaches address f) foreign_address
    (unless (size_right f) frame_form
    (unless (end_right f) frame_form
    (unless (code_right f) frame_form
    (unless (bcc_right f) check_character
    (unless (code_known f) range_unknown
    (unless (write_right f) read_only
    (unless (data_right f) value_outside
    (ordered f)))))))))))
