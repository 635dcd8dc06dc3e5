-- What a Datalink frame asks. Document 01, "Datalink", with source document 003.
use Rattle.std.specs.Prelude.{ℕ, ◌+◌, ◌-◌, ◌*◌, ◌/◌, ◌%◌, Bool, not, ◌&&◌, ◌||◌, List, length, Result, Ok, Err, ◌==◌, slice_index}
use Rattle.wire.specs.Choose.{choose}
use Rattle.wire.specs.Buffer.{part}
use Rattle.wire.specs.Sum.{sum_of}
use Rattle.card.specs.Numbers.{foreign_address, frame_form, check_character, command_unknown, range_unknown, read_only}
use Rattle.card.specs.Change.{no_change, change, change_bits, named, num_right, in_memory, names_read_only, two_bytes}
use Rattle.datalink.specs.Form.{length_right, start, ia_values, interrogate_bits, change_command_bits, change_bits_bits, acknowledge_bits, second_at, frame_num_at, frame_low_address_at, frame_high_address_at, acknowledge_size, bare_size}
use Rattle.datalink.specs.declared.frame.Order.{Order}
use Rattle.datalink.specs.declared.frame.Order.TheVariants.{Interrogate, Change, Acknowledge}
use Rattle.datalink.specs.declared.frame.Silent.{Silent}

-- the parts of a frame
unfoldable pub ia_in : List ℕ → ℕ
ia_in f = slice_index f second_at % ia_values

unfoldable pub command_in : List ℕ → ℕ
command_in f = slice_index f second_at / ia_values * ia_values

unfoldable pub num_in : List ℕ → ℕ
num_in f = slice_index f frame_num_at

unfoldable pub address_in : List ℕ → ℕ
address_in f = two_bytes (slice_index f frame_low_address_at) (slice_index f frame_high_address_at)

-- "Interrogate E0h, Change A0h, Change Bits C0h, Acknowledge 80h"
unfoldable pub command_known : ℕ → Bool
command_known command =
    (command == acknowledge_bits) || (command == interrogate_bits || (command == change_command_bits || command == change_bits_bits))

unfoldable pub is_acknowledge : List ℕ → Bool
is_acknowledge f = command_in f == acknowledge_bits

-- the kind of change that a command asks for
unfoldable pub kind_of : ℕ → ℕ
kind_of command = choose (command == change_command_bits) change (choose (command == change_bits_bits) change_bits no_change)

unfoldable pub kind_in : List ℕ → ℕ
kind_in f = kind_of (command_in f)

-- how many bytes a frame names
unfoldable pub named_in : List ℕ → ℕ
named_in f = named (kind_in f) (num_in f)

-- how many data bytes a frame of NUM carries: an Interrogate none
unfoldable pub carried : ℕ → ℕ → ℕ
carried kind num = choose (kind == no_change) 0 num

-- "length and NUM": NUM 0 to 32, even for Change Bits
unfoldable pub form_right : List ℕ → Bool
form_right f =
    choose (is_acknowledge f) (length f == acknowledge_size)
    (length f == bare_size + carried (kind_in f) (num_in f) && num_right (kind_in f) (num_in f))

-- "The LRC adds all bytes but the first, 7Eh, and itself; the sum is taken modulo 256." An Acknowledge has none
unfoldable pub lrc_right : List ℕ → Bool
lrc_right f = is_acknowledge f || sum_of (part f second_at (length f - 1)) == slice_index f (length f - 1)

-- "Address at least 1000h, address plus bytes named at most 2000h." An Acknowledge has no range
unfoldable pub range_right : List ℕ → Bool
range_right f = is_acknowledge f || in_memory (address_in f) (named_in f)

-- "Number 8 is a Change or Change Bits that names a byte below 1010h"
unfoldable pub change_allowed : ℕ → ℕ → ℕ → Bool
change_allowed kind at n = kind == no_change || not (names_read_only at n)

unfoldable pub change_right : List ℕ → Bool
change_right f = change_allowed (kind_in f) (address_in f) (named_in f)

-- what a frame that passed asks
unfoldable pub ordered : List ℕ → Order
ordered f =
    choose (is_acknowledge f) Acknowledge
    (choose (kind_in f == no_change) (Interrogate (address_in f) (num_in f)) (Change (kind_in f) (num_in f)))

-- a frame refused with a number. "All refusals are silent."
abbrev pub refused : ℕ → Result Order Silent
refused number = Err (record { 0 = number })

-- a test, the number that refuses a frame where it fails, and what comes after it
abbrev pub silently : Bool → ℕ → Result Order Silent → Result Order Silent
silently test number rest = choose test rest (refused number)

-- what a frame asks of the unit at an I.A.: "Order: first byte (3), I.A. (2), command (5), length and NUM (3), LRC (4), range (6), read-only (8)"
unfoldable pub asked : ℕ → List ℕ → Result Order Silent
asked ia f =
    silently (length_right (length f)) frame_form
    (silently (slice_index f 0 == start) frame_form
    (silently (ia_in f == ia) foreign_address
    (silently (command_known (command_in f)) command_unknown
    (silently (form_right f) frame_form
    (silently (lrc_right f) check_character
    (silently (range_right f) range_unknown
    (silently (change_right f) read_only
    (Ok (ordered f)))))))))
