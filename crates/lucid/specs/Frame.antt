-- What a LucidControl frame asks: document 01, "LucidControl", "Order", and document 02, M-103. A line of `asked` is a test, and the number
-- and the status if it fails, or a command that has no further test. A test that a command has no use for passes.
use Rattle.std.specs.Prelude.{ℕ, ◌+◌, ◌*◌, ◌^◌, Bool, ◌&&◌, ◌||◌, not, List, Result, Ok, Err, leb, ltb, eqb, length, get_or}
use Rattle.std.specs.Int.Bits.{bit_and}
use Rattle.wire.specs.Choose.{choose}
use Rattle.card.specs.Numbers.{frame_form, command_unknown, range_unknown, value_outside, read_only}
use Rattle.card.specs.Layout.{channels, parameters_at, parameters_each}
use Rattle.card.specs.Fitness.{in_range}
use Rattle.lucid.specs.Form.{length_right, opc_at, p1_at, p2_at, len_at, data_at, get_io, get_io_group, set_io, set_io_group, set_param, get_param, mask_most, channels_of, demand, tenths, hundredths, size_of, default, persistent, other_bits, cycle_address, floor_address, address_size, value_at, parameter_size, no_support, inv_length, inv_p1, inv_p2, inv_value, inv_channel, inv_param, inv_data, number_at}
use Rattle.lucid.specs.declared.frame.Order.{Order}
use Rattle.lucid.specs.declared.frame.Order.TheVariants.{GetIo, SetIo, GetParam, SetParam, Reset}
use Rattle.lucid.specs.declared.frame.Refusal.{Refusal}
use Rattle.lucid.specs.declared.frame.Refusal.TheVariants.{Silent, Refused}

-- a test, and the number if it fails, with no byte on the wire
abbrev pub silently : Bool → ℕ → Result Order Refusal → Result Order Refusal
silently test number rest = choose test rest (Err (Silent number))

-- a test, and the number and the status if it fails
abbrev pub unless : Bool → ℕ → ℕ → Result Order Refusal → Result Order Refusal
unless test number status rest = choose test rest (Err (Refused number status))

-- OPC, P1, P2 and LEN of a frame
abbrev pub opc_in : List ℕ → ℕ
opc_in f = get_or f opc_at 0

abbrev pub p1_in : List ℕ → ℕ
p1_in f = get_or f p1_at 0

abbrev pub p2_in : List ℕ → ℕ
p2_in f = get_or f p2_at 0

abbrev pub len_in : List ℕ → ℕ
len_in f = get_or f len_at 0

-- GetIo and GetIoGroup; SetIo and SetIoGroup; the two groups
abbrev pub is_get : ℕ → Bool
is_get opc = eqb opc get_io || eqb opc get_io_group

abbrev pub is_set : ℕ → Bool
is_set opc = eqb opc set_io || eqb opc set_io_group

abbrev pub is_group : ℕ → Bool
is_group opc = eqb opc get_io_group || eqb opc set_io_group

-- SetParam and GetParam
abbrev pub is_param : ℕ → Bool
is_param opc = eqb opc set_param || eqb opc get_param

-- SetParam with option 01h
abbrev pub is_reset : ℕ → ℕ → Bool
is_reset opc p2 = eqb opc set_param && not (eqb (bit_and p2 default) 0)

-- option 80h: the saved copy is set too
abbrev pub saves : ℕ → Bool
saves p2 = not (eqb (bit_and p2 persistent) 0)

-- "OPC (5, A0h)"
abbrev pub opc_known : ℕ → Bool
opc_known opc = is_get opc || (is_set opc || is_param opc)

-- "channel above 3 (6, B8h)"
abbrev pub channel_right : ℕ → ℕ → Bool
channel_right opc p1 = is_group opc || ltb p1 channels

-- "mask 0 or above 0Fh (6, B2h)"
abbrev pub mask_right : ℕ → ℕ → Bool
mask_right opc p1 = not (is_group opc) || (leb 1 p1 && leb p1 mask_most)

-- "type unknown (7, B6h)"
abbrev pub type_known : ℕ → ℕ → Bool
type_known opc p2 = is_param opc || (eqb p2 demand || (eqb p2 tenths || eqb p2 hundredths))

-- "probe written (8, B6h)"
abbrev pub type_writable : ℕ → ℕ → Bool
type_writable opc p2 = not (is_set opc) || eqb p2 demand

-- "option other than bits 01h and 80h, or nonzero in GetParam (7, B4h)"
abbrev pub option_right : ℕ → ℕ → Bool
option_right opc p2 = not (is_param opc) || (eqb p2 0 || (eqb opc set_param && eqb (bit_and p2 other_bits) 0))

-- the mask of the channels that a command on values names: P1 of a group, else the bit of channel P1
unfoldable pub mask_of : ℕ → ℕ → ℕ
mask_of opc p1 = choose (is_group opc) p1 (2 ^ p1)

-- "LEN is 0 for GetIo and GetIoGroup, the type's size for SetIo, that times the channels for SetIoGroup, 2 for GetParam, 6 for SetParam."
-- Document 02, M-103: "option 01h takes LEN 2, the address alone"
unfoldable pub len_for : ℕ → ℕ → ℕ → ℕ
len_for opc p1 p2 =
    choose (is_get opc) 0
    (choose (is_set opc) (size_of p2 * length (channels_of (mask_of opc p1)))
    (choose (eqb opc get_param) address_size
    (choose (is_reset opc p2) address_size
    (address_size + parameter_size))))

-- the address and the value of a frame that has them
abbrev pub address_in : List ℕ → ℕ
address_in f = number_at address_size f data_at

abbrev pub value_in : List ℕ → ℕ
value_in f = number_at parameter_size f value_at

-- "parameter address (6, BAh)"
abbrev pub address_known : ℕ → Bool
address_known address = eqb address cycle_address || eqb address floor_address

-- a parameter's place among the card's: channel by channel, 1110h first
unfoldable pub place_of : ℕ → ℕ → ℕ
place_of channel address = choose (eqb address cycle_address) (parameters_each * channel) (parameters_each * channel + 1)

-- "value (7, C0h)": it is in the range of the word of its parameter
abbrev pub value_right : ℕ → ℕ → Bool
value_right place value = in_range (parameters_at + place) value

-- what a frame asks. "LucidControl 4 and 259. Outside these: 3, silent." "Order: LEN against slice (3, B0h); OPC (5, A0h); channel above 3 (6, B8h)
-- or mask 0 or above 0Fh (6, B2h); type unknown (7, B6h), probe written (8, B6h), option other than bits 01h and 80h, or nonzero in GetParam
-- (7, B4h); LEN for the command (3, B0h); parameter address (6, BAh); value (7, C0h); fault (9, D0h)": the fault is found in answering.
-- Document 02, M-103: "LEN other than 2 with option 01h is 3, B0h; an unknown address is 6, BAh, in the old order"
unfoldable pub asked : List ℕ → Result Order Refusal
asked f =
    let opc = opc_in f in
    let p1 = p1_in f in
    let p2 = p2_in f in
    let place = place_of p1 (address_in f) in
    silently (length_right (length f)) frame_form
    (unless (eqb (length f) (data_at + len_in f)) frame_form inv_length
    (unless (opc_known opc) command_unknown no_support
    (unless (channel_right opc p1) range_unknown inv_channel
    (unless (mask_right opc p1) range_unknown inv_p1
    (unless (type_known opc p2) value_outside inv_value
    (unless (type_writable opc p2) read_only inv_value
    (unless (option_right opc p2) value_outside inv_p2
    (unless (eqb (len_in f) (len_for opc p1 p2)) frame_form inv_length
    (choose (is_get opc) (Ok (GetIo p2 (mask_of opc p1)))
    (choose (is_set opc) (Ok (SetIo (mask_of opc p1)))
    (unless (address_known (address_in f)) range_unknown inv_param
    (choose (eqb opc get_param) (Ok (GetParam place))
    (choose (is_reset opc p2) (Ok (Reset place (saves p2)))
    (unless (value_right place (value_in f)) value_outside inv_data
    (Ok (SetParam place (saves p2) (value_in f)))))))))))))))))
