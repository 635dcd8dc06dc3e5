-- The order of `asked` by stages, for the functions that judge: parts of `asked`, word for word; and what is known between them and of the order.
use Prim.{Unit}
use Rattle.std.specs.Prelude.{ℕ, ◌+◌, ◌*◌, ◌≤◌, ◌<◌, ◌≡◌, true, false, List, Result, Ok, Err, eqb, length}
use Rattle.wire.specs.Choose.{choose}
use Rattle.card.specs.Numbers.{frame_form, range_unknown, value_outside, read_only}
use Rattle.card.specs.Layout.{channels, parameter_count}
use Rattle.lucid.specs.Form.{data_at, value_at, parameter_size, get_param, channels_of, demand_size, inv_length, inv_p2, inv_value, inv_param, inv_data}
use Rattle.lucid.specs.Frame.{unless, len_in, is_get, is_set, is_reset, saves, opc_known, channel_right, type_known, type_writable, option_right, mask_of, len_for, address_in, value_in, address_known, place_of, value_right}
use Rattle.lucid.specs.declared.frame.Order.{Order}
use Rattle.lucid.specs.declared.frame.Order.TheVariants.{GetIo, SetIo, GetParam, SetParam, Reset}
use Rattle.lucid.specs.declared.frame.Refusal.{Refusal}

-- a command with an address
unfoldable pub parameter_asked : ℕ → ℕ → ℕ → List ℕ → Result Order Refusal
parameter_asked opc p1 p2 f =
    let place = place_of p1 (address_in f) in
    unless (address_known (address_in f)) range_unknown inv_param
    (choose (eqb opc get_param) (Ok (GetParam place))
    (choose (is_reset opc p2) (Ok (Reset place (saves p2)))
    (unless (value_right place (value_in f)) value_outside inv_data
    (Ok (SetParam place (saves p2) (value_in f))))))

-- a frame whose LEN is right for its command
unfoldable pub command_asked : ℕ → ℕ → ℕ → List ℕ → Result Order Refusal
command_asked opc p1 p2 f =
    choose (is_get opc) (Ok (GetIo p2 (mask_of opc p1)))
    (choose (is_set opc) (Ok (SetIo (mask_of opc p1)))
    (parameter_asked opc p1 p2 f))

-- a frame whose command and channels are right
unfoldable pub option_asked : ℕ → ℕ → ℕ → List ℕ → Result Order Refusal
option_asked opc p1 p2 f =
    unless (type_known opc p2) value_outside inv_value
    (unless (type_writable opc p2) read_only inv_value
    (unless (option_right opc p2) value_outside inv_p2
    (unless (eqb (len_in f) (len_for opc p1 p2)) frame_form inv_length
    (command_asked opc p1 p2 f))))

-- what is known of a frame once its LEN was found right for its command
pub record Sized (opc p1 p2 : ℕ) (f : List ℕ) : Type 0 where
  pub known : opc_known opc ≡ true
  pub channel : channel_right opc p1 ≡ true
  pub measured : length f ≡ data_at + len_for opc p1 p2

-- and of one with an address: P1 is a channel, and the address and, unless it is read or reset, the value lie within the frame
pub record Addressed (opc p1 p2 : ℕ) (f : List ℕ) : Type 0 where
  pub channel : p1 < channels
  pub address : value_at ≤ length f
  pub value : (opc ≡ get_param → ⊥) → is_reset opc p2 ≡ false → value_at + parameter_size ≤ length f

-- what is known of an order that a frame asks: the places that it names are the card's, SetIo has its data for each channel, and a parameter's
-- value is in its range
abbrev pub Sound : List ℕ → Result Order Refusal → Type 0
Sound f (Err refusal) = Unit {0}
Sound f (Ok (GetIo valueType mask)) = Unit {0}
Sound f (Ok (SetIo mask)) = length f ≡ data_at + demand_size * length (channels_of mask)
Sound f (Ok (GetParam place)) = place < parameter_count
Sound f (Ok (SetParam place saved value)) = (place < parameter_count) × (value_right place value ≡ true)
Sound f (Ok (Reset place saved)) = place < parameter_count
