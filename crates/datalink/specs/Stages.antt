-- The order of `asked` and the receiver's step by stages, one for each function that judges, and what is known of an order.
use Prim.{Unit}
use Rattle.std.specs.Prelude.{◌≡◌, ℕ, ◌+◌, ◌*◌, ◌/◌, ◌≤◌, Bool, true, not, ◌&&◌, List, length, Result, Ok, Err, ◌==◌, nat_le, nat_lt, slice_index}
use Rattle.wire.specs.Choose.{choose}
use Rattle.card.specs.Numbers.{frame_form, check_character, command_unknown, range_unknown, read_only}
use Rattle.card.specs.Layout.{data_most}
use Rattle.card.specs.Change.{no_change, named, in_memory, echoable, memory_start, memory_end}
use Rattle.receiver.specs.declared.Place.{Place}
use Rattle.receiver.specs.declared.Place.TheVariants.{Behind, Nowhere, Last}
use Rattle.datalink.specs.Form.{bare_size, ia_values, acknowledge_bits, second_at}
use Rattle.datalink.specs.Frame.{silently, num_in, address_in, command_in, command_known, kind_of, carried, form_right, lrc_right, range_right, change_allowed, change_right, ordered}
use Rattle.datalink.specs.declared.frame.Order.{Order}
use Rattle.datalink.specs.declared.frame.Order.TheVariants.{Interrogate, Change, Acknowledge}
use Rattle.datalink.specs.declared.frame.Silent.{Silent}

-- a frame whose form and LRC are right
unfoldable pub order_in : List ℕ → Result Order Silent
order_in f =
    silently (range_right f) range_unknown
    (silently (change_right f) read_only
    (Ok (ordered f)))

-- the same of one with NUM and address, by its kind, NUM and address
unfoldable pub order_at : ℕ → ℕ → ℕ → Result Order Silent
order_at kind num at =
    silently (in_memory at (named kind num)) range_unknown
    (silently (change_allowed kind at (named kind num)) read_only
    (Ok (choose (kind == no_change) (Interrogate at num) (Change kind num))))

-- a frame to this unit
unfoldable pub order_here : List ℕ → Result Order Silent
order_here f =
    silently (command_known (command_in f)) command_unknown
    (silently (form_right f) frame_form
    (silently (lrc_right f) check_character
    (order_in f)))

abbrev pub Sound : List ℕ → Result Order Silent → Type 0
Sound f (Err refusal) = Unit {0}
Sound f (Ok (Interrogate at n)) = (bare_size ≤ length f) × ((memory_start ≤ at) × ((at + n ≤ memory_end) × (n ≤ data_most)))
Sound f (Ok (Change kind num)) = (length f ≡ bare_size + num) × ((num ≤ data_most) × ((num ≡ num_in f) × (echoable kind num (address_in f) (named kind num) ≡ true)))
Sound f (Ok Acknowledge) = Unit {0}

-- the receiver: the command bits of a second byte, and the size of a frame with this second byte and NUM
unfoldable pub command_of : ℕ → ℕ
command_of second = second / ia_values * ia_values

unfoldable pub size_of : ℕ → ℕ → ℕ
size_of second num = bare_size + carried (kind_of (command_of second)) num

-- where the second byte goes; whether it is that of a frame with NUM; and part frames with NUM
unfoldable pub second_place : ℕ → Place
second_place b = choose (command_known (command_of b)) (choose (command_of b == acknowledge_bits) Last Behind) Nowhere

unfoldable pub goes_on : ℕ → Bool
goes_on b = command_known (command_of b) && not (command_of b == acknowledge_bits)

unfoldable pub held_with_num : List ℕ → Bool
held_with_num part = nat_le (num_in part) data_most && nat_lt (length part) (size_of (slice_index part second_at) (num_in part))
