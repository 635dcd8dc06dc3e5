-- The rules of a change: its kinds, NUM, the bytes that it names, and where it may write. They hold of a frame and of the pending change.
-- Document 01, "What the card holds" and "Datalink".
use Rattle.std.specs.Prelude.{ℕ, ◌+◌, ◌*◌, ◌/◌, ◌%◌, Bool, not, ◌&&◌, ◌||◌, List, ◌==◌, nat_le, nat_lt, slice_index}
use Rattle.wire.specs.Choose.{choose}
use Rattle.wire.specs.Sum.{byte_values}
use Rattle.card.specs.Layout.{memory_size, kind_at, num_at, low_address_at, high_address_at, data_most}

-- "Datalink memory, 4,096 bytes at addresses 1000h to 1FFFh": the first address, and the one after the last
abbrev pub memory_start : ℕ
memory_start = 0x1000

abbrev pub memory_end : ℕ
memory_end = memory_start + memory_size

-- "1000h to 1003h show the probe codes themselves, unsigned, 255 too" (Layout.antt). "1000h to 100Fh are read-only"
abbrev pub writable_start : ℕ
writable_start = 0x1010

-- the n bytes named from an address lie in Datalink memory
unfoldable pub in_memory : ℕ → ℕ → Bool
in_memory at n = nat_le memory_start at && nat_le (at + n) memory_end

-- the n bytes named from an address hold a read-only one; n = 0 names none
unfoldable pub names_read_only : ℕ → ℕ → Bool
names_read_only at n = not (n == 0) && nat_lt at writable_start

-- "At most one pending change": the kinds, none, Change and Change Bits
abbrev pub no_change : ℕ
no_change = 0

abbrev pub change : ℕ
change = 1

abbrev pub change_bits : ℕ
change_bits = 2

-- how many bytes a change of NUM data bytes names: a mask and a state for each in Change Bits
unfoldable pub named : ℕ → ℕ → ℕ
named kind num = choose (kind == change_bits) (num / 2) num

-- "NUM is 0 to 32; for Change Bits it is even and names NUM/2 bytes"
unfoldable pub num_right : ℕ → ℕ → Bool
num_right kind num = nat_le num data_most && (not (kind == change_bits) || num % 2 == 0)

-- a change that the Datalink order would have echoed: of NUM data bytes, naming n bytes from an address
unfoldable pub echoable : ℕ → ℕ → ℕ → ℕ → Bool
echoable kind num at n = nat_le kind change_bits && (num_right kind num && (in_memory at n && not (names_read_only at n)))

-- a number of two bytes, the low one first, as an address is sent
unfoldable pub two_bytes : ℕ → ℕ → ℕ
two_bytes low high = low + byte_values * high

-- the pending change is none, or as it was echoed
unfoldable pub fit_pending : List ℕ → Bool
fit_pending p =
    (slice_index p kind_at == no_change)
    || echoable (slice_index p kind_at) (slice_index p num_at) (two_bytes (slice_index p low_address_at) (slice_index p high_address_at)) (named (slice_index p kind_at) (slice_index p num_at))
