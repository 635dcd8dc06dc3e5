-- The form of a LucidControl frame: OPC, P1, P2, LEN, data. Document 01, "LucidControl"; names by source document 002.
use Rattle.std.specs.Prelude.{ℕ, zero, suc, ◌+◌, ◌-◌, ◌*◌, ◌/◌, ◌%◌, Bool, List, [], ◌∷◌, eqb, get_or}
use Rattle.wire.specs.Choose.{choose}
use Rattle.wire.specs.Length.{between}
use Rattle.wire.specs.Sum.{byte_values}
use Rattle.card.specs.Layout.{channels}

-- "LucidControl 4 and 259": the shortest and the longest frame
abbrev pub shortest : ℕ
shortest = 4

abbrev pub longest : ℕ
longest = 259

-- a frame may have n bytes
abbrev pub length_right : ℕ → Bool
length_right n = between shortest longest n

-- where the parts of a frame stand
abbrev pub opc_at : ℕ
opc_at = 0

abbrev pub p1_at : ℕ
p1_at = 1

abbrev pub p2_at : ℕ
p2_at = 2

abbrev pub len_at : ℕ
len_at = 3

abbrev pub data_at : ℕ
data_at = 4

-- OPC: the commands
abbrev pub get_io : ℕ
get_io = 0x46

abbrev pub get_io_group : ℕ
get_io_group = 0x48

abbrev pub set_io : ℕ
set_io = 0x40

abbrev pub set_io_group : ℕ
set_io_group = 0x42

abbrev pub set_param : ℕ
set_param = 0xA0

abbrev pub get_param : ℕ
get_param = 0xA2

-- P1 of a group: the highest mask
abbrev pub mask_most : ℕ
mask_most = 0x0F

-- the channels of the n lowest bits of a mask, channel k being the lowest
unfoldable pub channels_from : ℕ → ℕ → ℕ → List ℕ
channels_from zero k mask = []
channels_from (suc n) k mask = choose (eqb (mask % 2) 1) (k ∷ channels_from n (suc k) (mask / 2)) (channels_from n (suc k) (mask / 2))

-- the channels that a mask names, lowest first
abbrev pub channels_of : ℕ → List ℕ
channels_of mask = channels_from channels 0 mask

-- P2 of a value: its type, "10h demand (2 bytes), 40h and 41h probe (2 and 4 bytes signed)"
abbrev pub demand : ℕ
demand = 0x10

abbrev pub tenths : ℕ
tenths = 0x40

abbrev pub hundredths : ℕ
hundredths = 0x41

abbrev pub demand_size : ℕ
demand_size = 2

abbrev pub tenths_size : ℕ
tenths_size = 2

abbrev pub hundredths_size : ℕ
hundredths_size = 4

-- the most bytes of data that an answer has: four channels in type 41h
abbrev pub values_most : ℕ
values_most = channels * hundredths_size

unfoldable pub size_of : ℕ → ℕ
size_of valueType = choose (eqb valueType demand) demand_size (choose (eqb valueType tenths) tenths_size hundredths_size)

-- P2 of SetParam: its option bits, and those that are none
abbrev pub default : ℕ
default = 0x01

abbrev pub persistent : ℕ
persistent = 0x80

abbrev pub other_bits : ℕ
other_bits = 0xFF - (default + persistent)

-- the data of SetParam and GetParam: an address; and of a SetParam that resets nothing a value after it
abbrev pub cycle_address : ℕ
cycle_address = 0x1110

abbrev pub floor_address : ℕ
floor_address = 0x1120

abbrev pub address_size : ℕ
address_size = 2

abbrev pub value_at : ℕ
value_at = data_at + address_size

abbrev pub parameter_size : ℕ
parameter_size = 4

-- statuses
abbrev pub ok : ℕ
ok = 0x00

abbrev pub no_support : ℕ
no_support = 0xA0

abbrev pub inv_length : ℕ
inv_length = 0xB0

abbrev pub inv_p1 : ℕ
inv_p1 = 0xB2

abbrev pub inv_p2 : ℕ
inv_p2 = 0xB4

abbrev pub inv_value : ℕ
inv_value = 0xB6

abbrev pub inv_channel : ℕ
inv_channel = 0xB8

abbrev pub inv_param : ℕ
inv_param = 0xBA

abbrev pub inv_data : ℕ
inv_data = 0xC0

abbrev pub err_execution : ℕ
err_execution = 0xD0

-- "little-endian": the n low bytes of a number, lowest first
unfoldable pub little : ℕ → ℕ → List ℕ
little zero x = []
little (suc n) x = x % byte_values ∷ little n (x / byte_values)

-- how many bytes an address, a demand or half a value has
abbrev pub pair_size : ℕ
pair_size = 2

-- the number that n bytes from an index on are, lowest first
unfoldable pub number_at : ℕ → List ℕ → ℕ → ℕ
number_at zero f i = 0
number_at (suc n) f i = get_or f i 0 + byte_values * number_at n f (i + 1)
