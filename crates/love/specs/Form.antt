-- The form of a Love frame. Document 01, "Love": "STX, filter, two upper-case address figures, data, two checksum figures, ETX".
use Rattle.std.specs.Prelude.{ℕ, ◌/◌, Bool, List, [], ◌∷◌, get_or}
use Rattle.wire.specs.Length.{between}
use Rattle.card.specs.Fitness.{love_hundred}

-- "Each dialect carries its own shortest and longest frame: .. Love 7 and 32"
abbrev pub shortest : ℕ
shortest = 7

abbrev pub longest : ℕ
longest = 32

-- a frame may have n bytes
abbrev pub length_right : ℕ → Bool
length_right n = between shortest longest n

-- the bytes that begin and end a frame, and end a reply
abbrev pub stx : ℕ
stx = 0x02

abbrev pub etx : ℕ
etx = 0x03

abbrev pub ack : ℕ
ack = 0x06

-- where filter, address and data stand
abbrev pub filter_at : ℕ
filter_at = 1

abbrev pub address_at : ℕ
address_at = 2

abbrev pub data_at : ℕ
data_at = 4

-- how many bytes stand after the data: two checksum figures and the last byte
abbrev pub tail : ℕ
tail = 3

-- "the four letters LOVE. The source gives E as 43h; ASCII decides, 45h"
abbrev pub letters : List ℕ
letters = 0x4C ∷ 0x4F ∷ 0x56 ∷ 0x45 ∷ []

-- "By the address's hundreds in hex the filter character is taken from the four letters LOVE"
abbrev pub filter_of : ℕ → ℕ
filter_of address = get_or letters (address / love_hundred) 0

-- where a command's two halves stand in the data, and a write's four figures and sign
abbrev pub command_at : ℕ
command_at = 0

abbrev pub parameter_at : ℕ
parameter_at = 2

abbrev pub value_at : ℕ
value_at = 4

abbrev pub sign_at : ℕ
sign_at = 8

-- the first half: 00, 01.. and 02..
abbrev pub status_command : ℕ
status_command = 0x00

abbrev pub read_command : ℕ
read_command = 0x01

abbrev pub write_command : ℕ
write_command = 0x02

-- the second half: ..00, ..02, ..04 and ..05
abbrev pub sp1 : ℕ
sp1 = 0x00

abbrev pub sp2 : ℕ
sp2 = 0x02

abbrev pub allo : ℕ
allo = 0x04

abbrev pub alhi : ℕ
alhi = 0x05

-- the signs of a write
abbrev pub plus_sign : ℕ
plus_sign = 0x00

abbrev pub minus_sign : ℕ
minus_sign = 0xFF

-- data lengths: the least and the most, that of 00, the least of any other command, and those of a read and of a write
abbrev pub data_least : ℕ
data_least = 2

abbrev pub data_most : ℕ
data_most = 10

abbrev pub status_length : ℕ
status_length = 2

abbrev pub command_length : ℕ
command_length = 4

abbrev pub read_length : ℕ
read_length = 4

abbrev pub write_length : ℕ
write_length = 10

-- error codes, by source document 004's names
abbrev pub undefined_command : ℕ
undefined_command = 0x01

abbrev pub checksum_error : ℕ
checksum_error = 0x02

abbrev pub illegal_character : ℕ
illegal_character = 0x04

abbrev pub field_error : ℕ
field_error = 0x05

abbrev pub out_of_range : ℕ
out_of_range = 0x06
