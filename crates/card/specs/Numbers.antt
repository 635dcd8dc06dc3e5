-- Document 01, "Numbers returned", in its words.
use Rattle.std.specs.Prelude.{ℕ}

-- done, answered
abbrev pub answered : ℕ
answered = 0

-- done, silent
abbrev pub done : ℕ
done = 1

-- foreign address; from here on a number is a refusal
abbrev pub foreign_address : ℕ
foreign_address = 2

-- frame form wrong
abbrev pub frame_form : ℕ
frame_form = 3

-- check character wrong
abbrev pub check_character : ℕ
check_character = 4

-- command unknown
abbrev pub command_unknown : ℕ
command_unknown = 5

-- register, channel or range unknown
abbrev pub range_unknown : ℕ
range_unknown = 6

-- value or option outside
abbrev pub value_outside : ℕ
value_outside = 7

-- read-only
abbrev pub read_only : ℕ
read_only = 8

-- probe at fault
abbrev pub probe_fault : ℕ
probe_fault = 9

-- nothing pending
abbrev pub nothing_pending : ℕ
nothing_pending = 10

-- output buffer too short
abbrev pub buffer_short : ℕ
buffer_short = 11

-- card unfit: table length, address, entry or pending change outside the rules of document 01
abbrev pub card_unfit : ℕ
card_unfit = 12

-- image not of its length
abbrev pub image_length : ℕ
image_length = 13

-- image padding not zero
abbrev pub image_padding : ℕ
image_padding = 14

-- document 02, M-100: "Numbers above 14 join 01's table". A receiver's frame buffer below the dialect's longest
abbrev pub frame_buffer_short : ℕ
frame_buffer_short = 16
