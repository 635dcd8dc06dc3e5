-- The form of a Datalink frame. Document 01, "Datalink", with source document 003:
-- "7Eh; command bits plus I.A.; NUM; low address; high address; data; LRC."
use Rattle.std.specs.Prelude.{ℕ, Bool, List, [], ◌∷◌, ◌++◌}
use Rattle.wire.specs.Length.{between}
use Rattle.wire.specs.Sum.{sum_of}

-- "Datalink 2 and 38": the shortest and the longest frame
abbrev pub shortest : ℕ
shortest = 2

abbrev pub longest : ℕ
longest = 38

-- a frame may have n bytes
abbrev pub length_right : ℕ → Bool
length_right n = between shortest longest n

-- the first byte, 7Eh
abbrev pub start : ℕ
start = 0x7E

-- the second byte: its low five bits are the I.A., the others the command
abbrev pub ia_values : ℕ
ia_values = 32

-- "Interrogate E0h, Change A0h, Change Bits C0h, Acknowledge 80h", "Response 20h"
abbrev pub interrogate_bits : ℕ
interrogate_bits = 0xE0

abbrev pub change_command_bits : ℕ
change_command_bits = 0xA0

abbrev pub change_bits_bits : ℕ
change_bits_bits = 0xC0

abbrev pub acknowledge_bits : ℕ
acknowledge_bits = 0x80

abbrev pub response_bits : ℕ
response_bits = 0x20

-- where the second byte, NUM, address and data stand in a frame (card/specs/Layout.antt has where they stand in the pending change)
abbrev pub second_at : ℕ
second_at = 1

abbrev pub frame_num_at : ℕ
frame_num_at = 2

abbrev pub frame_low_address_at : ℕ
frame_low_address_at = 3

abbrev pub frame_high_address_at : ℕ
frame_high_address_at = 4

abbrev pub frame_data_at : ℕ
frame_data_at = 5

-- "Acknowledge 80h (two bytes, no LRC)"
abbrev pub acknowledge_size : ℕ
acknowledge_size = 2

-- a frame with NUM is this long without its data
abbrev pub bare_size : ℕ
bare_size = 6

-- the bytes of a frame beside its body of NUM, address and data: 7Eh, the second byte and the LRC
abbrev pub beside_body : ℕ
beside_body = 3

-- a frame in that form: 7Eh, its second byte, a body of NUM, address and data, and the LRC
unfoldable pub framed : ℕ → List ℕ → List ℕ
framed second body = (start ∷ second ∷ body) ++ (sum_of (second ∷ body) ∷ [])
