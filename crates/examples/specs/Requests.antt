-- The cases that document 02's requests tell, in their order. Each starts from `start_card` of crates/card/specs/Start.antt.
use Rattle.std.specs.Prelude.{ℕ, List, [], ◌∷◌, ◌++◌}
use Rattle.card.specs.Numbers.{answered, done, frame_form, range_unknown}
use Rattle.examples.specs.Exchanges.{restart, lucid, Line, line}

-- channel 1 with 1,000 and 6, saved too
abbrev m103_set : List Line
m103_set =
    line (lucid (0xA0 ∷ 0x01 ∷ 0x80 ∷ 0x06 ∷ 0x10 ∷ 0x11 ∷ 0xE8 ∷ 0x03 ∷ 0x00 ∷ 0x00 ∷ [])) answered (0x00 ∷ 0x00 ∷ [])
    ∷ line (lucid (0xA0 ∷ 0x01 ∷ 0x80 ∷ 0x06 ∷ 0x20 ∷ 0x11 ∷ 0x06 ∷ 0x00 ∷ 0x00 ∷ 0x00 ∷ [])) answered (0x00 ∷ 0x00 ∷ [])
    ∷ []

-- and read: the four bytes of 1110h, and the lowest of 1120h
abbrev m103_reads : List ℕ → ℕ → List Line
m103_reads cycle floor =
    line (lucid (0xA2 ∷ 0x01 ∷ 0x00 ∷ 0x02 ∷ 0x10 ∷ 0x11 ∷ [])) answered (0x00 ∷ 0x04 ∷ cycle)
    ∷ line (lucid (0xA2 ∷ 0x01 ∷ 0x00 ∷ 0x02 ∷ 0x20 ∷ 0x11 ∷ [])) answered (0x00 ∷ 0x04 ∷ floor ∷ 0x00 ∷ 0x00 ∷ 0x00 ∷ [])
    ∷ []

-- 1,000 and the default of 1,000,000
abbrev thousand : List ℕ
thousand = 0xE8 ∷ 0x03 ∷ 0x00 ∷ 0x00 ∷ []

abbrev million : List ℕ
million = 0x40 ∷ 0x42 ∷ 0x0F ∷ 0x00 ∷ []

-- Document 02, M-103: "A site reset a channel's cycle time and lost its fan floor too." 1110h is reset, and 1120h reads 6 as it did; after a
-- restart the saved copies show, which stayed
abbrev pub m103_cycle : List Line
m103_cycle =
    m103_set ++ (line (lucid (0xA0 ∷ 0x01 ∷ 0x01 ∷ 0x02 ∷ 0x10 ∷ 0x11 ∷ [])) answered (0x00 ∷ 0x00 ∷ []) ∷ m103_reads million 6)
    ++ (line restart done [] ∷ m103_reads thousand 6)

-- with 81h its saved copy is reset too, and that of 1120h stays
abbrev pub m103_cycle_saved : List Line
m103_cycle_saved =
    m103_set ++ (line (lucid (0xA0 ∷ 0x01 ∷ 0x81 ∷ 0x02 ∷ 0x10 ∷ 0x11 ∷ [])) answered (0x00 ∷ 0x00 ∷ []) ∷ line restart done [] ∷ m103_reads million 6)

-- the same of 1120h
abbrev pub m103_floor : List Line
m103_floor =
    m103_set ++ (line (lucid (0xA0 ∷ 0x01 ∷ 0x01 ∷ 0x02 ∷ 0x20 ∷ 0x11 ∷ [])) answered (0x00 ∷ 0x00 ∷ []) ∷ m103_reads thousand 0)
    ++ (line restart done [] ∷ m103_reads thousand 6)

abbrev pub m103_floor_saved : List Line
m103_floor_saved =
    m103_set ++ (line (lucid (0xA0 ∷ 0x01 ∷ 0x81 ∷ 0x02 ∷ 0x20 ∷ 0x11 ∷ [])) answered (0x00 ∷ 0x00 ∷ []) ∷ line restart done [] ∷ m103_reads thousand 0)

-- "LEN other than 2 with option 01h is 3, B0h; an unknown address is 6, BAh", in this order; nothing is reset
abbrev pub m103_refused : List Line
m103_refused =
    m103_set
    ++ (line (lucid (0xA0 ∷ 0x01 ∷ 0x01 ∷ 0x00 ∷ [])) frame_form (0xB0 ∷ 0x00 ∷ [])
    ∷ line (lucid (0xA0 ∷ 0x01 ∷ 0x81 ∷ 0x06 ∷ 0x10 ∷ 0x11 ∷ 0xE8 ∷ 0x03 ∷ 0x00 ∷ 0x00 ∷ [])) frame_form (0xB0 ∷ 0x00 ∷ [])
    ∷ line (lucid (0xA0 ∷ 0x01 ∷ 0x01 ∷ 0x03 ∷ 0x11 ∷ 0x11 ∷ 0x00 ∷ [])) frame_form (0xB0 ∷ 0x00 ∷ [])
    ∷ line (lucid (0xA0 ∷ 0x01 ∷ 0x81 ∷ 0x02 ∷ 0x11 ∷ 0x11 ∷ [])) range_unknown (0xBA ∷ 0x00 ∷ [])
    ∷ m103_reads thousand 6)

-- the table
abbrev pub requests : List (List Line)
requests = m103_cycle ∷ m103_cycle_saved ∷ m103_floor ∷ m103_floor_saved ∷ m103_refused ∷ []
