-- The entries that `poke` and `peek` reach, in one numbering: the words, memory, then the port's row by its places. Only kind, address and NUM of
-- the pending change come in another order than in the row; and an entry of two bytes stands at the second.
use Rattle.std.specs.Prelude.{ℕ, ◌+◌, ◌-◌, ◌≤◌, ◌≡◌, Bool, ◌||◌, ltb, eqb}
use Rattle.wire.specs.Choose.{choose}
use Rattle.card.specs.Layout.{word_count, memory_size, row_size, kind_at, num_at, high_address_at, data_most, datalink_part_at, lecom_part_at, love_part_at, lucid_part_at}
use Rattle.receive.specs.declared.Dialect.{Dialect}
use Rattle.receive.specs.Parts.{part_at, longest_of}

-- where the row's entries start, and where all end
abbrev pub row_from : ℕ
row_from = word_count + memory_size

abbrev pub entry_count : ℕ
entry_count = row_from + row_size

-- the pending change's entries before its data
abbrev pub kind_place : ℕ
kind_place = 1

abbrev pub address_place : ℕ
address_place = 2

abbrev pub num_place : ℕ
num_place = 3

-- its first entry, how many it has, and where they end
abbrev pub change_from : ℕ
change_from = row_from + kind_place

abbrev pub change_count : ℕ
change_count = 3 + data_most

abbrev pub change_end : ℕ
change_end = change_from + change_count

-- where an entry of the row stands in it
unfoldable pub index_of : ℕ → ℕ
index_of place = choose (eqb place kind_place) kind_at (choose (eqb place address_place) high_address_at (choose (eqb place num_place) num_at place))

-- what stands there is a number of two bytes, of which this is the second: the pending change's address, and the count of each part frame
unfoldable pub is_second : ℕ → Bool
is_second i =
    eqb i high_address_at || (eqb i (datalink_part_at + 1) || (eqb i (lecom_part_at + 1) || (eqb i (love_part_at + 1) || eqb i (lucid_part_at + 1))))

-- "A VALUE it can hold": the largest of an entry of the row, and of any entry, as a word
unfoldable pub row_most : ℕ → ℕ
row_most place = choose (is_second (index_of place)) 65535 255

unfoldable pub most_of : ℕ → ℕ
most_of entry = choose (ltb entry word_count) 4294967295 (choose (ltb entry row_from) 255 (row_most (entry - row_from)))

-- count entries from first on end before another one, and are no more than the largest table has
pub record Tabled (end first count : ℕ) : Type 0 where
  pub inside : first + count ≤ end
  pub few : count ≤ memory_size

-- the table of a dialect's part frame: "place 0 is how many bytes were collected, .. place 1 and on the bytes", as many as its longest frame has
pub record PartTabled (d : Dialect) (first count : ℕ) : Type 0 where
  pub from : first ≡ row_from + (part_at d + 1)
  pub long : count ≡ 1 + longest_of d
