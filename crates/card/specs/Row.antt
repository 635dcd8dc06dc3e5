-- The part frames in the port's row. Document 02, M-100.
use Rattle.std.specs.Prelude.{ℕ, ◌+◌, ◌/◌, ◌%◌, List, slice_index, slice_set}
use Rattle.wire.specs.Sum.{byte_values}
use Rattle.card.specs.Layout.{datalink_part_at, lecom_part_at, love_part_at, lucid_part_at}
use Rattle.card.specs.Change.{two_bytes}

-- how many bytes the part frame at a place of the row has
unfoldable pub count_at : ℕ → List ℕ → ℕ
count_at at row = two_bytes (slice_index row at) (slice_index row (at + 1))

-- the row with another count there
unfoldable pub with_count : ℕ → ℕ → List ℕ → List ℕ
with_count at n row = slice_set (slice_set row at (n % byte_values)) (at + 1) (n / byte_values)

-- "Quiet or a restart drops a part frame": a restart every one, whatever it holds
unfoldable pub no_parts : List ℕ → List ℕ
no_parts row = with_count lucid_part_at 0 (with_count love_part_at 0 (with_count lecom_part_at 0 (with_count datalink_part_at 0 row)))
