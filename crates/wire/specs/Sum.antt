-- "The sum is taken modulo 256": the Datalink LRC and the Love checksums.
use Rattle.std.specs.Prelude.{ℕ, ◌+◌, ◌%◌, List, [], ◌∷◌}

-- how many values a byte has
abbrev pub byte_values : ℕ
byte_values = 256

-- the sum of a list's bytes
unfoldable pub total : List ℕ → ℕ
total [] = 0
total (x ∷ xs) = x + total xs

-- the sum taken modulo 256
unfoldable pub sum_of : List ℕ → ℕ
sum_of xs = total xs % byte_values
