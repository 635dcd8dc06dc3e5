-- Laws of specs/Sum.antt. Assumes nothing.
use Rattle.std.proofs.Common.{◌≡◌, ℕ, zero, suc, ◌+◌, ◌%◌, ◌<◌, List, [], ◌∷◌, ◌++◌, length, get_or, take, le_of_suc-le-suc, not-suc-le-zero, arith}
use Rattle.wire.specs.Sum.{byte_values, total, sum_of}

-- one element more
pub total_suc : (s : List ℕ) (i : ℕ) → i < length s → total (take (suc i) s) ≡ total (take i s) + get_or s i 0
unfolding total
total_suc [] i h = absurd (not-suc-le-zero h)
total_suc (x ∷ s) zero h = omega arith
total_suc (x ∷ s) (suc i) h = omega (arith, total_suc s i (le_of_suc-le-suc h))

-- a sum is a byte
pub sum_byte : (s : List ℕ) → sum_of s < byte_values
unfolding sum_of
sum_byte s = omega arith

total_append : (a b : List ℕ) → total (a ++ b) ≡ total a + total b
unfolding total
total_append [] b = omega arith
total_append (x ∷ a) b = omega (arith, total_append a b)

-- the sum of a byte and of two lists, each summed by itself
pub sum_parts : (x : ℕ) (a b : List ℕ) → ((x + sum_of a) % byte_values + sum_of b) % byte_values ≡ sum_of (x ∷ (a ++ b))
unfolding total sum_of
sum_parts x a b = omega (arith, total_append a b)
