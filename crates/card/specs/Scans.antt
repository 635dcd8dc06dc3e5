-- The test of words by runs of one range, for the functions that scan them. proofs/Ranges.antt holds it to specs/Fitness.antt.
use Rattle.std.specs.Prelude.{ℕ, ◌+◌, ◌%◌, Bool, true, ◌&&◌, List, [], ◌∷◌, nat_le, nat_lt}
use Rattle.wire.specs.Word.{word_values}
use Rattle.card.specs.Fitness.{in_span, cycle_least, cycle_most, floor_most, ia_most, lecom_right, love_right}

-- half the values of a word
abbrev pub half : ℕ
half = 0x80000000

-- a word, counted from the word −base, lies beyond most; both are shifted by half the values of a word
abbrev pub is_beyond : ℕ → ℕ → ℕ → Bool
is_beyond base most x = nat_lt ((most + half) % word_values) (((x + base) % word_values + half) % word_values)

-- every word of a list lies from lo to hi
unfoldable pub all_in : ℕ → ℕ → List ℕ → Bool
all_in lo hi [] = true
all_in lo hi (x ∷ xs) = in_span lo hi x && all_in lo hi xs

-- the pairs of both copies, channel by channel
unfoldable pub fit_parameters : List ℕ → Bool
fit_parameters [] = true
fit_parameters (cycle ∷ []) = true
fit_parameters (cycle ∷ floor ∷ rest) = in_span cycle_least cycle_most cycle && (in_span 0 floor_most floor && fit_parameters rest)

-- the three addresses
unfoldable pub fit_addresses : ℕ → ℕ → ℕ → Bool
fit_addresses ia lecom love = nat_le ia ia_most && (lecom_right lecom && love_right love)
