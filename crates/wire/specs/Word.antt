-- A word: a number of 32 bits. A signed number is kept in two's complement.
use Rattle.std.specs.Prelude.{ℕ, ◌-◌}

-- how many values a word has
abbrev pub word_values : ℕ
word_values = 4294967296

-- the word of −n, for n at least 1
abbrev pub minus : ℕ → ℕ
minus n = word_values - n
