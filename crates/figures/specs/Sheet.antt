-- Figures and characters by table. "Replace the tests for hex figures, however they are done now, by one table of 256 entries, one for each
-- received byte, giving its figure or a mark for none, with upper and lower case told apart" (document 02, M-101).
use Rattle.std.specs.Prelude.{ℕ, ◌+◌, ◌<◌, ◌≡◌, false, List, get_or}
use Rattle.wire.specs.Sum.{byte_values}
use Rattle.wire.specs.Length.{between}
use Rattle.figures.specs.Figure.{base, figure_of, char_of}

-- the first n entries of a table are what a rule gives; an entry past its end is 0
pub record Tabled (rule : ℕ → ℕ) (n : ℕ) (s : List ℕ) : Type 0 where
  pub entry : (k : ℕ) → k < n → get_or s k 0 ≡ rule k

-- the sheet: the entry of each byte is what the byte means as a figure
abbrev pub IsSheet : List ℕ → Type 0
IsSheet s = Tabled figure_of byte_values s

-- the sheet in the request's words: "exactly 0 to 9, A to F and a to f have a figure", upper and lower case told apart. By numbers,
-- so that it is read without Figure.antt: 48 is the character 0, 65 is A, 97 is a, and 32 the mark for none
pub record Exactly (s : List ℕ) : Type 0 where
  pub decimals : (k : ℕ) → k < 10 → get_or s (48 + k) 0 ≡ k
  pub uppers : (k : ℕ) → k < 6 → get_or s (65 + k) 0 ≡ 10 + k
  pub lowers : (k : ℕ) → k < 6 → get_or s (97 + k) 0 ≡ 26 + k
  pub others : (b : ℕ) → b < 256 → between 48 57 b ≡ false → between 65 70 b ≡ false → between 97 102 b ≡ false → get_or s b 0 ≡ 32

-- the alphabet: the entry of each value is its upper-case character
abbrev pub IsAlphabet : List ℕ → Type 0
IsAlphabet s = Tabled char_of base s
