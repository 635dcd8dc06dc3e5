-- What is taken from a line.
use Rattle.std.specs.Prelude.{ℕ, ◌+◌, ◌≤◌, ◌≡◌, List, length, take, drop}

-- a word: it stands at a place of the line, and the next place is not before its end; the line stays
pub record Taken (line : List ℕ) (at : ℕ) (word line' : List ℕ) (at' : ℕ) : Type 0 where
  pub stands : word ≡ take (length word) (drop at line)
  pub after : at + length word ≤ at'
  pub stays : line' ≡ line
