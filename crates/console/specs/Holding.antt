-- The answers that the console holds: the first bytes of a lent buffer.
use Rattle.std.specs.Prelude.{ℕ, ◌+◌, ◌≤◌, ◌≡◌, List, [], ◌∷◌, ◌++◌, length, take}
use Rattle.console.specs.Lent.{held_most}

-- ASCII
abbrev pub line_feed : ℕ
line_feed = 10

-- the n bytes held are followed by an answer line and its line feed
pub record Followed (n : ℕ) (line held : List ℕ) (r : ℕ) (held' : List ℕ) : Type 0 where
  pub inside : n ≤ length held
  pub measured : r ≡ n + length (line ++ (line_feed ∷ []))
  pub written : take r held' ≡ take n held ++ (line ++ (line_feed ∷ []))

-- the n bytes held are there still, and maybe more after them
pub record Longer (n : ℕ) (held : List ℕ) (r : ℕ) (held' : List ℕ) : Type 0 where
  pub least : n ≤ r
  pub most : r ≤ held_most
  pub same : take n held' ≡ take n held
