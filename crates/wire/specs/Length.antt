-- "Each dialect carries its own shortest and longest frame".
use Rattle.std.specs.Prelude.{ℕ, Bool, ◌&&◌, nat_le}

-- a frame of n bytes is neither shorter than the shortest nor longer than the longest
unfoldable pub between : ℕ → ℕ → ℕ → Bool
between shortest longest n = nat_le shortest n && nat_le n longest
