-- The sizes of what the console lends besides a line and its answer.
use Rattle.std.specs.Prelude.{ℕ, Option, Some, None}

-- how many bytes are read from the input at once
abbrev pub read_most : ℕ
read_most = 65536

-- the buffer of the answers that are held
abbrev pub held_most : ℕ
held_most = 131072

-- how much of a line has come; of one that is too long nothing is kept
abbrev pub come : Option ℕ → ℕ
come (Some n) = n
come None = 0
