-- Where the console stands between two turns.
use Rattle.std.specs.Prelude.{ℕ, ◌≤◌, ◌≡◌}
use Rattle.lines.specs.Lent.{answer_most}
use Rattle.console.specs.Lent.{read_most}

-- input is left from at to end of the buffer, or no answer is held; and an answer more can be held
pub record Standing (at end held : ℕ) : Type 0 where
  pub before : at ≤ end
  pub inside : end ≤ read_most
  pub room : held ≤ answer_most
  pub told : end ≤ at → held ≡ 0
