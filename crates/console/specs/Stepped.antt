-- The line of a master's step. docs/CONSOLE.md.
use Rattle.std.specs.Prelude.{ℕ, ◌+◌, ◌*◌, List, [], ◌∷◌, ◌++◌}
use Rattle.figures.specs.Decimal.{shortest}
use Rattle.figures.specs.Signed.{longest_text}
use Rattle.lines.specs.Lent.{room_most}
use Rattle.lines.specs.Text.{spaced}
use Rattle.master.specs.declared.Verdict.{Verdict}
use Rattle.master.specs.declared.Verdict.TheVariants.{Open, Done, Unknown}

-- "what the master then says (`open`, `done` or `unknown`)", after a space
unfoldable pub verdict_of : Verdict → List ℕ
verdict_of Open = 32 ∷ 111 ∷ 112 ∷ 101 ∷ 110 ∷ []
verdict_of Done = 32 ∷ 100 ∷ 111 ∷ 110 ∷ 101 ∷ []
verdict_of Unknown = 32 ∷ 117 ∷ 110 ∷ 107 ∷ 110 ∷ 111 ∷ 119 ∷ 110 ∷ []

abbrev pub verdict_most : ℕ
verdict_most = 8

-- "the number, what the master then says, the frame's bytes"
unfoldable pub stepped : ℕ → Verdict → List ℕ → List ℕ
stepped number verdict bytes = (shortest number ++ verdict_of verdict) ++ spaced bytes

abbrev pub stepped_most : ℕ
stepped_most = longest_text + verdict_most + 3 * room_most
