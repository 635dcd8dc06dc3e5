-- The line of a receiver's call. docs/CONSOLE.md.
use Rattle.std.specs.Prelude.{ℕ, ◌+◌, ◌*◌, List, [], ◌∷◌, ◌++◌, leb}
use Rattle.wire.specs.Choose.{choose}
use Rattle.figures.specs.Decimal.{shortest}
use Rattle.figures.specs.Signed.{longest_text}
use Rattle.card.specs.Numbers.{done}
use Rattle.lines.specs.Lent.{room_most}
use Rattle.lines.specs.Text.{space, spaced, told}

-- "the number; if it is 0 or 1 then how many bytes were taken, and the frame's bytes"
unfoldable pub received : ℕ → ℕ → List ℕ → List ℕ
received number taken bytes =
    choose (leb number done) (((shortest number ++ (space ∷ [])) ++ shortest taken) ++ spaced bytes) (told number [])

abbrev pub received_most : ℕ
received_most = longest_text + 1 + longest_text + 3 * room_most
