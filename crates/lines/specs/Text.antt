-- Answer lines, without the line feed. docs/CONSOLE.md.
use Rattle.std.specs.Prelude.{ℕ, ◌+◌, ◌*◌, ◌/◌, ◌%◌, ◌≤◌, ◌≡◌, Bool, true, not, List, [], ◌∷◌, ◌++◌, length}
use Rattle.std.specs.Float.Ieee.{is_nan}
use Rattle.wire.specs.Choose.{choose}
use Rattle.wire.specs.Buffer.{put}
use Rattle.figures.specs.Figure.{pair_of}
use Rattle.figures.specs.Decimal.{shortest}
use Rattle.figures.specs.Signed.{text_of, longest_text}
use Rattle.card.specs.declared.governor.Governor.{Governor}
use Rattle.card.specs.declared.governor.Governor.TheVariants.{Degrees, Fault, Refused}
use Rattle.card.specs.Governor.{number_of, values_of}
use Rattle.lines.specs.Lent.{room_most}

-- text was written into out from a place on: the place after it, at most so many bytes on, and the whole buffer
pub record Put (most at : ℕ) (text out : List ℕ) (r : ℕ) (out' : List ℕ) : Type 0 where
  pub measured : r ≡ at + length text
  pub short : r ≤ at + most
  pub written : out' ≡ put out at text

-- ASCII
abbrev pub space : ℕ
space = 32

-- "Output bytes are two upper-case figures, each after one space"
unfoldable pub spaced : List ℕ → List ℕ
spaced [] = []
spaced (b ∷ bs) = space ∷ (pair_of b ++ spaced bs)

-- "the number, then the answer's bytes"
unfoldable pub told : ℕ → List ℕ → List ℕ
told number bytes = shortest number ++ spaced bytes

abbrev pub told_most : ℕ
told_most = longest_text + 3 * room_most

-- an entry of a table "in decimal"
unfoldable pub entry_of : Bool → ℕ → List ℕ
entry_of signed word = choose signed (text_of word) (shortest word)

-- "the f32's bits as eight upper-case hex figures"
unfoldable pub eight : ℕ → List ℕ
eight w = pair_of (w / 16777216) ++ (pair_of (w / 65536 % 256) ++ (pair_of (w / 256 % 256) ++ pair_of (w % 256)))

-- each of the governor's values after a space
unfoldable pub values : List ℕ → List ℕ
values [] = []
values (w ∷ ws) = space ∷ (eight w ++ values ws)

-- the figures, and the governor's line, take at most so many bytes
abbrev pub eight_most : ℕ
eight_most = 8

abbrev pub reading_most : ℕ
reading_most = longest_text + 1 + eight_most

-- the governor's number, and its value where there is one
unfoldable pub reading : Governor → List ℕ
reading g = shortest (number_of g) ++ values (values_of g)

-- degrees that are a number: only of these are there bits
abbrev pub is_real : Governor → Bool
is_real (Degrees d) = not (is_nan d)
is_real Fault = true
is_real (Refused number) = true
