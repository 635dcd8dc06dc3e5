-- The dialects by name, as a line has them.
use Rattle.std.specs.Prelude.{◌≡◌, true, false, List, [], ◌∷◌, ℕ, take, drop, Option, Some, None}
use Rattle.wire.specs.Buffer.{same}
use Rattle.receive.specs.declared.Dialect.{Dialect}
use Rattle.receive.specs.declared.Dialect.TheVariants.{Datalink, Lecom, Love, Lucid}

-- "datalink", "lecom", "love" and "lucid" in ASCII
abbrev pub name_of : Dialect → List ℕ
name_of Datalink = 100 ∷ 97 ∷ 116 ∷ 97 ∷ 108 ∷ 105 ∷ 110 ∷ 107 ∷ []
name_of Lecom = 108 ∷ 101 ∷ 99 ∷ 111 ∷ 109 ∷ []
name_of Love = 108 ∷ 111 ∷ 118 ∷ 101 ∷ []
name_of Lucid = 108 ∷ 117 ∷ 99 ∷ 105 ∷ 100 ∷ []

-- a word is the name of this dialect, or of none
abbrev pub Named : List ℕ → Option Dialect → Type 0
Named word (Some d) = same word (name_of d) ≡ true
Named word None = (d : Dialect) → same word (name_of d) ≡ false

-- a word that stands from a place of a line on is
pub record NamedFrom (line : List ℕ) (at : ℕ) (dialect : Option Dialect) : Type 0 where
  pub size : ℕ
  pub named : Named (take size (drop at line)) dialect
