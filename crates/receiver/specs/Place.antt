-- What the functions of the receivers tell: where a byte goes, and what that makes of it.
use Prim.{Unit}
use Rattle.std.specs.Prelude.{ℕ, ◌+◌, ◌≤◌, ◌<◌, ◌≡◌, Bool, true, List, [], ◌∷◌, ◌++◌, length}
use Rattle.receiver.specs.Step.{Fate, Step}
use Rattle.receiver.specs.Step.Fate.{Kept, Dropped, Finished}
use Rattle.receiver.specs.declared.Place.{Place}
use Rattle.receiver.specs.declared.Place.TheVariants.{Behind, First, Nowhere, Last}

-- what becomes of a byte that goes there
abbrev pub fate_of : Place → List ℕ → ℕ → Fate
fate_of Behind part b = Kept (part ++ (b ∷ []))
fate_of First part b = Kept (b ∷ [])
fate_of Nowhere part b = Dropped
fate_of Last part b = Finished (part ++ (b ∷ []))

-- a byte that is added to n bytes does not go past the longest frame
abbrev pub Room : ℕ → ℕ → Place → Type 0
Room longest n Behind = n < longest
Room longest n First = Unit {0}
Room longest n Nowhere = Unit {0}
Room longest n Last = n < longest

-- a byte behind a part frame goes to its place
pub record Placed (step : Step) (longest : ℕ) (part : List ℕ) (b : ℕ) (place : Place) : Type 0 where
  pub fate : step part b ≡ fate_of place part b
  pub room : Room longest (length part) place

-- so many bytes behind a part frame are kept, whatever they are
pub record Sure (held : List ℕ → Bool) (longest : ℕ) (part : List ℕ) (n : ℕ) : Type 0 where
  pub kept : (more : List ℕ) → length more ≤ n → held (part ++ more) ≡ true
  pub room : length part + n ≤ longest
