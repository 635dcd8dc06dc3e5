-- Where the bytes of a part frame stand in a table: from a place on, one behind the other.
use Rattle.std.specs.Prelude.{ℕ, ◌+◌, ◌-◌, List, [], ◌∷◌, length, set}
use Rattle.receiver.specs.Step.{Fate, Step, at_rest}
use Rattle.receiver.specs.Step.Fate.{Kept, Dropped, Finished}

-- a byte that is kept is stored where it stands, last in its part frame; one that drops or finishes is not, and what stands there stays
unfoldable pub storing : Fate → ℕ → ℕ → List ℕ → (List ℕ → List ℕ → List ℕ) → List ℕ
storing (Kept part) at b row more = more part (set row (at + (length part - 1)) b)
storing Dropped at b row more = more at_rest row
storing (Finished f) at b row more = row

-- the table after a call
unfoldable pub stored : Step → ℕ → List ℕ → List ℕ → List ℕ → List ℕ
stored step at part [] row = row
stored step at part (b ∷ bytes) row = storing (step part b) at b row (λ left row'. stored step at left bytes row')
