-- What the bytes of a part frame leave of the table they stand in. Assumes nothing.
use Rattle.std.proofs.Common.{◌≡◌, refl, ◌∙◌, List, [], ◌∷◌, ℕ, ◌+◌, ◌-◌, ◌≤◌, arith, length, take, length-set}
use lib.Seq.{take-set-le}
use Rattle.receiver.specs.Step.{Fate, Step, at_rest}
use Rattle.receiver.specs.Step.Fate.{Kept, Dropped, Finished}
use Rattle.receiver.specs.Store.{storing, stored}

module _ (step : Step) (at : ℕ) where
  -- its length, and all that stands before them
  pub stored_length : (bytes part row : List ℕ) → length (stored step at part bytes row) ≡ length row
  unfolding stored storing
  stored_length [] part row = refl
  stored_length (b ∷ bytes) part row = go (step part b) (λ q r. stored_length bytes q r)
    where
      go : (o : Fate) → ((q r : List ℕ) → length (stored step at q bytes r) ≡ length r) → length (storing o at b row (λ left row'. stored step at left bytes row')) ≡ length row
      go (Kept q) more = more q _ ∙ length-set row (at + (length q - 1)) b
      go Dropped more = more at_rest row
      go (Finished f) more = refl

  pub stored_front : (k : ℕ) → k ≤ at → (bytes part row : List ℕ) → take k (stored step at part bytes row) ≡ take k row
  unfolding stored storing
  stored_front k h [] part row = refl
  stored_front k h (b ∷ bytes) part row = go (step part b) (λ q r. stored_front k h bytes q r)
    where
      go : (o : Fate) → ((q r : List ℕ) → take k (stored step at q bytes r) ≡ take k r) → take k (storing o at b row (λ left row'. stored step at left bytes row')) ≡ take k row
      go (Kept q) more = more q _ ∙ take-set-le k row (at + (length q - 1)) b (omega arith)
      go Dropped more = more at_rest row
      go (Finished f) more = refl
