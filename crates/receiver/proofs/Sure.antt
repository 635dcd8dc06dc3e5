-- No byte behind a part frame is sure: that holds of every one within the rules. Assumes nothing.
use Rattle.std.proofs.Common.{◌≡◌, sym, subst, Bool, true, List, [], ◌∷◌, ◌++◌, append-nil, ℕ, ◌≤◌, arith, length}
use Rattle.receiver.specs.Place.{Sure}

pub sure_none : (held : List ℕ → Bool) (longest : ℕ) (p : List ℕ) → held p ≡ true → length p ≤ longest → Sure held longest p 0
sure_none held longest p h l = record { kept = λ more k. subst (λ (x : List ℕ). held x ≡ true) (sym (none p more k)) h; room = omega arith }
  where
    none : (p more : List ℕ) → length more ≤ 0 → p ++ more ≡ p
    none p [] k = append-nil p
    none p (x ∷ more) k = let z : ⊥ = omega arith in absurd z
