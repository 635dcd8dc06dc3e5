-- A frame that is the same or longer does not come before. Assumes nothing.
use Rattle.std.proofs.Common.{◌≡◌, ℕ, ◌<◌, true, ltb, ◌⊎◌, List, [], ◌∷◌, length, refl, ⊎_elim, lt-ltb, eq-eqb}
use Rattle.wire.proofs.Tests.{or_true_right}
use Rattle.asking.specs.Claims.{no_higher, no_later}

-- the same, or longer
abbrev pub Longer : List ℕ → List ℕ → Type 0
Longer f m = (f ≡ m) ⊎ (length m < length f)

-- a frame is no higher than itself
pub no_higher_law : (s : List ℕ) → no_higher s s ≡ true
unfolding no_higher
no_higher_law [] = refl
no_higher_law (x ∷ s) = rw (eq-eqb x x refl, no_higher_law s) (or_true_right (ltb x x))

-- the same frame or a longer one comes no earlier
pub no_later_law : (f m : List ℕ) → Longer f m → no_later m f ≡ true
unfolding no_later
no_later_law f m = ⊎_elim (λ (e : f ≡ m). rw (e, eq-eqb (length m) (length m) refl, no_higher_law m) (or_true_right (ltb (length m) (length m)))) (λ (l : length m < length f). rw (lt-ltb (length m) (length f) l))
