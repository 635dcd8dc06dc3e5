-- A byte is among some where the library's search finds it. Assumes nothing.
use Rattle.std.proofs.Common.{◌≡◌, ℕ, Bool, ◌||◌, List, [], ◌∷◌, eqb, refl, ap, sym, ◌∙◌}
use Rattle.std.specs.List.{list_any}
use Rattle.receiver.specs.Step.{among}

any_among : (x : ℕ) (bytes : List ℕ) → list_any (λ (y : ℕ). eqb y x) bytes ≡ among x bytes
unfolding among
any_among x [] = refl
any_among x (b ∷ bytes) = ap (λ (t : Bool). eqb b x || t) (any_among x bytes)

pub told_among : (x : ℕ) (bytes : List ℕ) (found : Bool) → found ≡ list_any (λ (y : ℕ). eqb y x) bytes → among x bytes ≡ found
told_among x bytes found e = sym (any_among x bytes) ∙ sym e
