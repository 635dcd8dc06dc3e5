-- Tests joined by "and", "or" and "not". Assumes nothing.
use Rattle.std.proofs.Common.{◌≡◌, Bool, true, false, not, ◌&&◌, ◌||◌, ◌⊎◌, sym, refl, inl, inr}

pub and_true : (a b : Bool) → (a && b) ≡ true → (a ≡ true) × (b ≡ true)
and_true true b h = (refl, h)
and_true false b h = (h, cc)

pub both : {a b : Bool} → a ≡ true → b ≡ true → (a && b) ≡ true
both h g = rw (h, g)

pub and_assoc : (a b d : Bool) → (a && (b && d)) ≡ ((a && b) && d)
and_assoc true b d = refl
and_assoc false b d = refl

pub and_true_right : (t : Bool) → (t && true) ≡ t
and_true_right true = refl
and_true_right false = refl

pub and_false_right : (t : Bool) → (t && false) ≡ false
and_false_right true = refl
and_false_right false = refl

pub or_true_right : (t : Bool) → (t || true) ≡ true
or_true_right true = refl
or_true_right false = refl

pub or_false_right : (t : Bool) → (t || false) ≡ t
or_false_right true = refl
or_false_right false = refl

pub not_or : (a b : Bool) → not (a || b) ≡ (not a && not b)
not_or true b = refl
not_or false b = refl

-- two tests, each of which gives the other, are one
pub same_test : (a b : Bool) → (a ≡ true → b ≡ true) → (b ≡ true → a ≡ true) → a ≡ b
same_test true b f g = sym (f refl)
same_test false true f g = g refl
same_test false false f g = refl

pub or_true : (a b : Bool) → (a || b) ≡ true → (a ≡ true) ⊎ (b ≡ true)
or_true true b h = inl refl
or_true false b h = inr h

pub neither : (a b : Bool) → (a || b) ≡ false → (a ≡ false) × (b ≡ false)
neither true b h = (h, cc)
neither false b h = (refl, h)

-- one of two tests
pub either : {P : Type 0} (a b : Bool) → (a || b) ≡ true → (a ≡ true → P) → (b ≡ true → P) → P
either true b h f g = f refl
either false b h f g = g h

-- what is not true
pub refuted : (t : Bool) → (t ≡ true → ⊥) → false ≡ t
refuted true h = absurd (h refl)
refuted false h = refl
