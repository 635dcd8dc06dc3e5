-- Two lists of bytes compared from the front. Assumes nothing.
use Rattle.std.proofs.Common.{◌≡◌, ℕ, suc, ◌<◌, ◌≤◌, Bool, true, false, ◌&&◌, eqb, List, [], ◌∷◌, length, get_or, drop, refl, ap, drop_of_length-le, drop-cons, eq-eqb, eqb-true}
use Rattle.wire.specs.Buffer.{same}
use Rattle.wire.proofs.Tests.{and_true, and_assoc, and_true_right, and_false_right}

-- ok tells of what was compared, and one element more
pub same_next : (ok : Bool) (xs ys : List ℕ) (i : ℕ) → i < length xs → i < length ys
    → (ok && same (drop i xs) (drop i ys)) ≡ ((ok && eqb (get_or xs i 0) (get_or ys i 0)) && same (drop (suc i) xs) (drop (suc i) ys))
unfolding same
same_next ok xs ys i h k = rw (drop-cons xs i 0 h, drop-cons ys i 0 k) (and_assoc ok (eqb (get_or xs i 0) (get_or ys i 0)) (same (drop (suc i) xs) (drop (suc i) ys)))

pub same_end : (ok : Bool) (xs ys : List ℕ) (i : ℕ) → length xs ≤ i → length ys ≤ i → (ok && same (drop i xs) (drop i ys)) ≡ ok
unfolding same
same_end ok xs ys i h k = rw (drop_of_length-le xs h, drop_of_length-le ys k) (and_true_right ok)

-- lists of two lengths differ
pub lengths_apart : (xs ys : List ℕ) → ¬ (length xs ≡ length ys) → same xs ys ≡ false
unfolding same
lengths_apart [] [] n = absurd (n refl)
lengths_apart [] (y ∷ ys) n = refl
lengths_apart (x ∷ xs) [] n = refl
lengths_apart (x ∷ xs) (y ∷ ys) n = rw (lengths_apart xs ys (λ e. n (ap suc e))) (and_false_right (eqb x y))

-- a list is the same as itself, and as no other
pub same_refl : (s : List ℕ) → same s s ≡ true
unfolding same
same_refl [] = refl
same_refl (x ∷ s) = rw (eq-eqb x x refl) (same_refl s)

pub same_true : (s t : List ℕ) → same s t ≡ true → s ≡ t
unfolding same
same_true [] [] h = refl
same_true [] (y ∷ t) h = cc
same_true (x ∷ s) [] h = cc
same_true (x ∷ s) (y ∷ t) h =
    let b = and_true (eqb x y) (same s t) h in
    let e : x ≡ y = eqb-true x y b.0 in
    let d : s ≡ t = same_true s t b.1 in
    cc
