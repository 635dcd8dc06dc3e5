-- Lists whose elements are below a bound, made of others. Assumes nothing.
use Rattle.std.proofs.Common.{ℕ, zero, suc, ◌+◌, ◌<◌, List, [], ◌∷◌, ◌++◌, take, drop, sym, subst, get_or-drop}
use Rattle.asking.specs.Claims.{Below}

pub take_below : (bound n : ℕ) (s : List ℕ) → 0 < bound → Below bound s → Below bound (take n s)
take_below bound zero s p h i = p
take_below bound (suc n) [] p h i = p
take_below bound (suc n) (x ∷ s) p h zero = h zero
take_below bound (suc n) (x ∷ s) p h (suc i) = take_below bound n s p (λ j. h (suc j)) i

pub drop_below : (bound n : ℕ) (s : List ℕ) → Below bound s → Below bound (drop n s)
drop_below bound n s h i = subst (λ (x : ℕ). x < bound) (sym (get_or-drop n s i 0)) (h (n + i))

pub cons_below : (bound x : ℕ) (s : List ℕ) → x < bound → Below bound s → Below bound (x ∷ s)
cons_below bound x s h t zero = h
cons_below bound x s h t (suc i) = t i

pub append_below : (bound : ℕ) (s t : List ℕ) → Below bound s → Below bound t → Below bound (s ++ t)
append_below bound [] t h k i = k i
append_below bound (x ∷ s) t h k zero = h zero
append_below bound (x ∷ s) t h k (suc i) = append_below bound s t (λ j. h (suc j)) k i

pub none_below : (bound : ℕ) → 0 < bound → Below bound []
none_below bound p i = p
