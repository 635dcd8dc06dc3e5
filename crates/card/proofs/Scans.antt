-- One turn of the scans of specs/Scans.antt: what is left of a test after the next words. Assumes nothing.
use Rattle.std.proofs.Common.{◌≡◌, ℕ, suc, ◌+◌, ◌<◌, Bool, true, ◌&&◌, List, [], ◌∷◌, ◌++◌, length, get_or, take, drop, sym, refl, ap, ◌∙◌, arith, take-append-drop, drop-cons, drop-drop}
use Rattle.wire.proofs.Tests.{and_assoc}
use Rattle.card.specs.Fitness.{in_span, cycle_least, cycle_most, floor_most}
use Rattle.card.specs.Scans.{all_in, fit_parameters}

-- the test of two lists one after the other
pub all_in_append : (lo hi : ℕ) (s t : List ℕ) → all_in lo hi (s ++ t) ≡ (all_in lo hi s && all_in lo hi t)
unfolding all_in
all_in_append lo hi [] t = refl
all_in_append lo hi (x ∷ s) t = ap (λ (r : Bool). in_span lo hi x && r) (all_in_append lo hi s t) ∙ and_assoc (in_span lo hi x) (all_in lo hi s) (all_in lo hi t)

-- a list's test is that of its first k words and that of the rest
pub all_in_parts : (lo hi k : ℕ) (s : List ℕ) → all_in lo hi s ≡ (all_in lo hi (take k s) && all_in lo hi (drop k s))
all_in_parts lo hi k s = ap (all_in lo hi) (sym (take-append-drop k s)) ∙ all_in_append lo hi (take k s) (drop k s)

-- the same for three parts, the first two of n words each
pub all_in_thirds : (lo hi n : ℕ) (s : List ℕ) → all_in lo hi s ≡ (all_in lo hi (take n s) && (all_in lo hi (take n (drop n s)) && all_in lo hi (drop (n + n) s)))
all_in_thirds lo hi n s =
    let rest : all_in lo hi (drop n s) ≡ (all_in lo hi (take n (drop n s)) && all_in lo hi (drop (n + n) s)) = rw (← drop-drop n n s) (all_in_parts lo hi n (drop n s)) in
    all_in_parts lo hi n s ∙ ap (λ (t : Bool). all_in lo hi (take n s) && t) rest

-- a test found `here` at index i, and `ok` before it
pub all_in_next : (lo hi : ℕ) (s : List ℕ) (i : ℕ) (ok here : Bool) → i < length s → here ≡ in_span lo hi (get_or s i 0) → (ok && all_in lo hi (drop i s)) ≡ ((ok && here) && all_in lo hi (drop (suc i) s))
unfolding all_in
all_in_next lo hi s i ok here h e = rw (drop-cons s i 0 h, ← e) (and_assoc ok here (all_in lo hi (drop (suc i) s)))

-- the same for a pair of parameters and the rest behind it
pub parameters_next : (pair rest : List ℕ) (ok cycle floor : Bool) → length pair ≡ 2 → cycle ≡ in_span cycle_least cycle_most (get_or pair 0 0) → floor ≡ in_span 0 floor_most (get_or pair 1 0)
    → (ok && fit_parameters (pair ++ rest)) ≡ ((ok && (cycle && floor)) && fit_parameters rest)
unfolding fit_parameters
parameters_next [] rest ok cycle floor l a b = let z : ⊥ = omega arith in absurd z
parameters_next (x ∷ []) rest ok cycle floor l a b = let z : ⊥ = omega arith in absurd z
parameters_next (x ∷ y ∷ []) rest ok cycle floor l a b =
    rw (← a, ← b) (ap (λ (t : Bool). ok && t) (and_assoc cycle floor (fit_parameters rest)) ∙ and_assoc ok (cycle && floor) (fit_parameters rest))
parameters_next (x ∷ y ∷ z ∷ p) rest ok cycle floor l a b = let z : ⊥ = omega arith in absurd z

-- fewer than two words hold no pair
pub parameters_none : (s : List ℕ) → length s < 2 → fit_parameters s ≡ true
unfolding fit_parameters
parameters_none [] h = refl
parameters_none (x ∷ []) h = refl
parameters_none (x ∷ y ∷ s) h = let z : ⊥ = omega arith in absurd z
