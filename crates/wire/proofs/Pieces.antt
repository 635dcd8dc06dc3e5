-- A list put behind a first byte, a list by its first byte, its last one and what stands between, and a list of one byte. Assumes nothing.
use Rattle.std.proofs.Common.{◌≡◌, ℕ, suc, ◌+◌, ◌-◌, ◌<◌, ◌≤◌, eqb, List, [], ◌∷◌, ◌++◌, length, get_or, take, drop, set, sym, ap, ◌∙◌, arith, take-append-drop, drop_of_length-le, drop-cons, take_at}
use Rattle.wire.specs.Buffer.{put, part, same}
use Rattle.wire.proofs.Tests.{and_true_right}

-- a first byte, and a list put behind it
pub put_behind : (d : List ℕ) (x : ℕ) (s : List ℕ) (n : ℕ) → 0 < length d → n ≡ 1 + length s → take n (put (set d 0 x) 1 s) ≡ x ∷ s
unfolding put
put_behind [] x s n h e = let z : ⊥ = omega arith in absurd z
put_behind (y ∷ d) x s n h e = take_at (x ∷ s) (drop (1 + length s) (x ∷ d)) n (omega arith)

-- its first byte, what stands between, and its last one
pub framed : (r : List ℕ) → 2 ≤ length r → r ≡ get_or r 0 0 ∷ (part r 1 (length r - 1) ++ (get_or r (length r - 1) 0 ∷ []))
framed [] h = let z : ⊥ = omega arith in absurd z
framed (x ∷ s) h =
    let m = length s - 1 in
    let a : length (x ∷ s) - 1 - 1 ≡ m = omega arith in
    let b : length (x ∷ s) - 1 ≡ suc m = omega arith in
    let t : drop m s ≡ get_or s m 0 ∷ [] = drop-cons s m 0 (omega arith) ∙ ap (λ (l : List ℕ). get_or s m 0 ∷ l) (drop_of_length-le s {i = suc m} (omega arith)) in
    let w : s ≡ take m s ++ (get_or s m 0 ∷ []) = sym (take-append-drop m s) ∙ rw t in
    rw (a, b) (ap (λ (l : List ℕ). x ∷ l) w)

-- a list of one byte
pub same_one : (r : List ℕ) (x : ℕ) → length r ≡ 1 → same r (x ∷ []) ≡ eqb (get_or r 0 0) x
unfolding same
same_one [] x h = let z : ⊥ = omega arith in absurd z
same_one (y ∷ []) x h = and_true_right (eqb y x)
same_one (y ∷ z ∷ r) x h = let z : ⊥ = omega arith in absurd z
