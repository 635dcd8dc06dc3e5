-- A run of a list copied to another place of it. Assumes nothing.
use Rattle.std.proofs.Common.{◌≡◌, ℕ, suc, ◌+◌, ◌-◌, ◌<◌, ◌≤◌, ◌⊎◌, List, ◌++◌, length, get_or, take, drop, set, sym, ap, ◌∙◌, inl, inr, ⊎_elim, append_assoc, arith, length-drop, length-take, length-take-le, get_or-drop, get_or-take}
use lib.ListN.{get_or-append}
use lib.Seq.{paste, paste-suc, take-paste, drop-paste, take-length}
use Rattle.wire.specs.Buffer.{put, part}

-- what lies outside the part that was replaced
pub kept : (d s : List ℕ) (to i j : ℕ) → to + i ≤ length d → i ≤ length s → (j < to) ⊎ (to + i ≤ j) → get_or (paste d to s i) j 0 ≡ get_or d j 0
kept d s to i j h k o =
    ⊎_elim
    (λ l.
    sym (get_or-take (to + i) (paste d to s i) j 0 (omega arith)) ∙ ap (λ (x : List ℕ). get_or x j 0) (take-paste d to s i (omega arith) k)
    ∙ get_or-append (take to d) (take i s) 0 j (rw (length-take-le to d (omega arith)) l) ∙ get_or-take to d j 0 l)
    (λ g.
    let m : to + i + (j - (to + i)) ≡ j = omega arith in
    ap (λ (x : ℕ). get_or (paste d to s i) x 0) (sym m) ∙ sym (get_or-drop (to + i) (paste d to s i) (j - (to + i)) 0)
    ∙ ap (λ (x : List ℕ). get_or x (j - (to + i)) 0) (drop-paste d to s i (omega arith) k) ∙ get_or-drop (to + i) d (j - (to + i)) 0 ∙ ap (λ (x : ℕ). get_or d x 0) m)
    o

-- a turn of a copy within one list
pub turn : (d : List ℕ) (from to n i : ℕ) → from + n ≤ length d → to + n ≤ length d → (from + n ≤ to) ⊎ (to + n ≤ from) → i < n
    → set (paste d to (take (from + n - from) (drop from d)) i) (to + i) (get_or (paste d to (take (from + n - from) (drop from d)) i) (from + i) 0)
    ≡ paste d to (take (from + n - from) (drop from d)) (suc i)
turn d from to n i a b o h =
    let s = take (from + n - from) (drop from d) in
    let l : length s ≡ n = simp (length-take, length-drop) (omega arith) in
    let out : (from + i < to) ⊎ (to + i ≤ from + i) = ⊎_elim (λ p. inl (omega arith)) (λ p. inr (omega arith)) o in
    let same : get_or (paste d to s i) (from + i) 0 ≡ get_or s i 0 =
    kept d s to i (from + i) (omega arith) (omega arith) out ∙ sym (get_or-take (from + n - from) (drop from d) i 0 (omega arith) ∙ get_or-drop from d i 0) in
    ap (λ (x : ℕ). set (paste d to s i) (to + i) x) same ∙ paste-suc d to s i 0 (omega arith) (omega arith)

-- a run that was pasted whole
pub done : (d : List ℕ) (from to n : ℕ) → from + n ≤ length d → paste d to (take (from + n - from) (drop from d)) n ≡ put d to (part d from (from + n))
unfolding put
done d from to n a =
    let s = take (from + n - from) (drop from d) in
    let l : length s ≡ n = simp (length-take, length-drop) (omega arith) in
    ap (λ (k : ℕ). take to d ++ take k s ++ drop (to + k) d) (sym l) ∙ ap (λ (x : List ℕ). take to d ++ x ++ drop (to + length s) d) (take-length s) ∙ append_assoc (take to d) s (drop (to + length s) d)
