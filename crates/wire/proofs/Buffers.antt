-- Laws of specs/Buffer.antt: an answer grows at its end, and what a change leaves before it and after it. Assumes nothing.
use Rattle.std.proofs.Common.{◌≡◌, ℕ, zero, suc, ◌+◌, ◌-◌, ◌<◌, ◌≤◌, List, [], ◌∷◌, ◌++◌, length, get_or, take, drop, set, sym, refl, ap, ◌∙◌, append_assoc, add-zero, zero-add, add-one, arith, length-append, length-drop, take-append-drop, length-take, length-take-le, get_or-drop, take_all, drop-cons, get_or-take, take-take, drop-drop, take_at, take-add, drop_at}
use borrow.Rule.Slice.PartMut.{put_mid}
use lib.Seq.{take-append_seam, take-append-le, drop-append-add, set-append_seam, take-nil, sets, sets-eq, set_at}
use Rattle.wire.specs.Buffer.{put, overlay, part}

pub overlay_none : (out : List ℕ) → overlay [] out ≡ out
unfolding overlay
overlay_none out = refl

pub length_overlay : (vs out : List ℕ) → length vs ≤ length out → length (overlay vs out) ≡ length out
unfolding overlay
length_overlay vs out h = simp (length-append, length-drop) (omega arith)

pub overlay_sets : (vs out : List ℕ) → length vs ≤ length out → sets out 0 vs ≡ overlay vs out
unfolding overlay
overlay_sets vs out h = sets-eq vs out 0 (omega arith) ∙ rw zero-add

-- a list put at the front of a buffer
pub put_front : (vs out : List ℕ) → put out 0 vs ≡ overlay vs out
unfolding overlay put
put_front vs out = rw zero-add

-- a list put at the answer's end
pub overlay_put : (vs d out : List ℕ) → put (overlay vs out) (length vs) d ≡ overlay (vs ++ d) out
unfolding overlay put
overlay_put vs d out =
    simp (take-append_seam, drop-append-add, drop-drop, length-append, append_assoc)

-- the answer in its buffer
pub overlay_front : (vs out : List ℕ) (n : ℕ) → n ≡ length vs → take n (overlay vs out) ≡ vs
unfolding overlay
overlay_front vs out n e = rw e (take-append_seam vs (drop (length vs) out))

-- a byte put at the answer's end
pub overlay_set : (vs out : List ℕ) (x : ℕ) → length vs < length out → set (overlay vs out) (length vs) x ≡ overlay (vs ++ (x ∷ [])) out
unfolding overlay
overlay_set vs out x h =
    ap (λ (l : List ℕ). set (vs ++ l) (length vs) x) (drop-cons out (length vs) 0 h)
    ∙ set-append_seam vs (get_or out (length vs) 0) (drop (suc (length vs)) out) x
    ∙ simp (length-append, append_assoc, add-one)

-- what stands in the answer after its first byte
pub overlay_rest : (x : ℕ) (b out : List ℕ) → take (length b) (drop 1 (overlay (x ∷ b) out)) ≡ b
unfolding overlay
overlay_rest x b out = take-append_seam b (drop (suc (length b)) out)

-- a part of a slice written as a whole
pub put_part : (d ys s : List ℕ) (at k : ℕ) → ys ≡ s → k ≡ length s → put_mid at k d ys ≡ put d at s
unfolding put
put_part d ys s at k e n = rw (e, n) (ap (λ (l : List ℕ). take at d ++ (s ++ l)) (drop-drop (length s) at d))

-- elements stored one after another
pub put_sets : (vs d : List ℕ) (at : ℕ) → at + length vs ≤ length d → sets d at vs ≡ put d at vs
unfolding put
put_sets vs d at h = sets-eq vs d at h ∙ append_assoc (take at d) vs (drop (at + length vs) d)

-- an element stored after a list that was put
pub put_set : (d : List ℕ) (at : ℕ) (vs : List ℕ) (x : ℕ) → at + length vs < length d → set (put d at vs) (at + length vs) x ≡ put d at (vs ++ (x ∷ []))
unfolding put
put_set d at vs x h =
    let n = at + length vs in
    let l : length (take at d ++ vs) ≡ n = length-append (take at d) vs ∙ ap (λ (k : ℕ). k + length vs) (length-take-le at d (omega arith)) in
    let m : at + length (vs ++ (x ∷ [])) ≡ suc n = rw length-append (omega arith) in
    ap (λ (r : List ℕ). set (take at d ++ (vs ++ r)) n x) (drop-cons d n 0 h)
    ∙ ap (λ (r : List ℕ). set r n x) (sym (append_assoc (take at d) vs (get_or d n 0 ∷ drop (suc n) d)))
    ∙ set_at (take at d ++ vs) (get_or d n 0) (drop (suc n) d) x n l
    ∙ rw m (simp append_assoc)

pub length_put : (d : List ℕ) (at : ℕ) (vs : List ℕ) → at + length vs ≤ length d → length (put d at vs) ≡ length d
unfolding put
length_put d at vs h = simp (length-append, length-take, length-drop) (omega arith)

-- nothing put
pub put_none : (d : List ℕ) (at : ℕ) → put d at [] ≡ d
unfolding put
put_none d at = rw add-zero (take-append-drop at d)

-- a list put after a list that was put
pub put_put : (d : List ℕ) (at : ℕ) (a b : List ℕ) → at ≤ length d → put (put d at a) (at + length a) b ≡ put d at (a ++ b)
unfolding put
put_put d at a b h =
    let p = take at d ++ a in
    let n = at + length a in
    let r = drop n d in
    let l : length p ≡ n = length-append (take at d) a ∙ ap (λ (k : ℕ). k + length a) (length-take-le at d h) in
    let e : take at d ++ (a ++ r) ≡ p ++ r = sym (append_assoc (take at d) a r) in
    let t : take n (take at d ++ (a ++ r)) ≡ p = ap (take n) e ∙ take_at p r n l in
    let s : drop (n + length b) (take at d ++ (a ++ r)) ≡ drop (n + length b) d =
    ap (drop (n + length b)) e ∙ ap (λ (k : ℕ). drop (k + length b) (p ++ r)) (sym l) ∙ drop-append-add p r (length b) ∙ drop-drop (length b) n d in
    let m : at + length (a ++ b) ≡ n + length b = rw length-append (omega arith) in
    rw (t, s, m) (simp append_assoc)

-- two parts that meet
pub part_append : (s : List ℕ) (a b e : ℕ) → a ≤ b → b ≤ e → part s a b ++ part s b e ≡ part s a e
part_append s a b e h k =
    let n : e - a ≡ (b - a) + (e - b) = omega arith in
    let m : b ≡ a + (b - a) = omega arith in
    sym (ap (λ (x : ℕ). take x (drop a s)) n ∙ take-add (b - a) (e - b) (drop a s)
    ∙ ap (λ (l : List ℕ). take (b - a) (drop a s) ++ take (e - b) l) (drop-drop (b - a) a s ∙ ap (λ (x : ℕ). drop x s) (sym m)))

pub length_part : (s : List ℕ) (a e : ℕ) → a ≤ e → e ≤ length s → length (part s a e) ≡ e - a
length_part s a e h k = simp (length-take, length-drop) (omega arith)

-- an index into a part
pub get_d_part : (s : List ℕ) (a e i : ℕ) → i < e - a → get_or (part s a e) i 0 ≡ get_or s (a + i) 0
get_d_part s a e i h = get_or-take (e - a) (drop a s) i 0 h ∙ get_or-drop a s i 0

-- a part to the end is what is left
pub part_rest : (s : List ℕ) (a : ℕ) → part s a (length s) ≡ drop a s
part_rest s a = take_all (length s - a) (drop a s) (rw length-drop (omega arith))

-- a part of a list's front is that part of the list
front_part : (a c n : ℕ) (s : List ℕ) → a + c ≤ n → take c (drop a (take n s)) ≡ take c (drop a s)
front_part zero c n s h = take-take c n s (omega arith)
front_part (suc a) c n [] h = ap (take c) (ap (drop (suc a)) (take-nil n))
front_part (suc a) c zero (x ∷ s) h = let z : ⊥ = omega arith in absurd z
front_part (suc a) c (suc n) (x ∷ s) h = front_part a c n s (omega arith)

-- two lists with the same front, and with the same rest
module _ (s t : List ℕ) (n : ℕ) where
  pub get_d_front : take n s ≡ take n t → (i : ℕ) → i < n → get_or s i 0 ≡ get_or t i 0
  get_d_front e i h = sym (get_or-take n s i 0 h) ∙ ap (λ (l : List ℕ). get_or l i 0) e ∙ get_or-take n t i 0 h

  pub part_front : take n s ≡ take n t → (a e : ℕ) → a ≤ e → e ≤ n → part s a e ≡ part t a e
  part_front same a e h l =
      sym (front_part a (e - a) n s (omega arith)) ∙ ap (λ (x : List ℕ). part x a e) same ∙ front_part a (e - a) n t (omega arith)

  pub drop_back : drop n s ≡ drop n t → (a : ℕ) → n ≤ a → drop a s ≡ drop a t
  drop_back same a h =
      let m : n + (a - n) ≡ a = omega arith in
      let e : drop (n + (a - n)) s ≡ drop (n + (a - n)) t = sym (drop-drop (a - n) n s) ∙ ap (drop (a - n)) same ∙ drop-drop (a - n) n t in
      rw m at e

  pub part_back : drop n s ≡ drop n t → (a e : ℕ) → n ≤ a → part s a e ≡ part t a e
  part_back same a e h = ap (take (e - a)) (drop_back same a h)

-- what stands before a list that was put, in its place and after it
module _ (d : List ℕ) (at : ℕ) (s : List ℕ) (fits : at + length s ≤ length d) where
  pub take_put : (n : ℕ) → n ≤ at → take n (put d at s) ≡ take n d
  unfolding put
  take_put n h =
      let l : length (take at d) ≡ at = length-take-le at d (omega arith) in
      take-append-le n (take at d) _ (omega arith) ∙ take-take n at d h

  pub part_put : part (put d at s) at (at + length s) ≡ s
  unfolding put
  part_put =
      let n : at + length s - at ≡ length s = omega arith in
      rw (n, drop_at (take at d) (s ++ drop (at + length s) d) at (length-take-le at d (omega arith))) (take-append_seam s (drop (at + length s) d))

  pub drop_put : (n : ℕ) → at + length s ≤ n → drop n (put d at s) ≡ drop n d
  unfolding put
  drop_put n h =
      let l : length (take at d ++ s) ≡ at + length s = length-append (take at d) s ∙ ap (λ (k : ℕ). k + length s) (length-take-le at d (omega arith)) in
      drop_back (put d at s) d (at + length s) (rw (← append_assoc (take at d) s (drop (at + length s) d)) (drop_at (take at d ++ s) (drop (at + length s) d) (at + length s) l)) n h

  -- the same, element by element
  pub get_d_put_before : (i : ℕ) → i < at → get_or (put d at s) i 0 ≡ get_or d i 0
  get_d_put_before i h = get_d_front (put d at s) d at (take_put at (omega arith)) i h

  pub get_d_put_at : (i : ℕ) → i < length s → get_or (put d at s) (at + i) 0 ≡ get_or s i 0
  get_d_put_at i h = sym (get_d_part (put d at s) at (at + length s) i (omega arith)) ∙ ap (λ (l : List ℕ). get_or l i 0) part_put

  pub get_d_put_after : (i : ℕ) → at + length s ≤ i → get_or (put d at s) i 0 ≡ get_or d i 0
  get_d_put_after i h =
      let m : i + 0 ≡ i = omega arith in
      ap (λ (j : ℕ). get_or (put d at s) j 0) (sym m) ∙ sym (get_or-drop i (put d at s) 0 0) ∙ ap (λ (l : List ℕ). get_or l 0 0) (drop_put i h) ∙ get_or-drop i d 0 0 ∙ ap (λ (j : ℕ). get_or d j 0) m
