-- LECOM's receiver hands over every frame that is taken as a read or a write. Assumes nothing.
use Rattle.std.proofs.Common.{Option, None, Result, Ok, Err, ◌≡◌, ℕ, zero, suc, ◌+◌, ◌-◌, ◌<◌, ◌≤◌, Bool, true, false, eqb, ltb, List, [], ◌∷◌, ◌++◌, length, get_or, drop, sym, refl, ap, ◌∙◌, subst, le_of_suc-le-suc, arith, length-append, length-drop, length-take, get_or-drop, get_or-take, ltb-false, ltb-true, lt-ltb, eq-eqb, ne_eqb, eqb-true}
use Rattle.std.proofs.lemmas.Bool.{eqb-false, not-false}
use Rattle.std.proofs.Math.ListN.{get_or-append}
use Rattle.std.proofs.Math.Seq.{get_or-append_seam, append_snoc}
use Prim.{tt}
use Rattle.wire.specs.Choose.{choose}
use Rattle.wire.specs.Buffer.{part}
use Rattle.wire.proofs.Cases.{by_choice}
use Rattle.wire.proofs.Lengths.{between_facts}
use Rattle.receiver.specs.Step.{among, grown}
use Rattle.receiver.specs.Step.Fate.{Finished}
use Rattle.receiver.specs.Line.{Whole}
use Rattle.receiver.proofs.Reach.{whole, snoc}
use Rattle.figures.specs.Figure.{decimal, upper_hex, none, all_figures}
use Rattle.figures.specs.Signed.{parsed_of, figures_of, minus_char}
use Rattle.figures.proofs.Characters.{all_above, part_above}
use Rattle.card.specs.Fitness.{register_most}
use Rattle.lecom.specs.Form.{shortest, longest, stx, etx, eot, enq, extended_mark, tens_at, start_at, closing}
use Rattle.lecom.specs.Frame.{figures_right, is_write, code_at, is_extended, hex_at, code_end, size_right, end_right, code_right, named_in, data_of, data_read, value_right, data_right, asked}
use Rattle.lecom.specs.Receiver.{step, held_behind_stx, held_behind_eot}
use Rattle.lecom.specs.declared.frame.Order.{Order}
use Rattle.lecom.specs.declared.frame.Refusal.{Refusal}
use Rattle.lecom.specs.declared.frame.Refusal.TheVariants.{Silent, Refused}
use Rattle.lecom.proofs.Frames.{bounds, size_holds, write_holds, read_start, write_start}
use Rattle.lecom.proofs.Passing.{Obeyed, order_passed}
use Rattle.lecom.proofs.Receiver.{ends_in, last_cons, held_begun, among_begun, next_begun, held_leads}

-- characters above every control character of the dialect
abbrev Plain : List ℕ → Type 0
Plain l = (i : ℕ) → i < length l → enq < get_or l i 0

plain_tail : (b : ℕ) (l : List ℕ) → Plain (b ∷ l) → Plain l
plain_tail b l p i h = p (suc i) (omega arith)

none_of : (b x : ℕ) → enq < b → x ≤ enq → eqb b x ≡ false
none_of b x h k = ne_eqb b x (λ e. omega arith)

plain_read : (l : List ℕ) → Plain l → (held_behind_eot l ≡ true) × (among stx l ≡ false)
unfolding held_behind_eot among choose
plain_read [] p = (refl, refl)
plain_read (b ∷ l) p =
    let h : enq < b = p 0 (omega arith) in
    let r = plain_read l (plain_tail b l p) in
    (rw (none_of b stx h (omega arith), none_of b eot h (omega arith), none_of b enq h (omega arith)) r.0, rw (none_of b stx h (omega arith)) r.1)

plain_write : (l : List ℕ) → Plain l → held_behind_stx (l ++ (etx ∷ [])) ≡ true
unfolding held_behind_stx choose
plain_write [] p = refl
plain_write (b ∷ l) p =
    let h : enq < b = p 0 (omega arith) in
    rw (none_of b etx h (omega arith), none_of b eot h (omega arith)) (plain_write l (plain_tail b l p))

-- figures are plain
all_plain : (limit : ℕ) (s : List ℕ) → limit ≤ none → all_figures limit s ≡ true → Plain s
all_plain limit s m h i l = omega (arith, all_above limit s m h i l)

-- a byte of a part
part_plain : (f : List ℕ) (a e i : ℕ) → Plain (part f a e) → a ≤ i → i < e → e ≤ length f → enq < get_or f i 0
part_plain f a e i p l u n =
    let k : i - a < length (part f a e) = simp (length-take, length-drop) (omega arith) in
    let s : a + (i - a) ≡ i = omega arith in
    let g : get_or (part f a e) (i - a) 0 ≡ get_or f i 0 = get_or-take (e - a) (drop a f) (i - a) 0 (omega arith) ∙ get_or-drop a f (i - a) 0 ∙ ap (λ (x : ℕ). get_or f x 0) s in
    subst (λ (x : ℕ). enq < x) g (p (i - a) k)

-- data that are read as a value
right : (t : Bool) (x : Option ℕ) → (choose t None x ≡ None → ⊥) → (t ≡ false) × (x ≡ None → ⊥)
unfolding choose
right true x d = absurd (d refl)
right false x d = (refl, d)

figures_plain : (bound : ℕ) (negative : Bool) (s : List ℕ) → (figures_of bound negative s ≡ None → ⊥) → Plain s
unfolding figures_of
figures_plain bound negative s d =
    let a = right _ _ d in
    let b = right _ _ a.1 in
    all_plain decimal s (omega arith) (not-false (all_figures decimal s) b.0)

parsed_plain : (bound : ℕ) (s : List ℕ) → (parsed_of bound s ≡ None → ⊥) → Plain s
unfolding parsed_of
parsed_plain bound s d = by_choice (λ (x : Option ℕ). (x ≡ None → ⊥) → Plain s) (eqb (get_or s 0 0) minus_char) _ _ (λ t k. signed s t (figures_plain bound true (drop 1 s) k)) (λ _ k. figures_plain bound false s k) (right _ _ d).1
  where
    signed : (l : List ℕ) → eqb (get_or l 0 0) minus_char ≡ true → Plain (drop 1 l) → Plain l
    signed [] t p i h = let z : ⊥ = omega arith in absurd z
    signed (b ∷ l) t p zero h = let e : b ≡ minus_char = eqb-true b minus_char t in omega arith
    signed (b ∷ l) t p (suc i) h = p i (le_of_suc-le-suc h)

-- what is known of a frame that is taken
record Taken (f : List ℕ) : Type 0 where
  long : (shortest ≤ length f) × (length f ≤ longest)
  first : eqb (get_or f 0 0) eot ≡ true
  figures : figures_right f ≡ true
  sized : size_right f ≡ true
  ended : end_right f ≡ true
  coded : code_right f ≡ true
  given : data_right f ≡ true

module _ (f : List ℕ) (k : Taken f) where
  figure_bytes : (i : ℕ) → tens_at ≤ i → i < start_at → enq < get_or f i 0
  unfolding figures_right
  figure_bytes i l u = let n = k.long.0 in omega (arith, part_above decimal f tens_at start_at i (omega arith) k.figures l u (omega arith))

  code_bytes : (i : ℕ) → code_at f ≤ i → i < code_end f → enq < get_or f i 0
  unfolding code_right hex_at is_extended choose
  code_bytes i l u = go (eqb (get_or f (code_at f) 0) extended_mark) refl
    where
      fits : code_end f + 1 ≤ length f
      fits = size_holds f k.sized

      hex : hex_at f ≤ i → enq < get_or f i 0
      hex h = omega (arith, part_above upper_hex f (hex_at f) (code_end f) i (omega arith) k.coded h u (omega (arith, fits)))

      go : (t : Bool) → eqb (get_or f (code_at f) 0) extended_mark ≡ t → enq < get_or f i 0
      go true e = at (eqb i (code_at f)) refl
        where
          at : (x : Bool) → eqb i (code_at f) ≡ x → enq < get_or f i 0
          at true w = let same : i ≡ code_at f = eqb-true i (code_at f) w in rw (same, eqb-true (get_or f (code_at f) 0) extended_mark e) (omega arith)
          at false w = let other : i ≡ code_at f → ⊥ = eqb-false i (code_at f) w in hex (omega (arith, (bounds f).hex_at_law.1))
      go false e = hex (rw e l)

  data_bytes : is_write f ≡ true → (i : ℕ) → code_end f ≤ i → i < length f - closing → enq < get_or f i 0
  unfolding data_right data_read data_of value_right choose
  data_bytes w i l u =
      let d : value_right (named_in f) (data_read f) ≡ true = rw w at k.given in
      let b = write_holds f w k.sized in
      part_plain f (code_end f) (length f - closing) i
      (parsed_plain register_most (part f (code_end f) (length f - closing)) (λ e. let z : false ≡ true = rw e at d in let y : ◌≡◌ {A = ℕ} 0 1 = cc in let x : ⊥ = omega arith in x))
      l u (omega arith)

-- the last byte of a read: ENQ, with no STX before it
asks_last : (x : ℕ) (p : List ℕ) → eqb x eot ≡ true → among stx p ≡ false → length (x ∷ p) < longest → step (x ∷ p) enq ≡ Finished (x ∷ (p ++ (enq ∷ [])))
unfolding step grown choose
asks_last x p e a l =
    rw (next_begun x p e, a, ne_eqb (length (x ∷ p)) 0 (λ z. omega arith), lt-ltb (length (x ∷ p)) longest l, among_begun x p e, a)

-- the last byte of a write: any, behind ETX
closes_last : (x : ℕ) (p : List ℕ) (b : ℕ) → eqb x eot ≡ true → among stx p ≡ true → ends_in etx p ≡ true → length (x ∷ p) < longest → step (x ∷ p) b ≡ Finished (x ∷ (p ++ (b ∷ [])))
unfolding step grown choose
closes_last x p b e a c l = rw (next_begun x p e, a, c, lt-ltb (length (x ∷ p)) longest l)

ends_last : (y : ℕ) (l : List ℕ) → ends_in y (l ++ (y ∷ [])) ≡ true
ends_last y [] = eq-eqb y y refl
ends_last y (b ∷ []) = last_cons y b y [] ∙ eq-eqb y y refl
ends_last y (b ∷ c ∷ l) = last_cons y b c (l ++ (y ∷ [])) ∙ ends_last y (c ∷ l)

-- a read: EOT, plain characters, ENQ
read_whole : (x : ℕ) (p : List ℕ) → eqb x eot ≡ true → Plain p → length (x ∷ p) < longest → Whole step (x ∷ (p ++ (enq ∷ [])))
read_whole x p e plain l =
    let r = plain_read p plain in
    whole step (x ∷ p) enq (held_leads (x ∷ p) (held_begun x p (record { first = e; fits = omega arith; reads = r.0 }))) (asks_last x p e r.1 l)

-- a write: EOT, two plain characters, STX, plain characters, ETX, any byte
module _ (t o s : ℕ) (l : List ℕ) (ht : enq < t) (ho : enq < o) (es : eqb s stx ≡ true) (plain : Plain l) where
  write_reads : held_behind_eot (t ∷ o ∷ s ∷ (l ++ (etx ∷ []))) ≡ true
  unfolding held_behind_eot choose
  write_reads =
      rw (none_of t stx ht (omega arith), none_of t eot ht (omega arith), none_of t enq ht (omega arith), none_of o stx ho (omega arith), none_of o eot ho (omega arith), none_of o enq ho (omega arith), es) (plain_write l plain)

  write_has : among stx (t ∷ o ∷ s ∷ (l ++ (etx ∷ []))) ≡ true
  unfolding among
  write_has = rw (none_of t stx ht (omega arith), none_of o stx ho (omega arith), es)

  write_whole : (x b : ℕ) → eqb x eot ≡ true → length l + 6 ≤ longest → Whole step (x ∷ t ∷ o ∷ s ∷ (l ++ (etx ∷ []) ++ (b ∷ [])))
  write_whole x b e n =
      let p = t ∷ o ∷ s ∷ (l ++ (etx ∷ [])) in
      let m = length-append l (etx ∷ []) in
      whole step (x ∷ p) b (held_leads (x ∷ p) (held_begun x p (record { first = e; fits = omega arith; reads = write_reads }))) (closes_last x p b e write_has (ends_last etx (t ∷ o ∷ s ∷ l)) (omega arith))

pub read_size : (f : List ℕ) → is_write f ≡ false → size_right f ≡ true → length f ≡ code_end f + 1
unfolding size_right choose
read_size f e h = eqb-true (length f) (code_end f + 1) (rw e at h)

pub read_end : (f : List ℕ) → is_write f ≡ false → end_right f ≡ true → get_or f (length f - 1) 0 ≡ enq
unfolding end_right choose
read_end f e h = eqb-true (get_or f (length f - 1) 0) enq (rw e at h)

pub write_end : (f : List ℕ) → is_write f ≡ true → end_right f ≡ true → get_or f (length f - closing) 0 ≡ etx
unfolding end_right choose
write_end f e h = eqb-true (get_or f (length f - closing) 0) etx (rw e at h)

-- a taken read, by its bytes
whole_read : (x : ℕ) (p : List ℕ) (b : ℕ) → Taken (x ∷ (p ++ (b ∷ []))) → is_write (x ∷ (p ++ (b ∷ []))) ≡ false → Whole step (x ∷ (p ++ (b ∷ [])))
whole_read x p b k w =
    let last : b ≡ enq = sym (get_or-append_seam (x ∷ p) b [] 0) ∙ ap (λ (n : ℕ). get_or f n 0) at ∙ read_end f w k.ended in
    subst (λ (y : ℕ). Whole step (x ∷ (p ++ (y ∷ [])))) (sym last) (read_whole x p k.first plain (omega (arith, long, k.long)))
  where
    f : List ℕ
    f = x ∷ (p ++ (b ∷ []))

    long : length f ≡ length p + 2
    long = let n = length-append p (b ∷ []) in omega arith

    at : length (x ∷ p) ≡ length f - 1
    at = omega (arith, long)

    plain : Plain p
    plain i h =
        let g : get_or f (suc i) 0 ≡ get_or p i 0 = get_or-append p (b ∷ []) 0 i h in
        subst (λ (y : ℕ). enq < y) g (go (ltb (suc i) start_at) refl)
      where
        go : (t : Bool) → ltb (suc i) start_at ≡ t → enq < get_or f (suc i) 0
        go true e = figure_bytes f k (suc i) (omega arith) (ltb-true (suc i) start_at e)
        go false e =
            let s : start_at ≤ suc i = ltb-false (suc i) start_at e in
            code_bytes f k (suc i) (rw (read_start f w) s) (omega (arith, long, read_size f w k.sized))

-- a taken write, by its bytes
whole_write : (x t o s : ℕ) (l : List ℕ) (y b : ℕ) → Taken (x ∷ t ∷ o ∷ s ∷ (l ++ (y ∷ []) ++ (b ∷ []))) → is_write (x ∷ t ∷ o ∷ s ∷ (l ++ (y ∷ []) ++ (b ∷ []))) ≡ true
    → Whole step (x ∷ t ∷ o ∷ s ∷ (l ++ (y ∷ []) ++ (b ∷ [])))
unfolding is_write
whole_write x t o s l y b k w =
    let third : y ≡ etx = sym (get_or-append_seam (x ∷ t ∷ o ∷ s ∷ l) y (b ∷ []) 0) ∙ ap (λ (r : List ℕ). get_or (x ∷ t ∷ o ∷ s ∷ r) (length (x ∷ t ∷ o ∷ s ∷ l)) 0) (sym (append_snoc l y (b ∷ []))) ∙ ap (λ (n : ℕ). get_or f n 0) at ∙ write_end f w k.ended in
    subst (λ (z : ℕ). Whole step (x ∷ t ∷ o ∷ s ∷ (l ++ (z ∷ []) ++ (b ∷ [])))) (sym third)
    (write_whole t o s l (figure_bytes f k 1 (omega arith) (omega arith)) (figure_bytes f k 2 (omega arith) (omega arith)) w plain x b k.first (omega (arith, long, k.long)))
  where
    f : List ℕ
    f = x ∷ t ∷ o ∷ s ∷ (l ++ (y ∷ []) ++ (b ∷ []))

    long : length f ≡ length l + 6
    long = let n = length-append (l ++ (y ∷ [])) (b ∷ []) in let m = length-append l (y ∷ []) in omega arith

    at : length (x ∷ t ∷ o ∷ s ∷ l) ≡ length f - closing
    at = omega (arith, long)

    plain : Plain l
    plain i h =
        let g : get_or (l ++ (y ∷ []) ++ (b ∷ [])) i 0 ≡ get_or l i 0 = ap (λ (r : List ℕ). get_or r i 0) (append_snoc l y (b ∷ [])) ∙ get_or-append l (y ∷ b ∷ []) 0 i h in
        subst (λ (z : ℕ). enq < z) g (go (ltb (suc (suc (suc (suc i)))) (code_end f)) refl)
      where
        j : ℕ
        j = suc (suc (suc (suc i)))

        go : (t : Bool) → ltb j (code_end f) ≡ t → enq < get_or f j 0
        go true e = code_bytes f k j (rw (write_start f w) (omega arith)) (ltb-true j (code_end f) e)
        go false e = data_bytes f k w j (ltb-false j (code_end f) e) (omega (arith, long))

whole_taken : (f : List ℕ) → Taken f → Whole step f
whole_taken [] k = let n = k.long.0 in let z : ⊥ = omega arith in absurd z
whole_taken (x ∷ []) k = let n = k.long.0 in let z : ⊥ = omega arith in absurd z
whole_taken (x ∷ t ∷ []) k = let n = k.long.0 in let z : ⊥ = omega arith in absurd z
whole_taken (x ∷ t ∷ o ∷ []) k = let n = k.long.0 in let z : ⊥ = omega arith in absurd z
whole_taken (x ∷ t ∷ o ∷ s ∷ r) k = go (is_write (x ∷ t ∷ o ∷ s ∷ r)) refl
  where
    n : 2 ≤ length r
    n = let h = k.long.0 in omega arith

    go : (w : Bool) → is_write (x ∷ t ∷ o ∷ s ∷ r) ≡ w → Whole step (x ∷ t ∷ o ∷ s ∷ r)
    go true w =
        let (p, b, e) = snoc r (omega (arith, n)) in
        let m = length-append p (b ∷ []) in
        let (l, y, d) = snoc p (omega (arith, n, ap length e)) in
        let same : r ≡ l ++ (y ∷ []) ++ (b ∷ []) = e ∙ ap (λ (q : List ℕ). q ++ (b ∷ [])) d in
        subst (λ (q : List ℕ). Whole step (x ∷ t ∷ o ∷ s ∷ q)) (sym same)
        (whole_write x t o s l y b (subst (λ (q : List ℕ). Taken (x ∷ t ∷ o ∷ s ∷ q)) same k) (subst (λ (q : List ℕ). is_write (x ∷ t ∷ o ∷ s ∷ q) ≡ true) same w))
    go false w =
        let (p, b, e) = snoc (t ∷ o ∷ s ∷ r) (omega arith) in
        subst (λ (q : List ℕ). Whole step (x ∷ q)) (sym e) (whole_read x p b (subst (λ (q : List ℕ). Taken (x ∷ q)) e k) (subst (λ (q : List ℕ). is_write (x ∷ q) ≡ false) e w))

-- an order that neither is silent nor refuses
order_obeyed : (o : Result Order Refusal) → ((n : ℕ) → o ≡ Err (Silent n) → ⊥) → ((n : ℕ) → o ≡ Err (Refused n) → ⊥) → Obeyed o
order_obeyed (Err (Silent number)) u r = u number refl
order_obeyed (Err (Refused number)) u r = r number refl
order_obeyed (Ok order) u r = tt

-- every frame that LECOM takes as a read or a write
pub whole_asked : (address : ℕ) (f : List ℕ) → ((n : ℕ) → asked address f ≡ Err (Silent n) → ⊥) → ((n : ℕ) → asked address f ≡ Err (Refused n) → ⊥) → Whole step f
whole_asked address f u r =
    let p = order_passed address f (order_obeyed (asked address f) u r) in
    whole_taken f (record { long = between_facts shortest longest (length f) p.long; first = p.starts; figures = p.figured; sized = p.sized; ended = p.ended; coded = p.coded; given = p.valued })
