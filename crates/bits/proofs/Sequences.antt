-- Laws of fields one after another, over any list of widths: values that fit are read back, values that were read leave the image as it was, and fields that cover the
-- whole image leave nothing of what was there before.
-- Assumes nothing.
use Rattle.std.proofs.Common.{◌≡◌, ℕ, suc, ◌+◌, ◌-◌, ◌*◌, ◌^◌, ◌<◌, ◌≤◌, ◌⊎◌, List, [], ◌∷◌, ◌++◌, length, replicate, sym, refl, ap, ◌∙◌, inl, inr, ⊎_elim, mod-eq_of_lt, arith}
use native.Mathlib.Decide.{dec_lt}
use Rattle.bits.specs.Bits.{bit, field, put_field}
use Rattle.bits.specs.Fields.{width_of, fields, put_fields}
use Rattle.bits.proofs.Reading.{Bytes, field_lt, image_ext}
use Rattle.bits.proofs.Writing.{length_put_field, put_field_bytes, field_put_field_same, field_put_field_other, put_field_own, put_field_agree}

-- each value fits its width
pub data Fit : List ℕ → List ℕ → Type 0 where
  none : Fit [] []
  more : {w v : ℕ} {ws vs : List ℕ} → v < 2 ^ w → Fit ws vs → Fit (w ∷ ws) (v ∷ vs)

pub length_put_fields : (img : List ℕ) (p : ℕ) (ws vs : List ℕ) → length (put_fields img p ws vs) ≡ length img
unfolding put_fields
length_put_fields img p [] vs = refl
length_put_fields img p (w ∷ ws) [] = refl
length_put_fields img p (w ∷ ws) (v ∷ vs) = length_put_fields (put_field img p w v) (p + w) ws vs ∙ length_put_field img p w v

pub put_fields_bytes : (img : List ℕ) (p : ℕ) (ws vs : List ℕ) → Bytes img → Bytes (put_fields img p ws vs)
unfolding put_fields
put_fields_bytes img p [] vs hs = hs
put_fields_bytes img p (w ∷ ws) [] hs = hs
put_fields_bytes img p (w ∷ ws) (v ∷ vs) hs = put_fields_bytes (put_field img p w v) (p + w) ws vs (put_field_bytes img p w v hs)

-- values that were read fit
pub fields_fit : (img : List ℕ) (p : ℕ) (ws : List ℕ) → Fit ws (fields img p ws)
unfolding fields
fields_fit img p [] = none
fields_fit img p (w ∷ ws) = more (field_lt img p w) (fields_fit img (p + w) ws)

-- any other field is read as before
pub field_put_fields_other : (img : List ℕ) (p : ℕ) (ws vs : List ℕ) (q u : ℕ) → p + width_of ws ≤ 8 * length img → (q + u ≤ p) ⊎ (p + width_of ws ≤ q) → field (put_fields img p ws vs) q u ≡ field img q u
unfolding put_fields width_of
field_put_fields_other img p [] vs q u h o = refl
field_put_fields_other img p (w ∷ ws) [] q u h o = refl
field_put_fields_other img p (w ∷ ws) (v ∷ vs) q u h o =
    let l = length_put_field img p w v in
    let a : (q + u ≤ p + w) ⊎ (p + w + width_of ws ≤ q) = ⊎_elim (λ (x : q + u ≤ p). inl (omega arith)) (λ (y : p + (w + width_of ws) ≤ q). inr (omega arith)) o in
    let b : (q + u ≤ p) ⊎ (p + w ≤ q) = ⊎_elim (λ (x : q + u ≤ p). inl x) (λ (y : p + (w + width_of ws) ≤ q). inr (omega arith)) o in
    field_put_fields_other (put_field img p w v) (p + w) ws vs q u (omega (arith, l)) a ∙ field_put_field_other img p w v q u (omega arith) b

-- the values that were written are read back
pub fields_put_fields : (img : List ℕ) (p : ℕ) {ws vs : List ℕ} → p + width_of ws ≤ 8 * length img → Fit ws vs → fields (put_fields img p ws vs) p ws ≡ vs
unfolding fields put_fields width_of
fields_put_fields img p h none = refl
fields_put_fields img p h (more {w} {v} {ws} {vs} lt f) =
    let i = put_field img p w v in
    let l = length_put_field img p w v in
    let a = field_put_fields_other i (p + w) ws vs p w (omega (arith, l)) (inl (omega arith)) ∙ field_put_field_same img p w v (omega arith) ∙ mod-eq_of_lt lt in
    cc (a, fields_put_fields i (p + w) (omega (arith, l)) f)

-- the values that were read change nothing
pub put_fields_own : (img : List ℕ) (p : ℕ) (ws : List ℕ) → put_fields img p ws (fields img p ws) ≡ img
unfolding fields put_fields
put_fields_own img p [] = refl
put_fields_own img p (w ∷ ws) = rw (put_field_own img p w) (put_fields_own img (p + w) ws)

-- fields after fields
pub put_fields_append : (img : List ℕ) (p : ℕ) (ws us vs xs : List ℕ) → length ws ≡ length vs → put_fields img p (ws ++ us) (vs ++ xs) ≡ put_fields (put_fields img p ws vs) (p + width_of ws) us xs
unfolding put_fields width_of
put_fields_append img p [] us [] xs e = let z : p + 0 ≡ p = omega arith in rw z
put_fields_append img p [] us (v ∷ vs) xs e = let z : ⊥ = omega arith in absurd z
put_fields_append img p (w ∷ ws) us [] xs e = let z : ⊥ = omega arith in absurd z
put_fields_append img p (w ∷ ws) us (v ∷ vs) xs e =
    let a : p + (w + width_of ws) ≡ p + w + width_of ws = omega arith in
    rw a (put_fields_append (put_field img p w v) (p + w) ws us vs xs (omega arith))

-- a bit that two images have alike, or that is written in both, is alike afterwards
put_fields_agree : (a b : List ℕ) (p : ℕ) (ws vs : List ℕ) (q : ℕ) → length ws ≡ length vs → length a ≡ length b → p + width_of ws ≤ 8 * length a
    → (bit a q ≡ bit b q) ⊎ ((p ≤ q) × (q < p + width_of ws)) → bit (put_fields a p ws vs) q ≡ bit (put_fields b p ws vs) q
unfolding put_fields width_of
put_fields_agree a b p [] vs q n l h (inl e) = e
put_fields_agree a b p [] vs q n l h (inr i) = let z : ⊥ = omega arith in absurd z
put_fields_agree a b p (w ∷ ws) [] q n l h o = let z : ⊥ = omega arith in absurd z
put_fields_agree a b p (w ∷ ws) (v ∷ vs) q n l h o =
    let la = length_put_field a p w v in
    put_fields_agree (put_field a p w v) (put_field b p w v) (p + w) ws vs q (omega arith) (la ∙ l ∙ sym (length_put_field b p w v)) (omega (arith, la)) (next o (dec_lt q (p + w)))
  where
    same : (bit a q ≡ bit b q) ⊎ ((p ≤ q) × (q < p + w)) → bit (put_field a p w v) q ≡ bit (put_field b p w v) q
    same = put_field_agree a b p w v q l (omega arith)

    next : (bit a q ≡ bit b q) ⊎ ((p ≤ q) × (q < p + (w + width_of ws))) → Dec (q < p + w) → (bit (put_field a p w v) q ≡ bit (put_field b p w v) q) ⊎ ((p + w ≤ q) × (q < p + w + width_of ws))
    next (inl e) d = inl (same (inl e))
    next (inr i) (yes h) = inl (same (inr (i.0, h)))
    next (inr i) (no n) = inr (omega arith, omega arith)

-- fields that cover a whole image: what was there before does not count
pub put_fields_whole : (a b ws vs : List ℕ) → length ws ≡ length vs → Bytes a → Bytes b → length a ≡ length b → width_of ws ≡ 8 * length a → put_fields a 0 ws vs ≡ put_fields b 0 ws vs
put_fields_whole a b ws vs n ha hb l h =
    image_ext _ _ (put_fields_bytes a 0 ws vs ha) (put_fields_bytes b 0 ws vs hb) (la ∙ l ∙ sym (length_put_fields b 0 ws vs))
    (λ q lt. put_fields_agree a b 0 ws vs q n l (omega arith) (inr (omega arith, omega (arith, la))))
  where
    la : length (put_fields a 0 ws vs) ≡ length a
    la = length_put_fields a 0 ws vs

-- Properties of n fields of one width, of which i are passed

left_next : (n i w : ℕ) → i < n → replicate (n - i) w ≡ w ∷ replicate (n - suc i) w
left_next n i w h = let e : n - i ≡ suc (n - suc i) = omega arith in ap (λ (m : ℕ). replicate m w) e

pub width_next : (n i w : ℕ) → i < n → width_of (replicate (n - i) w) ≡ w + width_of (replicate (n - suc i) w)
unfolding width_of
width_next n i w h = ap width_of (left_next n i w h)

pub fields_next : (img : List ℕ) (p n i w : ℕ) → i < n → fields img p (replicate (n - i) w) ≡ field img p w ∷ fields img (p + w) (replicate (n - suc i) w)
unfolding fields
fields_next img p n i w h = ap (fields img p) (left_next n i w h)

-- none are left
pub fields_last : (img : List ℕ) (p n w : ℕ) → fields img p (replicate (n - n) w) ≡ []
unfolding fields
fields_last img p n w = let e : n - n ≡ 0 = omega arith in rw e
