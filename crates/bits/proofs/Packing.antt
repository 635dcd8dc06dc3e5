-- Laws of fields written from the left through an accumulator: disjoint fields in either order, and a field as its left part and then its right part.
-- Assumes nothing.
use Rattle.std.proofs.Common.{◌≡◌, ℕ, ◌+◌, ◌-◌, ◌*◌, ◌/◌, ◌%◌, ◌^◌, ◌<◌, ◌≤◌, List, length, sym, ap, ◌∙◌, inl, inr, mod-lt, arith, pow_pos}
use native.Mathlib.Decide.{dec_lt}
use lib.Pow.{high, low, mod-mod-pow}
use Rattle.bits.specs.Bits.{bit, put_field}
use Rattle.bits.proofs.Reading.{Bytes, image_ext}
use Rattle.bits.proofs.Writing.{length_put_field, put_field_bytes, bit_put_field_other, put_field_agree, put_field_append, put_field_cut}

-- two fields side by side, in either order
pub put_field_swap : (img : List ℕ) (p a b u v : ℕ) → Bytes img → p + a + b ≤ 8 * length img
    → put_field (put_field img (p + a) b v) p a u ≡ put_field (put_field img p a u) (p + a) b v
put_field_swap img p a b u v hs h =
    image_ext _ _ (put_field_bytes right p a u (put_field_bytes img (p + a) b v hs)) (put_field_bytes left (p + a) b v (put_field_bytes img p a u hs))
    (length_put_field right p a u ∙ r ∙ sym (length_put_field left (p + a) b v ∙ l)) (λ q k. by q (dec_lt q (p + a)))
  where
    right : List ℕ
    right = put_field img (p + a) b v

    left : List ℕ
    left = put_field img p a u

    r : length right ≡ length img
    r = length_put_field img (p + a) b v

    l : length left ≡ length img
    l = length_put_field img p a u

    by : (q : ℕ) → Dec (q < p + a) → bit (put_field right p a u) q ≡ bit (put_field left (p + a) b v) q
    by q (yes k) =
        put_field_agree right img p a u q r (omega (arith, r, h)) (inl (bit_put_field_other img (p + a) b v q (omega arith) (inl k)))
        ∙ sym (bit_put_field_other left (p + a) b v q (omega (arith, l, h)) (inl k))
    by q (no k) =
        bit_put_field_other right p a u q (omega (arith, r, h)) (inr (omega arith))
        ∙ sym (put_field_agree left img (p + a) b v q l (omega (arith, l, h)) (inl (bit_put_field_other img p a u q (omega arith) (inr (omega arith)))))

-- a field is written as its left part and then its right part
pub put_field_parts : (img : List ℕ) (p a b v : ℕ) → Bytes img → p + a + b ≤ 8 * length img → put_field img p (a + b) v ≡ put_field (put_field img p a (v / 2 ^ b)) (p + a) b v
put_field_parts img p a b v hs h = put_field_append img p a b v ∙ put_field_swap img p a b (v / 2 ^ b) v hs h

-- a field put after the bits that are held is held with them; what a machine word cuts off does not count
pub put_field_hold : (img : List ℕ) (p c w n v : ℕ) → Bytes img → p + c + w ≤ 8 * length img → c + w ≤ 64
    → put_field (put_field img p c n) (p + c) w v ≡ put_field img p (c + w) ((n * 2 ^ w + v % 2 ^ w) % 2 ^ 64)
put_field_hold img p c w n v hs h k =
    let hv : v % 2 ^ w < 2 ^ w = mod-lt v (pow_pos w) in
    let x = n * 2 ^ w + v % 2 ^ w in
    let e : (64 - (c + w)) + (c + w) ≡ 64 = omega arith in
    let cut : x % 2 ^ 64 % 2 ^ (c + w) ≡ x % 2 ^ (c + w) = ap (λ (m : ℕ). x % 2 ^ m % 2 ^ (c + w)) (sym e) ∙ mod-mod-pow x (64 - (c + w)) (c + w) in
    let whole : put_field img p (c + w) (x % 2 ^ 64) ≡ put_field img p (c + w) x =
    sym (put_field_cut img p (c + w) (x % 2 ^ 64)) ∙ ap (put_field img p (c + w)) cut ∙ put_field_cut img p (c + w) x in
    let left : put_field img p c (x / 2 ^ w) ≡ put_field img p c n = ap (put_field img p c) (high n w hv) in
    let right : (d : List ℕ) → put_field d (p + c) w x ≡ put_field d (p + c) w v = λ d. sym (put_field_cut d (p + c) w x) ∙ ap (put_field d (p + c) w) (low n w hv) ∙ put_field_cut d (p + c) w v in
    sym (whole ∙ put_field_parts img p c w x hs h ∙ ap (λ (d : List ℕ). put_field d (p + c) w x) left ∙ right (put_field img p c n))
