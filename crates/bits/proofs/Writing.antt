-- Laws of writing a field of any width: what was written is read back, every other field stays, and the image keeps its length and its bytes.
-- Assumes nothing.
use Rattle.std.proofs.Common.{◌≡◌, ℕ, zero, suc, ◌+◌, ◌-◌, ◌*◌, ◌/◌, ◌%◌, ◌^◌, ◌<◌, ◌≤◌, ◌⊎◌, List, [], ◌∷◌, length, set, sym, refl, ap, ◌∙◌, inl, inr, ⊎_elim, mod-lt, pow-suc, arith, length-set, get_or-set_other, get_or-set_same, pow_pos, pow-add, shr-shr, shr_lt}
use native.Mathlib.Decide.{dec_lt}
use lib.Arith.{digits_lt}
use lib.Seq.{set-get_or}
use lib.Pow.{high, low, split, mod-pow-add, mod-mod-pow}
use lib.Pow as Pow
use Rattle.bits.specs.Bits.{bit, field, with_bit, put_bit, put_field}
use Rattle.bits.proofs.Reading.{Bytes, bit_lt, field_ext, field_byte, image_ext_bytes}

-- Properties of with_bit

-- a byte stays a byte
with_bit_lt : (x k b : ℕ) → x < 256 → k < 8 → b < 2 → with_bit x k b < 256
unfolding with_bit
with_bit_lt x k b hx hk hb =
    let j = 7 - k in
    let e : j + suc k ≡ 8 = omega arith in
    let hx' : x < 2 ^ (j + suc k) = rw e hx in
    let q : x / 2 ^ suc k < 2 ^ j = shr_lt j (suc k) hx' in
    let q' : x / (2 ^ k * 2) < 2 ^ j = rw pow-suc at q in
    let t : (x / (2 ^ k * 2) * 2 + b) * 2 ^ k + x % 2 ^ k < 2 ^ suc j * 2 ^ k = digits_lt (omega (arith, pow-suc 2 j)) (mod-lt x (pow_pos k)) in
    let e' : suc j + k ≡ 8 = omega arith in
    let m : 2 ^ suc j * 2 ^ k ≡ 256 = sym (pow-add 2 (suc j) k) ∙ ap (λ (n : ℕ). 2 ^ n) e' in
    omega (arith, t, m)

same_weight : (x k b : ℕ) → b < 2 → with_bit x k b / 2 ^ k % 2 ≡ b
unfolding with_bit
same_weight x k b hb =
    let h = high (x / (2 ^ k * 2) * 2 + b) k (mod-lt x (pow_pos k)) in
    rw h (omega arith)

greater_weight : (x k b i : ℕ) → b < 2 → with_bit x k b / 2 ^ (k + suc i) ≡ x / 2 ^ (k + suc i)
unfolding with_bit
greater_weight x k b i hb =
    let q = x / (2 ^ k * 2) in
    let h = high (q * 2 + b) k (mod-lt x (pow_pos k)) in
    let e : (q * 2 + b) / 2 ≡ q = omega arith in
    let s : suc i ≡ 1 + i = omega arith in
    let l : (q * 2 + b) / 2 ^ suc i ≡ q / 2 ^ i = rw s (sym (shr-shr (q * 2 + b) 1 i) ∙ ap (λ (n : ℕ). n / 2 ^ i) e) in
    let p : 2 ^ k * 2 ≡ 2 ^ suc k = sym (pow-suc 2 k) in
    let r : x / 2 ^ suc k / 2 ^ i ≡ x / 2 ^ (suc k + i) = shr-shr x (suc k) i in
    let a : suc k + i ≡ k + suc i = omega arith in
    sym (shr-shr _ k (suc i)) ∙ ap (λ (n : ℕ). n / 2 ^ suc i) h ∙ l ∙ ap (λ (n : ℕ). x / n / 2 ^ i) p ∙ r ∙ ap (λ (n : ℕ). x / 2 ^ n) a

smaller_weight : (x b j i : ℕ) → with_bit x (i + (1 + j)) b / 2 ^ j % 2 ≡ x / 2 ^ j % 2
unfolding with_bit
smaller_weight x b j i =
    let k = i + (1 + j) in
    let y = with_bit x k b in
    let e : y % 2 ^ k ≡ x % 2 ^ k = low (x / (2 ^ k * 2) * 2 + b) k (mod-lt x (pow_pos k)) in
    let f : (n : ℕ) → n / 2 ^ j % 2 ≡ n % 2 ^ k % 2 ^ (1 + j) / 2 ^ j = λ n. sym (Pow.field n 1 j) ∙ sym (ap (λ (m : ℕ). m / 2 ^ j) (mod-mod-pow n i (1 + j))) in
    f y ∙ ap (λ (n : ℕ). n % 2 ^ (1 + j) / 2 ^ j) e ∙ sym (f x)

other_weight : (x k j b : ℕ) → b < 2 → (j < k) ⊎ (k < j) → with_bit x k b / 2 ^ j % 2 ≡ x / 2 ^ j % 2
other_weight x k j b hb o =
    ⊎_elim
    (λ h. let e : k ≡ (k - suc j) + (1 + j) = omega arith in rw e (smaller_weight x b j (k - suc j)))
    (λ h. let e : j ≡ k + suc (j - suc k) = omega arith in rw e (ap (λ (n : ℕ). n % 2) (greater_weight x k b (j - suc k) hb)))
    o

-- the bit that is there
with_bit_own : (x k : ℕ) → with_bit x k (x / 2 ^ k % 2) ≡ x
unfolding with_bit
with_bit_own x k =
    let y = x / 2 ^ k in
    let h : x / (2 ^ k * 2) ≡ y / 2 = rw (sym (pow-suc 2 k)) (sym (shr-shr x k 1 ∙ ap (λ (n : ℕ). x / 2 ^ n) (omega arith))) in
    let e : y / 2 * 2 + y % 2 ≡ y = omega arith in
    rw (h, e) (split x k)

-- Properties of put_bit

pub set_bytes : (img : List ℕ) (i x : ℕ) → x < 256 → Bytes img → Bytes (set img i x)
set_bytes [] i x hx hs k = hs k
set_bytes (y ∷ img) zero x hx hs zero = hx
set_bytes (y ∷ img) zero x hx hs (suc k) = hs (suc k)
set_bytes (y ∷ img) (suc i) x hx hs zero = hs zero
set_bytes (y ∷ img) (suc i) x hx hs (suc k) = set_bytes img i x hx (λ j. hs (suc j)) k

pub length_put_bit : (img : List ℕ) (p b : ℕ) → length (put_bit img p b) ≡ length img
unfolding put_bit
length_put_bit img p b = simp length-set

one_of_three : (a b : ℕ) → (a ≡ b) ⊎ ((a < b) ⊎ (b < a))
one_of_three a b = by (dec_lt a b) (dec_lt b a)
  where
    by : Dec (a < b) → Dec (b < a) → (a ≡ b) ⊎ ((a < b) ⊎ (b < a))
    by (yes h) d = inr (inl h)
    by (no n) (yes h) = inr (inr h)
    by (no n) (no m) = inl (omega arith)

pub bit_put_bit_same : (img : List ℕ) (p b : ℕ) → p < 8 * length img → b < 2 → bit (put_bit img p b) p ≡ b
unfolding bit put_bit
bit_put_bit_same img p b hp hb =
    let h : p / 8 < length img = omega arith in
    rw get_or-set_same (same_weight _ (7 - p % 8) b hb)

pub bit_put_bit_other : (img : List ℕ) (p q b : ℕ) → p < 8 * length img → b < 2 → (q < p) ⊎ (p < q) → bit (put_bit img p b) q ≡ bit img q
unfolding bit put_bit
bit_put_bit_other img p q b hp hb o =
    let h : p / 8 < length img = omega arith in
    ⊎_elim
    (λ (e : q / 8 ≡ p / 8).
    let d : (7 - q % 8 < 7 - p % 8) ⊎ (7 - p % 8 < 7 - q % 8) = ⊎_elim (λ (l : q < p). inr (omega arith)) (λ (g : p < q). inl (omega arith)) o in
    rw (e, get_or-set_same) (other_weight _ (7 - p % 8) (7 - q % 8) b hb d))
    (λ (n : (q / 8 < p / 8) ⊎ (p / 8 < q / 8)).
    let ne : q / 8 ≡ p / 8 → ⊥ = λ e. ⊎_elim (λ (l : q / 8 < p / 8). omega arith) (λ (g : p / 8 < q / 8). omega arith) n in
    rw (get_or-set_other _ _ _ _ _ ne))
    (one_of_three (q / 8) (p / 8))

put_bit_own : (img : List ℕ) (p : ℕ) → put_bit img p (bit img p) ≡ img
unfolding bit put_bit
put_bit_own img p = rw with_bit_own (set-get_or img (p / 8) 0)

put_bit_bytes : (img : List ℕ) (p b : ℕ) → b < 2 → Bytes img → Bytes (put_bit img p b)
unfolding put_bit
put_bit_bytes img p b hb hs = set_bytes img (p / 8) _ (with_bit_lt _ (7 - p % 8) b (hs (p / 8)) (omega arith) hb) hs

-- Properties of put_field

pub put_field_none : (img : List ℕ) (p v : ℕ) → put_field img p 0 v ≡ img
unfolding put_field
put_field_none img p v = refl

pub length_put_field : (img : List ℕ) (p w v : ℕ) → length (put_field img p w v) ≡ length img
unfolding put_field
length_put_field img p zero v = refl
length_put_field img p (suc w) v = length_put_field (put_bit img (p + w) (v % 2)) p w (v / 2) ∙ length_put_bit img (p + w) (v % 2)

pub put_field_bytes : (img : List ℕ) (p w v : ℕ) → Bytes img → Bytes (put_field img p w v)
unfolding put_field
put_field_bytes img p zero v hs = hs
put_field_bytes img p (suc w) v hs = put_field_bytes (put_bit img (p + w) (v % 2)) p w (v / 2) (put_bit_bytes img (p + w) (v % 2) (omega arith) hs)

-- no bit outside the field changes
pub bit_put_field_other : (img : List ℕ) (p w v q : ℕ) → p + w ≤ 8 * length img → (q < p) ⊎ (p + w ≤ q) → bit (put_field img p w v) q ≡ bit img q
unfolding put_field
bit_put_field_other img p zero v q hp o = refl
bit_put_field_other img p (suc w) v q hp o =
    let img' = put_bit img (p + w) (v % 2) in
    let s = length_put_bit img (p + w) (v % 2) in
    let o' : (q < p) ⊎ (p + w ≤ q) = ⊎_elim (λ (l : q < p). inl l) (λ (g : p + suc w ≤ q). inr (omega arith)) o in
    let b : (q < p + w) ⊎ (p + w < q) = ⊎_elim (λ (l : q < p). inl (omega arith)) (λ (g : p + suc w ≤ q). inr (omega arith)) o in
    bit_put_field_other img' p w (v / 2) q (omega (arith, s)) o' ∙ bit_put_bit_other img (p + w) q (v % 2) (omega arith) (omega arith) b

-- the field that was written is read back, cut to its width
pub field_put_field_same : (img : List ℕ) (p w v : ℕ) → p + w ≤ 8 * length img → field (put_field img p w v) p w ≡ v % 2 ^ w
unfolding field put_field
field_put_field_same img p zero v hp = omega arith
field_put_field_same img p (suc w) v hp =
    let img' = put_bit img (p + w) (v % 2) in
    let s = length_put_bit img (p + w) (v % 2) in
    let ih = field_put_field_same img' p w (v / 2) (omega (arith, s)) in
    let b = bit_put_field_other img' p w (v / 2) (p + w) (omega (arith, s)) (inr (omega arith)) ∙ bit_put_bit_same img (p + w) (v % 2) (omega arith) (omega arith) in
    let m : v % 2 ^ (w + 1) ≡ (v / 2 % 2 ^ w) * 2 + v % 2 = mod-pow-add v w 1 in
    let e : suc w ≡ w + 1 = omega arith in
    rw (e, m) (cc (ih, b))

-- any other field is read as before
pub field_put_field_other : (img : List ℕ) (p w v q u : ℕ) → p + w ≤ 8 * length img → (q + u ≤ p) ⊎ (p + w ≤ q) → field (put_field img p w v) q u ≡ field img q u
field_put_field_other img p w v q u hp o =
    field_ext _ _ q u
    (λ i l. bit_put_field_other img p w v (q + i) hp (⊎_elim (λ (a : q + u ≤ p). inl (omega arith)) (λ (g : p + w ≤ q). inr (omega arith)) o))

-- the value that is there changes nothing
pub put_field_own : (img : List ℕ) (p w : ℕ) → put_field img p w (field img p w) ≡ img
unfolding field put_field
put_field_own img p zero = refl
put_field_own img p (suc w) =
    let b = bit_lt img (p + w) in
    let r : (field img p w * 2 + bit img (p + w)) % 2 ≡ bit img (p + w) = omega arith in
    let q : (field img p w * 2 + bit img (p + w)) / 2 ≡ field img p w = omega arith in
    rw (r, q, put_bit_own img (p + w)) (put_field_own img p w)

-- a field is written as its right part and then its left part
pub put_field_append : (img : List ℕ) (p a b v : ℕ) → put_field img p (a + b) v ≡ put_field (put_field img (p + a) b v) p a (v / 2 ^ b)
unfolding put_field
put_field_append img p a zero v = let e : a + 0 ≡ a = omega arith in let d : v / 2 ^ 0 ≡ v = omega arith in rw (e, d)
put_field_append img p a (suc b) v =
    let e : a + suc b ≡ suc (a + b) = omega arith in
    let q : p + (a + b) ≡ p + a + b = omega arith in
    let d : v / 2 / 2 ^ b ≡ v / 2 ^ suc b = shr-shr v 1 b ∙ ap (λ (n : ℕ). v / 2 ^ n) (omega arith) in
    rw (e, put_field_append (put_bit img (p + (a + b)) (v % 2)) p a b (v / 2), d, q)

-- only the low bits of a value count
pub put_field_cut : (img : List ℕ) (p w v : ℕ) → put_field img p w (v % 2 ^ w) ≡ put_field img p w v
unfolding put_field
put_field_cut img p zero v = refl
put_field_cut img p (suc w) v =
    let e : suc w ≡ w + 1 = omega arith in
    let m : v % 2 ^ suc w ≡ (v / 2 % 2 ^ w) * 2 + v % 2 = rw e (mod-pow-add v w 1) in
    let r : v % 2 ^ suc w % 2 ≡ v % 2 = omega (arith, m) in
    let q : v % 2 ^ suc w / 2 ≡ v / 2 % 2 ^ w = omega (arith, m) in
    rw (r, q) (put_field_cut (put_bit img (p + w) (v % 2)) p w (v / 2))

-- a field of eight bits at a byte's place is the byte
pub put_field_byte : (img : List ℕ) (k v : ℕ) → k < length img → Bytes img → put_field img (8 * k) 8 v ≡ set img k (v % 256)
put_field_byte img k v hk hs =
    image_ext_bytes _ _ (put_field_bytes img (8 * k) 8 v hs) set_ok (length_put_field img (8 * k) 8 v ∙ sym (length-set img k (v % 256)))
    (λ j l. at j (one_of_three j k))
  where
    set_ok : Bytes (set img k (v % 256))
    set_ok = set_bytes img k (v % 256) (omega arith) hs

    other : (j : ℕ) → (j ≡ k → ⊥) → (8 * j + 8 ≤ 8 * k) ⊎ (8 * k + 8 ≤ 8 * j) → field (put_field img (8 * k) 8 v) (8 * j) 8 ≡ field (set img k (v % 256)) (8 * j) 8
    other j n o = field_put_field_other img (8 * k) 8 v (8 * j) 8 (omega arith) o ∙ field_byte img j (hs j) ∙ sym (get_or-set_other img k j (v % 256) 0 n) ∙ sym (field_byte _ j (set_ok j))

    at : (j : ℕ) → (j ≡ k) ⊎ ((j < k) ⊎ (k < j)) → field (put_field img (8 * k) 8 v) (8 * j) 8 ≡ field (set img k (v % 256)) (8 * j) 8
    at j (inl e) = rw e (field_put_field_same img (8 * k) 8 v (omega arith) ∙ sym (get_or-set_same img k (v % 256) 0 hk) ∙ sym (field_byte _ k (set_ok k)))
    at j (inr (inl l)) = other j (λ e. omega arith) (inl (omega arith))
    at j (inr (inr g)) = other j (λ e. omega arith) (inr (omega arith))

-- of count bytes the last is written first
pub put_field_last : (img : List ℕ) (f k v : ℕ) → f + (k - 1) < length img → 0 < k → Bytes img → put_field img (8 * f) (8 * k) v ≡ put_field (set img (f + (k - 1)) (v % 256)) (8 * f) (8 * (k - 1)) (v / 256)
put_field_last img f k v h hk hs =
    let e : 8 * k ≡ 8 * (k - 1) + 8 = omega arith in
    let q : 8 * f + 8 * (k - 1) ≡ 8 * (f + (k - 1)) = omega arith in
    rw (e, put_field_append img (8 * f) (8 * (k - 1)) 8 v, q, put_field_byte img (f + (k - 1)) v h hs)

-- Properties of two images

-- a bit that two images have alike, or that is written in both, is alike afterwards
put_bit_agree : (a b : List ℕ) (p v q : ℕ) → length a ≡ length b → p < 8 * length a → v < 2 → (bit a q ≡ bit b q) ⊎ (q ≡ p) → bit (put_bit a p v) q ≡ bit (put_bit b p v) q
put_bit_agree a b p v q l hp hv = by (one_of_three q p)
  where
    by : (q ≡ p) ⊎ ((q < p) ⊎ (p < q)) → (bit a q ≡ bit b q) ⊎ (q ≡ p) → bit (put_bit a p v) q ≡ bit (put_bit b p v) q
    by (inl e) o = rw e (bit_put_bit_same a p v hp hv ∙ sym (bit_put_bit_same b p v (omega arith) hv))
    by (inr n) (inl e) = bit_put_bit_other a p q v hp hv n ∙ e ∙ sym (bit_put_bit_other b p q v (omega arith) hv n)
    by (inr (inl n)) (inr e) = let z : ⊥ = omega arith in absurd z
    by (inr (inr n)) (inr e) = let z : ⊥ = omega arith in absurd z

pub put_field_agree : (a b : List ℕ) (p w v q : ℕ) → length a ≡ length b → p + w ≤ 8 * length a → (bit a q ≡ bit b q) ⊎ ((p ≤ q) × (q < p + w)) → bit (put_field a p w v) q ≡ bit (put_field b p w v) q
unfolding put_field
put_field_agree a b p zero v q l hp (inl e) = e
put_field_agree a b p zero v q l hp (inr i) = let z : ⊥ = omega arith in absurd z
put_field_agree a b p (suc w) v q l hp o =
    put_field_agree (put_bit a (p + w) (v % 2)) (put_bit b (p + w) (v % 2)) p w (v / 2) q
    (length_put_bit a (p + w) (v % 2) ∙ l ∙ sym (length_put_bit b (p + w) (v % 2))) (omega (arith, length_put_bit a (p + w) (v % 2))) (next o (dec_lt q (p + w)))
  where
    same : (bit a q ≡ bit b q) ⊎ (q ≡ p + w) → bit (put_bit a (p + w) (v % 2)) q ≡ bit (put_bit b (p + w) (v % 2)) q
    same = put_bit_agree a b (p + w) (v % 2) q l (omega arith) (omega arith)

    next : (bit a q ≡ bit b q) ⊎ ((p ≤ q) × (q < p + suc w)) → Dec (q < p + w) → (bit (put_bit a (p + w) (v % 2)) q ≡ bit (put_bit b (p + w) (v % 2)) q) ⊎ ((p ≤ q) × (q < p + w))
    next (inl e) d = inl (same (inl e))
    next (inr i) (yes h) = inr (i.0, h)
    next (inr i) (no n) = inl (same (inr (omega arith)))
