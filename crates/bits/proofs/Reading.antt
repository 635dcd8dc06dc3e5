-- Laws of reading: how large a field is, fields side by side, a byte as a field, and images that agree in every bit.
-- Assumes nothing.
use Rattle.std.proofs.Common.{◌≡◌, ℕ, zero, suc, ◌+◌, ◌-◌, ◌*◌, ◌/◌, ◌%◌, ◌^◌, ◌<◌, ◌≤◌, List, length, get_or, set, sym, refl, ap, ◌∙◌, ⊎_elim, mul_assoc, pow-suc, div-one, arith, ext_get_or, shr-shr, get_or-set_same, get_or-set_other}
use Rattle.std.proofs.lemmas.Bool.{cases_lt}
use lib.Pow.{high, low}
use Rattle.std.specs.Int.{from_be_bytes, w64}
use Rattle.bits.specs.Bits.{bit, field}

-- each byte of an image is below 256
abbrev pub Bytes : List ℕ → Type 0
Bytes img = (k : ℕ) → get_or img k 0 < 256

pub bit_lt : (img : List ℕ) (p : ℕ) → bit img p < 2
unfolding bit
bit_lt img p = omega arith

pub field_lt : (img : List ℕ) (p w : ℕ) → field img p w < 2 ^ w
unfolding field
field_lt img p zero = omega arith
field_lt img p (suc w) = omega (arith, field_lt img p w, bit_lt img (p + w), pow-suc 2 w)

pub field_none : (img : List ℕ) (p : ℕ) → field img p 0 ≡ 0
unfolding field
field_none img p = refl

-- a field is its left part before its right part
pub field_append : (img : List ℕ) (p a b : ℕ) → field img p (a + b) ≡ field img p a * 2 ^ b + field img (p + a) b
unfolding field
field_append img p a zero = let e : a + 0 ≡ a = omega arith in rw e (omega arith)
field_append img p a (suc b) =
    let e : a + suc b ≡ suc (a + b) = omega arith in
    let q : p + (a + b) ≡ p + a + b = omega arith in
    let m : field img p a * (2 ^ b * 2) ≡ field img p a * 2 ^ b * 2 = sym (mul_assoc (field img p a) (2 ^ b) 2) in
    rw (e, field_append img p a b, q, pow-suc 2 b, m) (omega arith)

-- the middle of a field
pub field_middle : (img : List ℕ) (p a w d : ℕ) → field img p (a + w + d) / 2 ^ d % 2 ^ w ≡ field img (p + a) w
field_middle img p a w d =
    let h = high (field img p (a + w)) d (field_lt img (p + (a + w)) d) in
    let l = low (field img p a) w (field_lt img (p + a) w) in
    rw (field_append img p (a + w) d, h, field_append img p a w) l

-- a field that lies within another
pub field_inside : (img : List ℕ) (q n p w : ℕ) → q ≤ p → p + w ≤ q + n → field img q n / 2 ^ (q + n - (p + w)) % 2 ^ w ≡ field img p w
field_inside img q n p w h k =
    let e : n ≡ (p - q) + w + (q + n - (p + w)) = omega arith in
    let a : q + (p - q) ≡ p = omega arith in
    ap (λ (m : ℕ). field img q m / 2 ^ (q + n - (p + w)) % 2 ^ w) e ∙ field_middle img q (p - q) w (q + n - (p + w)) ∙ ap (λ (x : ℕ). field img x w) a

-- a field is its bits
pub field_ext : (a b : List ℕ) (p w : ℕ) → ((i : ℕ) → i < w → bit a (p + i) ≡ bit b (p + i)) → field a p w ≡ field b p w
unfolding field
field_ext a b p zero h = refl
field_ext a b p (suc w) h = cc (field_ext a b p w (λ i l. h i (omega arith)), h w (omega arith))

bit_of_byte : (img : List ℕ) (k j : ℕ) → j < 8 → bit img (8 * k + j) ≡ get_or img k 0 / 2 ^ (7 - j) % 2
unfolding bit
bit_of_byte img k j h =
    let d : (8 * k + j) / 8 ≡ k = omega arith in
    let r : (8 * k + j) % 8 ≡ j = omega arith in
    rw (d, r)

-- a byte's first j bits
front : (img : List ℕ) (k j : ℕ) → j ≤ 8 → get_or img k 0 < 256 → field img (8 * k) j ≡ get_or img k 0 / 2 ^ (8 - j)
unfolding field
front img k zero l h = omega arith
front img k (suc j) l h =
    let x = get_or img k 0 in
    let y = x / 2 ^ (7 - j) in
    let a : 8 - j ≡ (7 - j) + 1 = omega arith in
    let b : 8 - suc j ≡ 7 - j = omega arith in
    let s : x / 2 ^ (8 - j) ≡ y / 2 = rw a (sym (shr-shr x (7 - j) 1)) in
    let i = front img k j (omega arith) h in
    rw (i, s, bit_of_byte img k j (omega arith), b) (omega arith)

-- a byte is a field of eight bits
pub field_byte : (img : List ℕ) (k : ℕ) → get_or img k 0 < 256 → field img (8 * k) 8 ≡ get_or img k 0
field_byte img k h = front img k 8 (omega arith) h ∙ div-one _

-- one byte more
pub field_bytes : (img : List ℕ) (f j : ℕ) → get_or img (f + j) 0 < 256 → field img (8 * f) (8 * (j + 1)) ≡ field img (8 * f) (8 * j) * 256 + get_or img (f + j) 0
field_bytes img f j h =
    let e : 8 * (j + 1) ≡ 8 * j + 8 = omega arith in
    let q : 8 * f + 8 * j ≡ 8 * (f + j) = omega arith in
    rw (e, field_append img (8 * f) (8 * j) 8, q, field_byte img (f + j) h)

-- a window's bytes, filled one by one from the image
pub filled_next : (bs img : List ℕ) (f i j : ℕ) → i < length bs → j < i + 1 → ((k : ℕ) → k < i → get_or bs k 0 ≡ get_or img (f + k) 0) → get_or (set bs i (get_or img (f + i) 0)) j 0 ≡ get_or img (f + j) 0
filled_next bs img f i j n l h =
    ⊎_elim
    (λ below. get_or-set_other bs i j (get_or img (f + i) 0) 0 (λ e. omega arith) ∙ h j below)
    (λ above. let e : j ≡ i = omega arith in
    rw e (get_or-set_same bs i (get_or img (f + i) 0) 0 n))
    (cases_lt j i)

-- eight bytes, as the library reads a number from them
pub field_window : (img bs : List ℕ) (f : ℕ) → Bytes img → ((i : ℕ) → i < 8 → get_or bs i 0 ≡ get_or img (f + i) 0) → from_be_bytes w64 bs ≡ field img (8 * f) 64
field_window img bs f h same =
    let at : (i : ℕ) → field img (8 * f) (8 * (i + 1)) ≡ field img (8 * f) (8 * i) * 256 + get_or img (f + i) 0 = λ i. field_bytes img f i (h (f + i)) in
    omega (arith, field_none img (8 * f), at 0, at 1, at 2, at 3, at 4, at 5, at 6, at 7, same 0 (omega arith), same 1 (omega arith), same 2 (omega arith), same 3 (omega arith), same 4 (omega arith), same 5 (omega arith), same 6 (omega arith), same 7 (omega arith))

-- images that agree in every byte's field are equal
pub image_ext_bytes : (a b : List ℕ) → Bytes a → Bytes b → length a ≡ length b → ((k : ℕ) → k < length a → field a (8 * k) 8 ≡ field b (8 * k) 8) → a ≡ b
image_ext_bytes a b ha hb l h = ext_get_or 0 a b l (λ k lt. sym (field_byte a k (ha k)) ∙ h k lt ∙ field_byte b k (hb k))

-- images that agree in every bit are equal
pub image_ext : (a b : List ℕ) → Bytes a → Bytes b → length a ≡ length b → ((p : ℕ) → p < 8 * length a → bit a p ≡ bit b p) → a ≡ b
image_ext a b ha hb l h = image_ext_bytes a b ha hb l (λ k lt. field_ext a b (8 * k) 8 (λ i s. h (8 * k + i) (omega arith)))
