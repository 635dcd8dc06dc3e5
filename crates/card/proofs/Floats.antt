-- The governor's degrees: the f32 arithmetic of the code gives, bit for bit, the number (code − 80) / 2, at each of the 255 temperature codes.
-- Rests on the kit's lib.Ieee for what f32 arithmetic is. Assumes nothing.
use Rattle.std.proofs.Common.{◌≡◌, ℕ, ◌-◌, ◌*◌, ◌<◌, Bool, true, false, cond, not, ◌&&◌, T, eqb, ltb, pos, refl, eqb→eq}
use lib.Count.{count_trailing_zeros}
use lib.Ieee.{Float, nan, inf, fin, binary32, odd, round, units, size, span, climb, sum, add, neg, sub, mul, of_int, of_bits, of_fields, to_bits, fits, up, down}
use Rattle.wire.specs.Choose.{choose}
use Rattle.wire.proofs.Sweep.{and_left, and_right, at}
use Rattle.card.specs.Probe.{fault_code}
use Rattle.card.specs.Governor.{degrees_of, zero_code}
use Rattle.card.proofs.Integers.{same_z, same_z→eq}

-- two floats are the same data, as a test
abbrev same_b : Bool → Bool → Bool
same_b true b = b
same_b false b = not b

same_b→eq : (a b : Bool) → T (same_b a b) → a ≡ b
same_b→eq true true t = refl
same_b→eq true false t = absurd t
same_b→eq false true t = absurd t
same_b→eq false false t = refl

abbrev pub same_f : Float → Float → Bool
same_f nan y = false
same_f (inf s) y = false
same_f (fin s m e) nan = false
same_f (fin s m e) (inf t) = false
same_f (fin s m e) (fin t n d) = same_b s t && (eqb m n && same_z e d)

pub same_f→eq : (x y : Float) → T (same_f x y) → x ≡ y
same_f→eq nan y t = absurd t
same_f→eq (inf s) y t = absurd t
same_f→eq (fin s m e) nan t = absurd t
same_f→eq (fin s m e) (inf u) t = absurd t
same_f→eq (fin s m e) (fin u n d) t =
    let r = and_right (same_b s u) (eqb m n && same_z e d) t in
    cc (same_b→eq s u (and_left (same_b s u) (eqb m n && same_z e d) t), eqb→eq m n (and_left (eqb m n) (same_z e d) r), same_z→eq e d (and_right (eqb m n) (same_z e d) r))

-- the bits of 0.5 and of 40.0
abbrev pub half_bits : ℕ
half_bits = 0x3F00_0000

abbrev pub forty_bits : ℕ
forty_bits = 0x4220_0000

-- "half the code less 40, an exact f32": the code's own arithmetic gives the exact number
pub exact : (code : ℕ) → code < fault_code → sub binary32 (mul binary32 (of_int binary32 (pos code)) (of_bits binary32 half_bits)) (of_bits binary32 forty_bits) ≡ degrees_of code
unfolding degrees_of choose odd count_trailing_zeros round units size span climb sum add neg sub mul of_int of_bits of_fields
exact code h =
    same_f→eq _ _
    (at (λ n. same_f (sub binary32 (mul binary32 (of_int binary32 (pos n)) (of_bits binary32 half_bits)) (of_bits binary32 forty_bits)) (degrees_of n)) fault_code tt code h)

-- the float x is the number (code − 80) / 2: twice its magnitude is |code − 80|, and it is negative just below code 80
abbrev pub is_half : ℕ → Float → Bool
is_half code nan = false
is_half code (inf s) = false
is_half code (fin s m e) = same_b s (ltb code zero_code) && eqb (m * up e * 2) (cond (ltb code zero_code) (zero_code - code) (code - zero_code) * down e)

pub degrees_half : (code : ℕ) → code < fault_code → T (is_half code (degrees_of code))
unfolding degrees_of choose odd count_trailing_zeros
degrees_half code h = at (λ n. is_half n (degrees_of n)) fault_code tt code h

-- it is an f32, written in the one way
pub degrees_held : (code : ℕ) → code < fault_code → T (fits binary32 (degrees_of code))
unfolding degrees_of choose odd count_trailing_zeros fits
degrees_held code h = at (λ n. fits binary32 (degrees_of n)) fault_code tt code h

-- its bit pattern stands for the number
pub degrees_pattern : (code : ℕ) → code < fault_code → of_bits binary32 (to_bits binary32 (degrees_of code)) ≡ degrees_of code
unfolding degrees_of choose odd count_trailing_zeros to_bits size span climb of_bits of_fields
degrees_pattern code h = same_f→eq _ _ (at (λ n. same_f (of_bits binary32 (to_bits binary32 (degrees_of n))) (degrees_of n)) fault_code tt code h)
