-- A byte that the same question would not change is a byte with every forced bit as asked; a byte once asked stays. Assumes nothing.
use Rattle.std.proofs.Common.{◌≡◌, refl, sym, ap, ◌∙◌, ◌↔◌, ⊎_elim, inl, inr, List, ℕ, zero, suc, ◌+◌, ◌%◌, ◌/◌, ◌≤◌, ◌<◌, min, max, arith, bit_and, bit_or, get_or}
use lib.Bits.{and_step, or_step, and_shr, or_shr}
use Rattle.master.specs.Request.{Ask, bit_of, Forced, as_asked}
use Rattle.master.specs.Request.Ask.{bytes, bits}

-- the bits of a number

bit_below : (b x : ℕ) → bit_of x b < 2
unfolding bit_of
bit_below zero x = omega arith
bit_below (suc b) x = bit_below b (x / 2)

-- two numbers with the same bits are the same, each being at most k
bits_same : (k x y : ℕ) → x ≤ k → y ≤ k → ((b : ℕ) → bit_of x b ≡ bit_of y b) → x ≡ y
unfolding bit_of
bits_same zero x y h g f = omega arith
bits_same (suc k) x y h g f =
    let low : x % 2 ≡ y % 2 = f 0 in
    let high : x / 2 ≡ y / 2 = bits_same k (x / 2) (y / 2) (omega arith) (omega arith) (λ b. f (suc b)) in
    omega arith

bit_and_law : (b x y : ℕ) → bit_of (bit_and x y) b ≡ min (bit_of x b) (bit_of y b)
unfolding bit_of
bit_and_law zero x y = let e = and_step x y in omega arith
bit_and_law (suc b) x y = ap (λ (n : ℕ). bit_of n b) (and_shr x y 1) ∙ bit_and_law b (x / 2) (y / 2)

bit_or_law : (b x y : ℕ) → bit_of (bit_or x y) b ≡ max (bit_of x b) (bit_of y b)
unfolding bit_of
bit_or_law zero x y = let e = or_step x y in omega arith
bit_or_law (suc b) x y = ap (λ (n : ℕ). bit_of n b) (or_shr x y 1) ∙ bit_or_law b (x / 2) (y / 2)

-- (old AND mask) OR state

abbrev masked : ℕ → ℕ → ℕ → ℕ
masked x m s = bit_or (bit_and x m) s

bit_masked : (b x m s : ℕ) → bit_of (masked x m s) b ≡ max (min (bit_of x b) (bit_of m b)) (bit_of s b)
bit_masked b x m s = bit_or_law b (bit_and x m) s ∙ ap (λ (n : ℕ). max n (bit_of s b)) (bit_and_law b x m)

-- a forced bit is the state's, whatever was there
forced_state : (b x m s : ℕ) → Forced m s b → bit_of (masked x m s) b ≡ bit_of s b
forced_state b x m s f =
    let e = bit_masked b x m s in
    let p = bit_below b x in
    let r = bit_below b s in
    ⊎_elim (λ (z : bit_of m b ≡ 0). omega arith) (λ (z : bit_of s b ≡ 1). omega arith) f

fixed_forced : (x m s : ℕ) → masked x m s ≡ x → (b : ℕ) → Forced m s b → bit_of x b ≡ bit_of s b
fixed_forced x m s e b f = ap (λ (n : ℕ). bit_of n b) (sym e) ∙ forced_state b x m s f

forced_fixed : (x m s : ℕ) → ((b : ℕ) → Forced m s b → bit_of x b ≡ bit_of s b) → masked x m s ≡ x
forced_fixed x m s f = bits_same (masked x m s + x) (masked x m s) x (omega arith) (omega arith) (λ b. bit_masked b x m s ∙ each b (bit_below b x) (bit_below b m) (bit_below b s))
  where
    each : (b : ℕ) → bit_of x b < 2 → bit_of m b < 2 → bit_of s b < 2 → max (min (bit_of x b) (bit_of m b)) (bit_of s b) ≡ bit_of x b
    each b p r t = by (bit_of m b) (bit_of s b) refl refl
      where
        by : (m' s' : ℕ) → bit_of m b ≡ m' → bit_of s b ≡ s' → max (min (bit_of x b) (bit_of m b)) (bit_of s b) ≡ bit_of x b
        by zero s' u v = let e = f b (inl u) in omega arith
        by (suc m') zero u v = omega arith
        by (suc m') (suc s') u v = let one : bit_of s b ≡ 1 = omega arith in let e = f b (inr one) in omega arith

-- the code's test says what document 01 says: the byte x has every forced bit as asked, whatever old was there
pub asked_forced : (masks states : List ℕ) (old x i : ℕ)
    → (as_asked (bits masks states) x i ≡ x) ↔ ((b : ℕ) → Forced (get_or masks i 0) (get_or states i 0) b → bit_of x b ≡ bit_of (as_asked (bits masks states) old i) b)
unfolding as_asked
asked_forced masks states old x i =
    let m = get_or masks i 0 in
    let s = get_or states i 0 in
    (λ e b f. fixed_forced x m s e b f ∙ sym (forced_state b old m s f), λ g. forced_fixed x m s (λ b f. g b f ∙ forced_state b old m s f))

-- the same question changes nothing the second time
pub asked_again : (a : Ask) (old i : ℕ) → as_asked a (as_asked a old i) i ≡ as_asked a old i
unfolding as_asked
asked_again (bytes sent) old i = refl
asked_again (bits masks states) old i =
    let m = get_or masks i 0 in
    let s = get_or states i 0 in
    forced_fixed (masked old m s) m s (λ b f. forced_state b old m s f)
