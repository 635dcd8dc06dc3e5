-- Laws of specs/Decimal.antt: figures written and read back, the size of the shortest form. Assumes nothing.
use Rattle.std.proofs.Common.{ℕ, zero, suc, ◌+◌, ◌-◌, ◌*◌, ◌/◌, ◌%◌, ◌^◌, ◌≤◌, ◌<◌, ◌≡◌, refl, sym, ap, ◌∙◌, Bool, true, false, List, [], ◌∷◌, ◌++◌, append_assoc, append-nil, arith, add-zero, not-suc-le-zero, pow-suc, mul_assoc, mul-le-mul_right, mod-eq_of_lt, ltb, length, get_or, set, take, drop, length-append, length-set, take-append-drop, drop_of_length-le, drop-cons, drop-set-lt, get_or-set_same, lt-ltb, le-ltb, ltb-true}
use Rattle.std.proofs.Math.Decide.{dec_lt}
use Rattle.std.proofs.Math.Nat.{one-le-pow, pow-succ', pow-le-pow_right}
use Rattle.std.proofs.Math.Arith.{mod-mul}
use Rattle.std.proofs.Math.ListN.{get_or-append}
use Rattle.std.proofs.lemmas.List.{take-set-le}
use Rattle.wire.specs.Choose.{choose}
use Rattle.wire.specs.Buffer.{put}
use Rattle.wire.proofs.Cases.{yes as first, no as second}
use Rattle.wire.proofs.Tests.{and_true}
use Rattle.figures.specs.Figure.{zero_char, decimal, figure_of, char_of, all_figures}
use Rattle.figures.specs.Decimal.{digits, size_within, size_of, shortest, value_from, value_of, no_value, read_from, read_of, longest_value}
use Rattle.figures.proofs.Characters.{char_decimal, figure_char, all_append}

-- there are as many figures as asked for
pub digits_length : (k n : ℕ) → length (digits k n) ≡ k
unfolding digits
digits_length zero n = refl
digits_length (suc k) n = rw length-append (omega (arith, digits_length k (n / 10)))

-- each of them is a decimal figure
pub digits_figures : (k n : ℕ) → all_figures decimal (digits k n) ≡ true
unfolding digits all_figures
digits_figures zero n = refl
digits_figures (suc k) n =
    all_append decimal (digits k (n / 10)) (char_of (n % 10) ∷ [])
    ∙ simp (digits_figures k (n / 10), figure_char (n % 10) (omega arith), lt-ltb (n % 10) decimal (omega arith))

-- the last figure of n, read after the value v
figure_read : (v n : ℕ) (r : List ℕ) → value_from v (char_of (n % 10) ∷ r) ≡ value_from (v * 10 + n % 10) r
unfolding value_from
figure_read v n r = rw (figure_char (n % 10) (omega arith))

-- the figures of n, read after the value v
digits_read : (k n v : ℕ) (r : List ℕ) → value_from v (digits k n ++ r) ≡ value_from (v * 10 ^ k + n % 10 ^ k) r
unfolding digits
digits_read zero n v r =
    let e : v * 10 ^ 0 + n % 10 ^ 0 ≡ v = omega arith in
    rw e
digits_read (suc k) n v r =
    let x = char_of (n % 10) in
    let a : (digits k (n / 10) ++ (x ∷ [])) ++ r ≡ digits k (n / 10) ++ (x ∷ r) = simp append_assoc in
    let w = v * 10 ^ k + n / 10 % 10 ^ k in
    let m : n % (10 ^ k * 10) ≡ (n / 10 % 10 ^ k) * 10 + n % 10 = mod-mul n {m = 10 ^ k} {c = 10} (one-le-pow k 10 (omega arith)) (omega arith) in
    let p : 10 ^ suc k ≡ 10 ^ k * 10 = pow-suc 10 k in
    let q : v * (10 ^ k * 10) ≡ v * 10 ^ k * 10 = sym (mul_assoc v (10 ^ k) 10) in
    let e : w * 10 + n % 10 ≡ v * 10 ^ suc k + n % 10 ^ suc k = rw (p, m, q) (omega arith) in
    rw a (digits_read k (n / 10) v (x ∷ r) ∙ figure_read w n r ∙ ap (λ (y : ℕ). value_from y r) e)

-- k figures of a number that has no more are read as the number
pub value_digits : (k n : ℕ) → n < 10 ^ k → value_of (digits k n) ≡ n
unfolding value_of value_from
value_digits k n h =
    let e : 0 * 10 ^ k + n % 10 ^ k ≡ n = omega (arith, mod-eq_of_lt h) in
    ap (value_from 0) (sym (append-nil (digits k n))) ∙ digits_read k n 0 [] ∙ e

-- the value of figures read after the value v
value_from_below : (v : ℕ) (s : List ℕ) → all_figures decimal s ≡ true → value_from v s < (v + 1) * 10 ^ length s
unfolding value_from all_figures
value_from_below v [] h = omega arith
value_from_below v (x ∷ s) h =
    let t = and_true (ltb (figure_of x) decimal) (all_figures decimal s) h in
    let f = ltb-true (figure_of x) decimal t.0 in
    let r = value_from_below (v * 10 + figure_of x) s t.1 in
    let m : (v * 10 + figure_of x + 1) * 10 ^ length s ≤ ((v + 1) * 10) * 10 ^ length s = mul-le-mul_right (10 ^ length s) (omega arith) in
    let p : 10 ^ suc (length s) ≡ 10 * 10 ^ length s = pow-succ' 10 (length s) in
    let a : ((v + 1) * 10) * 10 ^ length s ≡ (v + 1) * (10 * 10 ^ length s) = mul_assoc (v + 1) 10 (10 ^ length s) in
    rw (p, ← a) (omega (arith, r, m))

-- a run of decimal figures has a value below the power of ten of its length
pub value_below : (s : List ℕ) → all_figures decimal s ≡ true → value_of s < 10 ^ length s
unfolding value_of
value_below s h = omega (arith, value_from_below 0 s h)

-- what is read after the value v: a decimal figure more, any other character, none left
module _ (v : ℕ) (s : List ℕ) (i : ℕ) where
  pub read_figure : i < length s → figure_of (get_or s i 0) < decimal → read_from v (drop i s) ≡ read_from (v * 10 + figure_of (get_or s i 0)) (drop (suc i) s)
  unfolding read_from all_figures value_from
  read_figure h f = rw (drop-cons s i 0 h, lt-ltb (figure_of (get_or s i 0)) decimal f)

  pub read_other : i < length s → decimal ≤ figure_of (get_or s i 0) → read_from v (drop i s) ≡ no_value
  unfolding read_from all_figures choose
  read_other h f = rw (drop-cons s i 0 h, le-ltb (figure_of (get_or s i 0)) decimal f)

  pub read_end : length s ≤ i → read_from v (drop i s) ≡ v
  unfolding read_from all_figures value_from choose
  read_end h = rw (drop_of_length-le s {i = i} h)

-- characters that are read as a number are decimal figures, and it is their value
pub read_some : (s : List ℕ) → (read_of s ≡ no_value → ⊥) → (all_figures decimal s ≡ true) × (read_of s ≡ value_of s)
unfolding read_of read_from value_of
read_some s n = by (all_figures decimal s) refl
  where
    by : (t : Bool) → all_figures decimal s ≡ t → (all_figures decimal s ≡ true) × (choose (all_figures decimal s) (value_from 0 s) no_value ≡ value_from 0 s)
    by true e = (e, sym (first _ _ _ _ e refl))
    by false e = absurd (n (sym (second _ _ _ _ e refl)))

-- few characters that are not read as a number are not all decimal figures
pub read_none : (s : List ℕ) → length s ≤ longest_value → read_of s ≡ no_value → all_figures decimal s ≡ false
unfolding read_of read_from value_of
read_none s l n = by (all_figures decimal s) refl
  where
    by : (t : Bool) → all_figures decimal s ≡ t → all_figures decimal s ≡ false
    by true e =
        let m : 10 ^ length s ≤ 10 ^ 12 = pow-le-pow_right {n = 10} (omega arith) {j = 12} (omega arith) in
        let r : no_value ≡ value_from 0 s = sym n ∙ sym (first _ _ _ _ e refl) in
        let z : ⊥ = omega (arith, m, r, value_from_below 0 s e) in absurd z
    by false e = e

-- no figures, put anywhere
pub digits_none : (d : List ℕ) (at n : ℕ) → put d at (digits 0 n) ≡ d
unfolding put digits
digits_none d at n = rw (add-zero at) (take-append-drop at d)

-- the last figure, put before those that are left to put
pub digits_last : (d : List ℕ) (at j v : ℕ) → 0 < j → at + j ≤ length d → put (set d (at + (j - 1)) (char_of (v % 10))) at (digits (j - 1) (v / 10)) ≡ put d at (digits j v)
unfolding put digits
digits_last d at zero v h l = absurd (not-suc-le-zero h)
digits_last d at (suc j) v h l =
    let e : suc j - 1 ≡ j = omega arith in
    let x = char_of (v % 10) in
    let s = set d (at + j) x in
    let D = digits j (v / 10) in
    let n = digits_length j (v / 10) in
    let i : at + j < length d = omega arith in
    let t : take at s ≡ take at d = take-set-le at d (at + j) x (omega arith) in
    let r : drop (at + j) s ≡ x ∷ drop (suc (at + j)) d = drop-cons s (at + j) 0 (rw length-set i) ∙ simp (get_or-set_same d (at + j) x 0 i, drop-set-lt (suc (at + j)) d (at + j) x (omega arith)) in
    let m : length (D ++ (x ∷ [])) ≡ suc j = rw length-append (omega (arith, n)) in
    let q : at + suc j ≡ suc (at + j) = omega arith in
    rw (e, n, t, r, m, q) (simp append_assoc)

-- the number of divisions allowed does not matter once it is enough
size_turns : (t u n : ℕ) → n ≤ t → n ≤ u → size_within t n ≡ size_within u n
unfolding size_within
size_turns zero zero n h k = refl
size_turns zero (suc u) n h k = first _ _ _ _ (lt-ltb n 10 (omega arith)) refl
size_turns (suc t) zero n h k = sym (first _ _ _ _ (lt-ltb n 10 (omega arith)) refl)
size_turns (suc t) (suc u) n h k =
    ap (λ (x : ℕ). choose (ltb n 10) 1 (suc x)) (size_turns t u (n / 10) (omega arith) (omega arith))

-- a number below ten has one figure
pub size_one : (n : ℕ) → n < 10 → size_of n ≡ 1
unfolding size_of size_within
size_one zero h = refl
size_one (suc n) h = sym (first _ _ _ _ (lt-ltb (suc n) 10 h) refl)

-- any other has one more than its tenth
pub size_more : (n : ℕ) → 10 ≤ n → size_of n ≡ suc (size_of (n / 10))
unfolding size_of size_within
size_more zero h = absurd (not-suc-le-zero h)
size_more (suc n) h = sym (second _ _ _ _ (le-ltb (suc n) 10 h) (ap suc (size_turns (suc n / 10) n (suc n / 10) (omega arith) (omega arith))))

-- induction by tenths, as long as it takes no more than t divisions
within_turns : (P : ℕ → Type 0) → ((n : ℕ) → n < 10 → P n) → ((n : ℕ) → 10 ≤ n → P (n / 10) → P n) → (t n : ℕ) → n ≤ t → P n
within_turns P one more zero n h = one n (omega arith)
within_turns P one more (suc t) n h = by (within_turns P one more t (n / 10) (omega arith)) (dec_lt n 10)
  where
    by : P (n / 10) → Dec (n < 10) → P n
    by p (yes s) = one n s
    by p (no b) = more n (omega arith) p

-- what holds below ten, and of a number if of its tenth, holds of every number
pub by_tenths : (P : ℕ → Type 0) → ((n : ℕ) → n < 10 → P n) → ((n : ℕ) → 10 ≤ n → P (n / 10) → P n) → (n : ℕ) → P n
by_tenths P one more n = within_turns P one more n n (omega arith)

-- there is always a figure
pub size_positive : (n : ℕ) → 0 < size_of n
size_positive = by_tenths (λ n. 0 < size_of n) (λ n h. omega (arith, size_one n h)) (λ n h p. omega (arith, size_more n h))

-- a number's figures are enough for it
pub size_enough : (n : ℕ) → n < 10 ^ size_of n
size_enough = by_tenths (λ n. n < 10 ^ size_of n) (λ n h. rw (size_one n h) (omega arith)) (λ n h p. rw (size_more n h, pow-suc 10 (size_of (n / 10))) (omega arith))

-- no more figures than a power of ten above the number has zeros
pub size_at_most : (k n : ℕ) → n < 10 ^ suc k → size_of n ≤ suc k
size_at_most zero n h = omega (arith, size_one n (omega arith))
size_at_most (suc k) n h = by (size_at_most k (n / 10) (omega (arith, pow-suc 10 (suc k)))) (dec_lt n 10)
  where
    by : size_of (n / 10) ≤ suc k → Dec (n < 10) → size_of n ≤ suc (suc k)
    by p (yes s) = omega (arith, size_one n s)
    by p (no b) = omega (arith, size_more n (omega arith))

-- the shortest decimal is as long as its size
pub shortest_length : (n : ℕ) → length (shortest n) ≡ size_of n
unfolding shortest
shortest_length n = digits_length (size_of n) n

-- all of it is decimal figures
pub shortest_figures : (n : ℕ) → all_figures decimal (shortest n) ≡ true
unfolding shortest
shortest_figures n = digits_figures (size_of n) n

-- it is read as the number
pub value_shortest : (n : ℕ) → value_of (shortest n) ≡ n
unfolding shortest
value_shortest n = value_digits (size_of n) n (size_enough n)

-- the first figure of a number below ten
first_one : (n : ℕ) → n < 10 → get_or (shortest n) 0 0 ≡ char_of n
unfolding shortest digits
first_one n h =
    let m : n % 10 ≡ n = mod-eq_of_lt h in
    rw (size_one n h, m)

-- the first figure of any other is its tenth's
first_more : (n : ℕ) → 10 ≤ n → get_or (shortest n) 0 0 ≡ get_or (shortest (n / 10)) 0 0
unfolding shortest digits
first_more n h =
    rw (size_more n h) (get_or-append (digits (size_of (n / 10)) (n / 10)) (char_of (n % 10) ∷ []) 0 0 (rw (digits_length (size_of (n / 10)) (n / 10)) (size_positive (n / 10))))

-- its first figure is not 0, unless the number is
pub shortest_first : (n : ℕ) → 0 < n → get_or (shortest n) 0 0 ≡ zero_char → ⊥
shortest_first =
    by_tenths (λ n. 0 < n → get_or (shortest n) 0 0 ≡ zero_char → ⊥)
    (λ n h z e. omega (arith, e, first_one n h, char_decimal n h))
    (λ n h p z e. p (omega arith) (sym (first_more n h) ∙ e))

-- its first character is a figure's
pub shortest_figure : (n : ℕ) → zero_char ≤ get_or (shortest n) 0 0
shortest_figure =
    by_tenths (λ n. zero_char ≤ get_or (shortest n) 0 0)
    (λ n h. omega (arith, first_one n h, char_decimal n h))
    (λ n h p. omega (arith, first_more n h))
