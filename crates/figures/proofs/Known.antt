-- Characters are known from what they are read as: a figure's character, a byte's pair, a run of decimal figures of one length; and the
-- shortest text of a word is the only one of its length. For masters, which make the least of several frames. Assumes nothing.
use Rattle.std.proofs.Common.{Option, Some, None, ℕ, ◌+◌, ◌-◌, ◌*◌, ◌/◌, ◌%◌, ◌^◌, ◌≤◌, ◌<◌, ◌≡◌, refl, sym, ap, ◌∙◌, Bool, true, false, not, ◌⊎◌, inl, inr, ⊎_elim, List, [], ◌∷◌, arith, ltb-true, ltb-false, le-ltb, eqb-true, ne_eqb, leb-false, le-leb, leb, ltb, eqb, length, get_or, drop, drop-cons}
use Rattle.std.proofs.Math.Decide.{dec_lt}
use Rattle.std.proofs.lemmas.Bool.{eqb-false, not-false, lt-leb}
use Rattle.wire.specs.Choose.{choose}
use Rattle.wire.specs.Word.{minus}
use Rattle.wire.proofs.Cases.{by_choice}
use Rattle.wire.proofs.Tests.{and_true}
use Rattle.wire.proofs.Lengths.{between_facts}
use Rattle.figures.specs.Figure.{decimal, upper_hex, base, zero_char, nine_char, upper_a, upper_f, figure_of, char_of, all_figures, pair_byte}
use Rattle.figures.specs.Decimal.{digits, value_from, value_of, shortest}
use Rattle.figures.specs.Signed.{half, minus_char, is_negative, with_sign, text_of, figures_of, parsed_of}
use Rattle.figures.proofs.Characters.{char_decimal, figure_char}
use Rattle.figures.proofs.Decimals.{digits_length, digits_figures, value_digits, value_below, size_at_most, shortest_length, shortest_figures, value_shortest}
use Rattle.figures.proofs.Texts.{text_negative, text_positive, text_zero, magnitude_negative, magnitude_positive}

-- the character of a figure above nine
char_upper : (v : ℕ) → 10 ≤ v → char_of v ≡ upper_a + (v - 10)
unfolding char_of choose
char_upper v h = rw (le-ltb v 10 h)

-- an upper-case figure has one character
pub char_figure : (x : ℕ) → figure_of x < upper_hex → char_of (figure_of x) ≡ x
unfolding figure_of
char_figure x =
    by_choice P _ _ _ (λ a _. let b = between_facts zero_char nine_char x a in char_decimal (x - zero_char) (omega (arith, b)) ∙ omega (arith, b))
    (λ _. by_choice P _ _ _ (λ a _. let b = between_facts upper_a upper_f x a in char_upper (10 + (x - upper_a)) (omega (arith, b)) ∙ omega (arith, b))
    (λ _. by_choice P _ _ _ (λ _ h. let z : ⊥ = omega arith in absurd z) (λ _ h. let z : ⊥ = omega arith in absurd z)))
  where
    P : ℕ → Type 0
    P v = v < upper_hex → char_of v ≡ x

-- the two characters of a byte are read as the byte
pub pair_read : (v : ℕ) → v < 256 → pair_byte upper_hex (char_of (v / base)) (char_of (v % base)) ≡ v
unfolding pair_byte choose
pair_read v h =
    simp (figure_char (v / 16) (omega arith), figure_char (v % 16) (omega arith), lt-leb 16 (v / 16) (omega arith), lt-leb 16 (v % 16) (omega arith)) (omega arith)

-- and they are known from it
pub pair_chars : (h l c : ℕ) → c < 256 → pair_byte upper_hex h l ≡ c → (h ≡ char_of (c / base)) × (l ≡ char_of (c % base))
unfolding pair_byte
pair_chars h l c most =
    by_choice P (leb upper_hex (figure_of h)) _ _ (λ _ e. let z : ⊥ = omega arith in absurd z)
    (λ a. by_choice P (leb upper_hex (figure_of l)) _ _ (λ _ e. let z : ⊥ = omega arith in absurd z)
    (λ b e.
    let x = leb-false upper_hex (figure_of h) a in
    let y = leb-false upper_hex (figure_of l) b in
    let u : figure_of h ≡ c / base = omega arith in
    let v : figure_of l ≡ c % base = omega arith in
    (sym (char_figure h x) ∙ ap char_of u, sym (char_figure l y) ∙ ap char_of v)))
  where
    P : ℕ → Type 0
    P n = n ≡ c → (h ≡ char_of (c / base)) × (l ≡ char_of (c % base))

-- two runs of decimal figures of one length and value are the same
pub figures_same : (v w : ℕ) (s t : List ℕ) → all_figures decimal s ≡ true → all_figures decimal t ≡ true → length s ≡ length t
    → value_from v s ≡ value_from w t → (v ≡ w) × (s ≡ t)
unfolding all_figures value_from
figures_same v w [] [] a b n e = (e, refl)
figures_same v w [] (y ∷ t) a b n e = let z : ⊥ = omega arith in absurd z
figures_same v w (x ∷ s) [] a b n e = let z : ⊥ = omega arith in absurd z
figures_same v w (x ∷ s) (y ∷ t) a b n e =
    let p = and_true (ltb (figure_of x) decimal) (all_figures decimal s) a in
    let q = and_true (ltb (figure_of y) decimal) (all_figures decimal t) b in
    let fx = ltb-true (figure_of x) decimal p.0 in
    let fy = ltb-true (figure_of y) decimal q.0 in
    let r = figures_same (v * 10 + figure_of x) (w * 10 + figure_of y) s t p.1 q.1 (omega arith) e in
    let d : figure_of x ≡ figure_of y = omega (arith, r.0, fx, fy) in
    let c : x ≡ y = sym (char_figure x (omega arith)) ∙ ap char_of d ∙ char_figure y (omega arith) in
    let l : s ≡ t = r.1 in
    (omega (arith, r.0, fx, fy), cc)

-- k figures of a value are its digits
pub digits_known : (k : ℕ) (s : List ℕ) → all_figures decimal s ≡ true → length s ≡ k → s ≡ digits k (value_of s)
unfolding value_of
digits_known k s a n =
    let small : value_of s < 10 ^ k = rw (sym n) (value_below s a) in
    (figures_same 0 0 s (digits k (value_of s)) a (digits_figures k (value_of s)) (n ∙ sym (digits_length k (value_of s))) (sym (value_digits k (value_of s) small))).1

-- a run of figures is its value's shortest decimal, or longer
figures_least : (s : List ℕ) → all_figures decimal s ≡ true → 0 < length s → (s ≡ shortest (value_of s)) ⊎ (length (shortest (value_of s)) < length s)
unfolding value_of
figures_least [] a h = let z : ⊥ = omega arith in absurd z
figures_least (x ∷ s) a h = by (dec_lt (length (shortest m)) (length (x ∷ s)))
  where
    m : ℕ
    m = value_of (x ∷ s)

    by : Dec (length (shortest m) < length (x ∷ s)) → (x ∷ s ≡ shortest m) ⊎ (length (shortest m) < length (x ∷ s))
    by (yes l) = inr l
    by (no l) =
        let n : length (x ∷ s) ≡ length (shortest m) = omega (arith, shortest_length m, size_at_most (length s) m (value_below (x ∷ s) a)) in
        inl (figures_same 0 0 (x ∷ s) (shortest m) a (shortest_figures m) n (sym (value_shortest m))).1

-- what is known of characters that were read as a word
record Figured (bound : ℕ) (negative : Bool) (s : List ℕ) (value : ℕ) : Type 0 where
  some_figure : 0 < length s
  figures : all_figures decimal s ≡ true
  most : value_of s ≤ bound
  signed : with_sign negative (value_of s) ≡ value

no_value_law : (value : ℕ) {A : Type 0} → None ≡ Some value → A
no_value_law value e = let z : ◌≡◌ {A = ℕ} 0 1 = cc in let n : ⊥ = omega arith in absurd n

figured : (bound : ℕ) (negative : Bool) (s : List ℕ) (value : ℕ) → figures_of bound negative s ≡ Some value → Figured bound negative s value
unfolding figures_of
figured bound negative s value =
    by_choice P (eqb (length s) 0) _ _ (λ _. no_value_law value)
    (λ a. by_choice P (not (all_figures decimal s)) _ _ (λ _. no_value_law value)
    (λ b. by_choice P (ltb bound (value_of s)) _ _ (λ _. no_value_law value)
    (λ c e.
    let n = eqb-false (length s) 0 a in
    record { some_figure = omega arith; figures = not-false _ b; most = ltb-false bound (value_of s) c; signed = cc })))
  where
    P : Option ℕ → Type 0
    P p = p ≡ Some value → Figured bound negative s value

-- a word by its sign and magnitude, and its text
with_plus : (m : ℕ) → with_sign false m ≡ m
unfolding with_sign choose
with_plus m = refl

with_minus : (m : ℕ) → 0 < m → with_sign true m ≡ minus m
unfolding with_sign choose
with_minus m h = rw (ne_eqb m 0 (λ e. omega arith))

with_zero : with_sign true 0 ≡ 0
unfolding with_sign choose
with_zero = refl

text_plus : (m : ℕ) → m < half → text_of m ≡ shortest m
unfolding is_negative
text_plus m h = text_positive m (lt-leb half m h) ∙ ap shortest (magnitude_positive m h)

text_minused : (m : ℕ) → 0 < m → m < half → text_of (minus m) ≡ minus_char ∷ shortest m
unfolding is_negative
text_minused m p h =
    let e : minus (minus m) ≡ m = omega arith in
    text_negative (minus m) (le-leb half (minus m) (omega arith)) ∙ rw (magnitude_negative (minus m) (omega arith), e)

-- characters that were read as a word are its text, or longer
pub text_least : (bound : ℕ) (s : List ℕ) (value : ℕ) → bound < half → parsed_of bound s ≡ Some value → (s ≡ text_of value) ⊎ (length (text_of value) < length s)
unfolding parsed_of
text_least bound s value low =
    by_choice P (eqb (length s) 0) _ _ (λ _. no_value_law value)
    (λ n. by_choice P (eqb (get_or s 0 0) minus_char) _ _
    (λ a e.
    let k : length s ≡ 0 → ⊥ = eqb-false (length s) 0 n in
    let d : s ≡ minus_char ∷ drop 1 s = drop-cons s 0 0 (omega arith) ∙ ap (λ (x : ℕ). x ∷ drop 1 s) (eqb-true (get_or s 0 0) minus_char a) in
    minused (drop 1 s) d (figured bound true (drop 1 s) value e) (dec_lt 0 (value_of (drop 1 s))))
    (λ _ e. plain (figured bound false s value e)))
  where
    Out : Type 0
    Out = (s ≡ text_of value) ⊎ (length (text_of value) < length s)

    P : Option ℕ → Type 0
    P p = p ≡ Some value → Out

    plain : Figured bound false s value → Out
    plain f =
        let m = value_of s in
        let t : text_of value ≡ shortest m = ap text_of (sym f.signed ∙ with_plus m) ∙ text_plus m (omega (arith, f.most)) in
        ⊎_elim (λ (e : s ≡ shortest m). inl (e ∙ sym t)) (λ (l : length (shortest m) < length s). inr (rw t l)) (figures_least s f.figures f.some_figure)

    minused : (r : List ℕ) → s ≡ minus_char ∷ r → Figured bound true r value → Dec (0 < value_of r) → Out
    minused r d f (yes p) =
        let m = value_of r in
        let t : text_of value ≡ minus_char ∷ shortest m = ap text_of (sym f.signed ∙ with_minus m p) ∙ text_minused m p (omega (arith, f.most)) in
        ⊎_elim (λ (e : r ≡ shortest m). inl (d ∙ ap (λ (l : List ℕ). minus_char ∷ l) e ∙ sym t)) (λ (l : length (shortest m) < length r). inr (rw (t, d) (omega arith)))
        (figures_least r f.figures f.some_figure)
    minused r d f (no n) =
        let z : value_of r ≡ 0 = omega arith in
        let v : value ≡ 0 = sym f.signed ∙ ap (with_sign true) z ∙ with_zero in
        let t : length (text_of value) ≡ 1 = ap (λ (w : ℕ). length (text_of w)) v ∙ ap length text_zero in
        inr (rw (t, d) (omega (arith, f.some_figure)))
