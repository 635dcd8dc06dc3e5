-- Laws of specs/Figure.antt: figures and their characters, pairs of characters. Assumes nothing.
use Rattle.std.proofs.Common.{ℕ, zero, suc, ◌+◌, ◌-◌, ◌*◌, ◌%◌, ◌≤◌, ◌<◌, ◌≡◌, refl, sym, ap, ◌∙◌, Bool, true, false, ◌&&◌, not, List, [], ◌∷◌, ◌++◌, not-suc-le-zero, add-one, arith, leb, ltb, eqb, length, get_or, drop, drop_of_length-le, drop-cons, ltb-true, le-leb, lt-ltb, le-ltb, ne_eqb}
use Rattle.std.proofs.Math.Bool.{and_assoc, and-false}
use Rattle.std.proofs.Math.Decide.{dec_lt}
use Rattle.std.proofs.lemmas.Bool.{lt-leb}
use Rattle.wire.specs.Choose.{choose}
use Rattle.wire.proofs.Cases.{cases, by_choice}
use Rattle.wire.specs.Buffer.{part}
use Rattle.wire.proofs.Buffers.{part_append, length_part, get_d_part}
use Rattle.wire.proofs.Tests.{and_true, and_true_right, both}
use Rattle.wire.specs.Length.{between}
use Rattle.wire.proofs.Lengths.{between_facts}
use Rattle.figures.specs.Figure.{zero_char, nine_char, upper_a, upper_f, lower_a, lower_f, base, none, no_byte, figure_of, char_of, all_figures, pair_byte}

-- within both bounds
in_range_yes : (lo hi b : ℕ) → lo ≤ b → b ≤ hi → between lo hi b ≡ true
unfolding between
in_range_yes lo hi b l h = rw (le-leb lo b l, le-leb b hi h)

-- above the upper bound
in_range_above : (lo hi b : ℕ) → hi < b → between lo hi b ≡ false
unfolding between
in_range_above lo hi b h = rw (lt-leb b hi h) (and-false (leb lo b))

-- the character of a decimal figure
pub char_decimal : (v : ℕ) → v < 10 → char_of v ≡ 48 + v
unfolding char_of
char_decimal v h = sym (search cases)

-- a value's character is read as the value
pub figure_char : (v : ℕ) → v < 16 → figure_of (char_of v) ≡ v
unfolding figure_of char_of choose
figure_char v h = by (dec_lt v 10)
  where
    by : Dec (v < 10) → figure_of (char_of v) ≡ v
    by (yes d) = simp (lt-ltb v 10 d, in_range_yes 48 57 (48 + v) (omega arith) (omega arith)) (omega arith)
    by (no n) =
        let x = 65 + (v - 10) in
        simp (le-ltb v 10 (omega arith), in_range_above 48 57 x (omega arith), in_range_yes 65 70 x (omega arith) (omega arith)) (omega arith)

-- a figure's character is no control character and no sign
pub char_least : (v : ℕ) → zero_char ≤ char_of v
unfolding char_of
char_least v = by_choice (λ (n : ℕ). zero_char ≤ n) (ltb v 10) _ _ (λ _. omega arith) (λ _. omega arith)

-- the characters of two figures
pub pair_all : (limit a b : ℕ) → a < base → b < base → a < limit → b < limit → all_figures limit (char_of a ∷ char_of b ∷ []) ≡ true
unfolding all_figures
pair_all limit a b ha hb la lb = simp (figure_char a ha, figure_char b hb, lt-ltb a limit la, lt-ltb b limit lb)

-- ok tells of the characters passed: one more, and none left
pub all_next : (limit : ℕ) (ok : Bool) (s : List ℕ) (i : ℕ) → i < length s
    → (ok && all_figures limit (drop i s)) ≡ ((ok && ltb (figure_of (get_or s i 0)) limit) && all_figures limit (drop (suc i) s))
unfolding all_figures
all_next limit ok s i h = rw (drop-cons s i 0 h) (sym (and_assoc ok (ltb (figure_of (get_or s i 0)) limit) (all_figures limit (drop (suc i) s))))

pub all_end : (limit : ℕ) (ok : Bool) (s : List ℕ) (i : ℕ) → length s ≤ i → (ok && all_figures limit (drop i s)) ≡ ok
unfolding all_figures
all_end limit ok s i h = rw (drop_of_length-le s {i = i} h) (and_true_right ok)

-- two lists, one after the other
pub all_append : (limit : ℕ) (s t : List ℕ) → all_figures limit (s ++ t) ≡ (all_figures limit s && all_figures limit t)
unfolding all_figures
all_append limit [] t = refl
all_append limit (x ∷ s) t =
    ap (λ (b : Bool). ltb (figure_of x) limit && b) (all_append limit s t) ∙ sym (and_assoc (ltb (figure_of x) limit) (all_figures limit s) (all_figures limit t))

-- figures below a limit are below a higher one
pub all_below : (low high : ℕ) (s : List ℕ) → low ≤ high → all_figures low s ≡ true → all_figures high s ≡ true
unfolding all_figures
all_below low high [] h t = refl
all_below low high (x ∷ s) h t =
    let b = and_true (ltb (figure_of x) low) (all_figures low s) t in
    both (lt-ltb (figure_of x) high (omega (arith, ltb-true (figure_of x) low b.0))) (all_below low high s h b.1)

-- a pair is a byte, or the mark for none
pub pair_at_most : (limit high low : ℕ) → pair_byte limit high low ≤ no_byte
unfolding pair_byte
pair_at_most limit high low =
    by_choice (λ n. n ≤ no_byte) _ _ _
    (λ _. omega arith)
    (λ _. by_choice (λ n. n ≤ no_byte) _ _ _
    (λ _. omega arith)
    (λ _. omega arith))

-- two characters are figures exactly if they are a byte
pub pair_figures : (limit high low : ℕ) → all_figures limit (high ∷ low ∷ []) ≡ not (eqb (pair_byte limit high low) no_byte)
unfolding all_figures pair_byte choose
pair_figures limit high low = by (dec_lt (figure_of high) limit) (dec_lt (figure_of low) limit)
  where
    by : Dec (figure_of high < limit) → Dec (figure_of low < limit) → all_figures limit (high ∷ low ∷ []) ≡ not (eqb (pair_byte limit high low) no_byte)
    by (yes h) (yes l) =
        simp (lt-ltb (figure_of high) limit h, lt-ltb (figure_of low) limit l, lt-leb limit (figure_of high) h, lt-leb limit (figure_of low) l, ne_eqb (base * (figure_of high % base) + figure_of low % base) no_byte (omega arith))
    by (yes h) (no l) = simp (lt-ltb (figure_of high) limit h, le-ltb (figure_of low) limit (omega arith), lt-leb limit (figure_of high) h, le-leb limit (figure_of low) (omega arith))
    by (no h) _ = simp (le-ltb (figure_of high) limit (omega arith), le-leb limit (figure_of high) (omega arith))

-- the two characters of a list from index i on are figures exactly if they are a byte
pub pair_part : (limit : ℕ) (s : List ℕ) (i : ℕ) → i + 1 < length s → all_figures limit (part s i (i + 2)) ≡ not (eqb (pair_byte limit (get_or s i 0) (get_or s (i + 1) 0)) no_byte)
pair_part limit s i h =
    let two : i + 2 - i ≡ 2 = omega arith in
    rw (two, drop-cons s i 0 (omega arith), drop-cons s (suc i) 0 (omega arith), ← add-one i) (pair_figures limit (get_or s i 0) (get_or s (i + 1) 0))

-- two parts of a list that meet
pub all_parts : (limit : ℕ) (s : List ℕ) (a b e : ℕ) → a ≤ b → b ≤ e → all_figures limit (part s a e) ≡ (all_figures limit (part s a b) && all_figures limit (part s b e))
all_parts limit s a b e h k = ap (all_figures limit) (sym (part_append s a b e h k)) ∙ all_append limit (part s a b) (part s b e)

-- a figure's character is 0 or above it, and so above every control character
pub figure_above : (b limit : ℕ) → limit ≤ none → ltb (figure_of b) limit ≡ true → zero_char ≤ b
unfolding figure_of
figure_above b limit m h =
    by_choice above _ _ _ (λ d _. omega (arith, between_facts zero_char nine_char b d))
    (λ _. by_choice above _ _ _ (λ u _. omega (arith, between_facts upper_a upper_f b u))
    (λ _. by_choice above _ _ _ (λ l _. omega (arith, between_facts lower_a lower_f b l))
    (λ _ l. omega arith)))
    (ltb-true (figure_of b) limit h)
  where
    above : ℕ → Type 0
    above x = x < limit → zero_char ≤ b

pub all_above : (limit : ℕ) (s : List ℕ) → limit ≤ none → all_figures limit s ≡ true → (i : ℕ) → i < length s → zero_char ≤ get_or s i 0
unfolding all_figures
all_above limit [] m h i l = absurd (not-suc-le-zero l)
all_above limit (b ∷ s) m h zero l = figure_above b limit m (and_true (ltb (figure_of b) limit) _ h).0
all_above limit (b ∷ s) m h (suc i) l = all_above limit s m (and_true (ltb (figure_of b) limit) _ h).1 i (omega arith)

-- a character of a part whose characters are figures
pub part_above : (limit : ℕ) (f : List ℕ) (a e i : ℕ) → limit ≤ none → all_figures limit (part f a e) ≡ true → a ≤ i → i < e → e ≤ length f → zero_char ≤ get_or f i 0
part_above limit f a e i m h l u n =
    let s : a + (i - a) ≡ i = omega arith in
    let g : get_or (part f a e) (i - a) 0 ≡ get_or f i 0 = get_d_part f a e (i - a) (omega arith) ∙ ap (λ (x : ℕ). get_or f x 0) s in
    rw g at (all_above limit (part f a e) m h (i - a) (omega (arith, length_part f a e (omega arith) n)))
