-- Laws of specs/Signed.antt: sign and magnitude, a word written and read back. Assumes nothing.
use Rattle.std.proofs.Common.{Option, Some, None, ℕ, suc, ◌+◌, ◌≤◌, ◌<◌, ◌≡◌, refl, ap, ◌∙◌, Bool, true, false, not, List, [], ◌∷◌, ◌++◌, append_assoc, arith, add-one, ltb, length, get_or, set, take, drop, take-suc-set, drop-set-lt, le-leb, leb-true, ne_eqb, lt-ltb, le-ltb}
use Rattle.std.proofs.Math.Decide.{dec_le}
use Rattle.std.proofs.lemmas.Bool.{lt-leb}
use Rattle.wire.specs.Choose.{choose}
use Rattle.wire.specs.Word.{word_values, minus}
use Rattle.wire.specs.Buffer.{put}
use Rattle.wire.proofs.Cases.{yes as first, no as second}
use Rattle.figures.specs.Figure.{zero_char, decimal, char_of, all_figures}
use Rattle.figures.specs.Decimal.{digits, size_of, size_within, shortest, value_from, value_of, no_value, read_from, read_of}
use Rattle.figures.specs.Signed.{half, minus_char, is_negative, magnitude, with_sign, longest_text, text_of, figures_of, parsed_of}
use Rattle.figures.proofs.Decimals.{shortest_figures, size_positive, size_at_most, shortest_length, value_shortest, shortest_first, shortest_figure}

-- a negative word is at least half of all words
pub negative_at_least : (w : ℕ) → is_negative w ≡ true → half ≤ w
unfolding is_negative
negative_at_least w h = leb-true half w h

-- and a word that is, is negative
negative : (w : ℕ) → half ≤ w → is_negative w ≡ true
unfolding is_negative
negative w h = le-leb half w h

-- a word below half of all words is not
positive : (w : ℕ) → w < half → is_negative w ≡ false
unfolding is_negative
positive w h = lt-leb half w h

-- the magnitude of a negative word
pub magnitude_negative : (w : ℕ) → half ≤ w → magnitude w ≡ minus w
unfolding magnitude choose
magnitude_negative w h = simp (negative w h)

-- the magnitude of any other word is the word
pub magnitude_positive : (w : ℕ) → w < half → magnitude w ≡ w
unfolding magnitude choose
magnitude_positive w h = simp (positive w h)

-- a magnitude is at most half of all words
pub magnitude_at_most : (w : ℕ) → magnitude w ≤ half
magnitude_at_most w = by (dec_le half w)
  where
    by : Dec (half ≤ w) → magnitude w ≤ half
    by (yes h) = omega (arith, magnitude_negative w h)
    by (no h) = omega (arith, magnitude_positive w (omega arith))

-- sign and magnitude of a word give the word
pub sign_magnitude : (w : ℕ) → w < word_values → with_sign (is_negative w) (magnitude w) ≡ w
unfolding with_sign choose
sign_magnitude w l = by (dec_le half w)
  where
    by : Dec (half ≤ w) → with_sign (is_negative w) (magnitude w) ≡ w
    by (yes h) = simp (negative w h, magnitude_negative w h, ne_eqb (minus w) 0 (λ e. omega arith)) (omega arith)
    by (no h) = simp (positive w (omega arith), magnitude_positive w (omega arith))

-- one element stored before a list that is put after it
pub put_before : (d : List ℕ) (at x : ℕ) (s : List ℕ) → at < length d → put (set d at x) (at + 1) s ≡ put d at (x ∷ s)
unfolding put
put_before d at x s h =
    let e : at + suc (length s) ≡ suc at + length s = omega arith in
    rw (add-one, take-suc-set d at x h, drop-set-lt (suc at + length s) d at x (omega arith), e) (append_assoc (take at d) (x ∷ []) (s ++ drop (suc at + length s) d))

-- the text of a negative word
pub text_negative : (w : ℕ) → is_negative w ≡ true → text_of w ≡ minus_char ∷ shortest (magnitude w)
unfolding text_of choose
text_negative w h = simp h

-- the text of any other word
pub text_positive : (w : ℕ) → is_negative w ≡ false → text_of w ≡ shortest (magnitude w)
unfolding text_of choose
text_positive w h = simp h

-- a minus stored, and the figures put after it
pub put_negative : (d : List ℕ) (at w : ℕ) → at < length d → is_negative w ≡ true
    → put (set d at minus_char) (at + 1) (digits (size_of (magnitude w)) (magnitude w)) ≡ put d at (text_of w)
unfolding shortest
put_negative d at w l h = rw (text_negative w h) (put_before d at minus_char (shortest (magnitude w)) l)

-- the figures put without a sign
pub put_positive : (d : List ℕ) (at w : ℕ) → is_negative w ≡ false → put d at (digits (size_of (magnitude w)) (magnitude w)) ≡ put d at (text_of w)
unfolding shortest
put_positive d at w h = rw (text_positive w h)

-- zero is one 0
pub text_zero : text_of 0 ≡ zero_char ∷ []
unfolding text_of choose is_negative magnitude shortest size_of size_within digits char_of
text_zero = refl

-- the text of a word has at least one character and at most `longest_text`
pub text_length : (w : ℕ) → (0 < length (text_of w)) × (length (text_of w) ≤ longest_text)
text_length w = by (is_negative w) refl
  where
    by : (t : Bool) → is_negative w ≡ t → (0 < length (text_of w)) × (length (text_of w) ≤ longest_text)
    by true h = rw (text_negative w h) (omega (arith, shortest_length (magnitude w), size_at_most 9 (magnitude w) (omega (arith, magnitude_at_most w))))
    by false h = rw (text_positive w h) (omega (arith, shortest_length (magnitude w), size_positive (magnitude w), size_at_most 9 (magnitude w) (omega (arith, magnitude_at_most w))))

-- a text that begins with a minus is of a negative number, so never of zero
pub text_minus : (w : ℕ) → get_or (text_of w) 0 0 ≡ minus_char → half ≤ w
text_minus w e = by (is_negative w) refl
  where
    by : (t : Bool) → is_negative w ≡ t → half ≤ w
    by true h = negative_at_least w h
    by false h =
        let f : get_or (shortest (magnitude w)) 0 0 ≡ minus_char = rw (text_positive w h) at e in
        let n : ⊥ = omega (arith, f, shortest_figure (magnitude w)) in
        absurd n

-- the first figure, after the minus where there is one, is not 0, unless the number is
pub text_first : (w : ℕ) → 0 < w → w < word_values → get_or (text_of w) (choose (is_negative w) 1 0) 0 ≡ zero_char → ⊥
unfolding choose
text_first w p l e = by (dec_le half w)
  where
    by : Dec (half ≤ w) → ⊥
    by (yes h) =
        let f : get_or (shortest (magnitude w)) 0 0 ≡ zero_char = simp (text_negative w (negative w h), negative w h) at e in
        shortest_first (magnitude w) (omega (arith, magnitude_negative w h)) f
    by (no h) =
        let f : get_or (shortest (magnitude w)) 0 0 ≡ zero_char = simp (text_positive w (positive w (omega arith)), positive w (omega arith)) at e in
        shortest_first (magnitude w) (omega (arith, magnitude_positive w (omega arith))) f

-- characters that are read as more than the bound are refused: as no number, or as one beyond it
pub beyond_refused : (bound : ℕ) (s : List ℕ) (other : Option ℕ) → bound < read_of s
    → None ≡ choose (not (all_figures decimal s)) None (choose (ltb bound (value_of s)) None other)
unfolding read_of read_from value_of
beyond_refused bound s other h = by (all_figures decimal s) refl
  where
    by : (t : Bool) → all_figures decimal s ≡ t → None ≡ choose (not (all_figures decimal s)) None (choose (ltb bound (value_from 0 s)) None other)
    by true e =
        let r : value_from 0 s ≡ choose (all_figures decimal s) (value_from 0 s) no_value = first _ _ _ _ e refl in
        second _ _ _ _ (ap not e) (first _ _ _ _ (lt-ltb bound (value_from 0 s) (omega (arith, r, h))) refl)
    by false e = first _ _ _ _ (ap not e) refl

-- a number's shortest decimal is read as the number, with the sign given
figures_shortest : (bound : ℕ) (s : Bool) (n : ℕ) → n ≤ bound → figures_of bound s (shortest n) ≡ Some (with_sign s n)
unfolding figures_of choose
figures_shortest bound s n h =
    let l : length (shortest n) ≡ 0 → ⊥ = λ e. omega (arith, shortest_length n, size_positive n) in
    let f : all_figures decimal (shortest n) ≡ true = shortest_figures n in
    simp (ne_eqb (length (shortest n)) 0 l, f, value_shortest n, le-ltb bound n h)

-- a word's text is read as the word, under every bound that its magnitude keeps
pub parse_text : (bound w : ℕ) → w < word_values → magnitude w ≤ bound → parsed_of bound (text_of w) ≡ Some w
unfolding parsed_of choose
parse_text bound w l b = by (is_negative w) refl
  where
    by : (t : Bool) → is_negative w ≡ t → parsed_of bound (text_of w) ≡ Some w
    by true h =
        let v : with_sign true (magnitude w) ≡ w = rw h at (sign_magnitude w l) in
        simp (text_negative w h, ne_eqb (suc (length (shortest (magnitude w)))) 0 (λ e. omega arith)) (figures_shortest bound true (magnitude w) b ∙ ap Some v)
    by false h =
        let v : with_sign false (magnitude w) ≡ w = rw h at (sign_magnitude w l) in
        let n : length (shortest (magnitude w)) ≡ 0 → ⊥ = λ e. omega (arith, shortest_length (magnitude w), size_positive (magnitude w)) in
        let m : get_or (shortest (magnitude w)) 0 0 ≡ minus_char → ⊥ = λ e. omega (arith, e, shortest_figure (magnitude w)) in
        simp (text_positive w h, ne_eqb (length (shortest (magnitude w))) 0 n, ne_eqb (get_or (shortest (magnitude w)) 0 0) minus_char m) (figures_shortest bound false (magnitude w) b ∙ ap Some v)
