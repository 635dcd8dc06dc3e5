-- Love's receiver hands over every frame that is taken. Assumes nothing.
use Rattle.std.proofs.Common.{◌≡◌, refl, sym, ap, ◌∙◌, subst, true, false, not, List, [], ◌∷◌, ◌++◌, ℕ, zero, suc, ◌+◌, ◌-◌, ◌/◌, ◌≤◌, ◌<◌, arith, eqb-true, ne_eqb, eqb, length, get_or, length-append, Err}
use native.Mathlib.Decide.{dec_lt}
use lib.ListN.{get_or-append}
use lib.Seq.{get_or-append_seam}
use Rattle.wire.specs.Buffer.{part}
use Rattle.wire.specs.Sum.{sum_of}
use Rattle.wire.proofs.Cases.{passed}
use Rattle.wire.proofs.Lengths.{between_facts}
use Rattle.wire.proofs.Tests.{and_true}
use Rattle.receiver.specs.Step.{among}
use Rattle.receiver.specs.Line.{Whole}
use Rattle.receiver.proofs.Reach.{snoc}
use Rattle.figures.specs.Figure.{upper_hex, hex, no_byte, all_figures, pair_byte, zero_char}
use Rattle.figures.proofs.Characters.{pair_figures, all_above, part_above}
use Rattle.card.specs.Fitness.{love_hundred}
use Rattle.card.specs.Numbers.{foreign_address, frame_form, check_character}
use Rattle.love.specs.Form.{shortest, longest, stx, etx, filter_at, address_at, data_at, tail, letters, filter_of, checksum_error, illegal_character}
use Rattle.love.specs.Frame.{data_of, for_unit, checksum_right, asked}
use Rattle.love.specs.Receiver.{step}
use Rattle.love.specs.declared.frame.Refusal.TheVariants.{Silent, Refused}
use Rattle.love.proofs.Receiver.{whole_plain}

-- a byte that stands at no place of a list is not among it
not_among : (y : ℕ) (p : List ℕ) → ((i : ℕ) → i < length p → get_or p i 0 ≡ y → ⊥) → among y p ≡ false
unfolding among
not_among y [] h = refl
not_among y (b ∷ p) h = rw (ne_eqb b y (h 0 (omega arith))) (not_among y p (λ i l. h (suc i) (omega arith)))

-- what is known of a frame that is taken
record Taken (address : ℕ) (f : List ℕ) : Type 0 where
  long : (shortest ≤ length f) × (length f ≤ longest)
  first : eqb (get_or f 0 0) stx ≡ true
  last : eqb (get_or f (length f - 1) 0) etx ≡ true
  addressed : all_figures upper_hex (part f address_at data_at) ≡ true
  own : for_unit address f ≡ true
  summed : checksum_right f ≡ true
  figured : all_figures hex (data_of f) ≡ true

-- a byte that is neither STX nor ETX
abbrev Plain : ℕ → Type 0
Plain b = (b ≡ stx → ⊥) × (b ≡ etx → ⊥)

letter_plain : (k : ℕ) → Plain (get_or letters k 0)
letter_plain zero = (λ e. omega arith, λ e. omega arith)
letter_plain (suc zero) = (λ e. omega arith, λ e. omega arith)
letter_plain (suc (suc zero)) = (λ e. omega arith, λ e. omega arith)
letter_plain (suc (suc (suc zero))) = (λ e. omega arith, λ e. omega arith)
letter_plain (suc (suc (suc (suc k)))) = (λ e. omega arith, λ e. omega arith)

above : (b : ℕ) → zero_char ≤ b → Plain b
above b h = (λ e. omega arith, λ e. omega arith)

module _ (address : ℕ) (f : List ℕ) (k : Taken address f) where
  filter_plain : Plain (get_or f filter_at 0)
  unfolding for_unit
  filter_plain = let e = eqb-true (get_or f filter_at 0) (filter_of address) (and_true (eqb (get_or f filter_at 0) (filter_of address)) _ k.own).0 in rw e (letter_plain (address / love_hundred))

  -- the two checksum figures
  sum_figures : all_figures upper_hex (get_or f (length f - tail) 0 ∷ get_or f (length f - tail + 1) 0 ∷ []) ≡ true
  unfolding checksum_right sum_of
  sum_figures =
      let pair = pair_byte upper_hex (get_or f (length f - tail) 0) (get_or f (length f - tail + 1) 0) in
      let s = eqb-true pair (sum_of (part f address_at (length f - tail))) k.summed in
      let some : pair ≡ no_byte → ⊥ = λ e. omega (arith, s) in
      pair_figures upper_hex (get_or f (length f - tail) 0) (get_or f (length f - tail + 1) 0) ∙ ap not (ne_eqb pair no_byte some)

  sum_plain : (i : ℕ) → length f - tail ≤ i → i < length f - 1 → Plain (get_or f i 0)
  sum_plain i l u = by (dec_lt i (length f - tail + 1))
    where
      figure_at : (j : ℕ) → j < 2 → zero_char ≤ get_or (get_or f (length f - tail) 0 ∷ get_or f (length f - tail + 1) 0 ∷ []) j 0
      figure_at j h = all_above upper_hex _ (omega arith) sum_figures j h

      by : Dec (i < length f - tail + 1) → Plain (get_or f i 0)
      by (yes c) = let e : i ≡ length f - tail = omega arith in above (get_or f i 0) (rw e (figure_at 0 (omega arith)))
      by (no c) = let n = k.long.0 in let e : i ≡ length f - tail + 1 = omega arith in above (get_or f i 0) (rw e (figure_at 1 (omega arith)))

  inner_plain : (i : ℕ) → 0 < i → i < length f - 1 → Plain (get_or f i 0)
  inner_plain i l u = by (dec_lt i address_at) (dec_lt i data_at) (dec_lt i (length f - tail))
    where
      by : Dec (i < address_at) → Dec (i < data_at) → Dec (i < length f - tail) → Plain (get_or f i 0)
      by (yes a) b c = let e : i ≡ filter_at = omega arith in rw e filter_plain
      by (no a) (yes b) c = let n = k.long.0 in above (get_or f i 0) (part_above upper_hex f address_at data_at i (omega arith) k.addressed (omega arith) b (omega arith))
      by (no a) (no b) (yes c) = above (get_or f i 0) (part_above hex f data_at (length f - tail) i (omega arith) k.figured (omega arith) c (omega arith))
      by (no a) (no b) (no c) = sum_plain i (omega arith) u

whole_taken : (address : ℕ) (f : List ℕ) → Taken address f → Whole step f
whole_taken address [] k = let n = k.long.0 in let z : ⊥ = omega arith in absurd z
whole_taken address (x ∷ r) k =
    let n = k.long.0 in
    let (p, b, e) = snoc r (omega arith) in
    subst (λ (l : List ℕ). Whole step (x ∷ l)) (sym e) (by p b (subst (λ (l : List ℕ). Taken address (x ∷ l)) e k))
  where
    by : (p : List ℕ) (b : ℕ) → Taken address (x ∷ (p ++ (b ∷ []))) → Whole step (x ∷ (p ++ (b ∷ [])))
    by p b k =
        let f = x ∷ (p ++ (b ∷ [])) in
        let m : length f ≡ length p + 2 = let n = length-append p (b ∷ []) in omega arith in
        let at : length (x ∷ p) ≡ length f - 1 = omega arith in
        let end : b ≡ etx = sym (get_or-append_seam (x ∷ p) b [] 0) ∙ ap (λ (i : ℕ). get_or f i 0) at ∙ eqb-true (get_or f (length f - 1) 0) etx k.last in
        let plain : (i : ℕ) → i < length p → Plain (get_or p i 0) = λ i l. subst Plain (get_or-append p (b ∷ []) 0 i l) (inner_plain address f k (suc i) (omega arith) (omega arith)) in
        subst (λ (y : ℕ). Whole step (x ∷ (p ++ (y ∷ [])))) (sym end)
        (whole_plain x p k.first (not_among stx p (λ i l. (plain i l).0)) (not_among etx p (λ i l. (plain i l).1)) (omega (arith, m, k.long.1)))

-- every frame that Love carries out
pub whole_asked : (address : ℕ) (f : List ℕ) → ((n : ℕ) → asked address f ≡ Err (Silent n) → ⊥) → ((n code : ℕ) → asked address f ≡ Err (Refused n code) → ⊥) → Whole step f
unfolding asked
whole_asked address f u r =
    let a = passed _ _ _ (u frame_form) in
    let b = passed _ _ _ (λ e. u frame_form (a.1 ∙ e)) in
    let b' = a.1 ∙ b.1 in
    let c = passed _ _ _ (λ e. u frame_form (b' ∙ e)) in
    let c' = b' ∙ c.1 in
    let d = passed _ _ _ (λ e. u frame_form (c' ∙ e)) in
    let d' = c' ∙ d.1 in
    let g = passed _ _ _ (λ e. u foreign_address (d' ∙ e)) in
    let g' = d' ∙ g.1 in
    let h = passed _ _ _ (λ e. r check_character checksum_error (g' ∙ e)) in
    let h' = g' ∙ h.1 in
    let i = passed _ _ _ (λ e. r frame_form illegal_character (h' ∙ e)) in
    whole_taken address f (record { long = between_facts shortest longest (length f) a.0; first = b.0; last = c.0; addressed = d.0; own = g.0; summed = h.0; figured = i.0 })
