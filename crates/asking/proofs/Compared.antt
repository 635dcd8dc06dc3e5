-- What a comparison with an answer says. Assumes nothing.
use Rattle.std.proofs.Common.{◌≡◌, ℕ, ◌+◌, ◌-◌, ◌≤◌, false, eqb, List, ◌++◌, length, take, drop, sym, refl, ap, ◌∙◌, arith, take-append-drop, drop-drop, eq-eqb, eqb-true}
use Rattle.wire.specs.Choose.{choose}
use Rattle.wire.specs.Buffer.{put, part, same}
use Rattle.wire.proofs.Buffers.{length_put, length_part, take_put, part_put, drop_put}
use Rattle.wire.proofs.Cases.{yes, by_choice}
use Rattle.wire.proofs.Same.{same_refl, same_true}
use Rattle.wire.proofs.Tests.{and_true, both}
use Rattle.card.specs.Numbers.{done, frame_form, check_character}
use Rattle.asking.specs.Against.{alike, against}

-- a list by what stands before an index, from there to another, and behind
three_parts : (s : List ℕ) (at end : ℕ) → at ≤ end → s ≡ take at s ++ (part s at end ++ drop end s)
three_parts s at end h =
    let e : at + (end - at) ≡ end = omega arith in
    sym (ap (λ (l : List ℕ). take at s ++ l) (ap (λ (n : ℕ). part s at end ++ drop n s) (sym e) ∙ ap (λ (l : List ℕ). part s at end ++ l) (sym (drop-drop (end - at) at s)) ∙ take-append-drop (end - at) (drop at s)) ∙ take-append-drop at s)

module _ (back size : ℕ) (r answer : List ℕ) where
  abbrev at : ℕ
  at = length answer - back

  -- what is known where the comparison does not say 3
  pub record Alike : Type 0 where
    pub long : length r ≡ length answer
    pub before : take at r ≡ take at answer
    pub behind : drop (at + size) r ≡ drop (at + size) answer

  -- the three outcomes
  pub by_against : (P : ℕ → Type 0) → (Alike → part r at (at + size) ≡ part answer at (at + size) → P done)
      → (Alike → same (part r at (at + size)) (part answer at (at + size)) ≡ false → P check_character) → P frame_form → P (against back size r answer)
  unfolding against alike
  by_against P found check other =
      by_choice P (eqb (length r) (length answer)) _ _
      (λ l. by_choice P (alike at (at + size) r answer) _ _
      (λ a.
      let b = and_true (same (take at r) (take at answer)) _ a in
      let k : Alike = record { long = eqb-true _ _ l; before = same_true _ _ b.0; behind = same_true _ _ b.1 } in
      by_choice P (same (part r at (at + size)) (part answer at (at + size))) _ _ (λ s. found k (same_true _ _ s)) (λ s. check k s))
      (λ _. other))
      (λ _. other)

  -- 1: it is the answer
  pub alike_same : Alike → part r at (at + size) ≡ part answer at (at + size) → r ≡ answer
  alike_same k e = three_parts r at (at + size) (omega arith) ∙ (rw (k.before, e, k.behind)) ∙ sym (three_parts answer at (at + size) (omega arith))

  -- 4: with other check characters it is the answer
  pub alike_mended : size ≤ back → back ≤ length answer → Alike → put r (length r - back) (part answer at (at + size)) ≡ answer
  unfolding put
  alike_mended s b k =
      let n : length (part answer at (at + size)) ≡ size = length_part answer at (at + size) (omega arith) (omega arith) ∙ omega arith in
      rw (k.long, n, k.before, k.behind) (sym (three_parts answer at (at + size) (omega arith)))

-- an answer is compared with itself
pub against_same : (back size : ℕ) (answer : List ℕ) → against back size answer answer ≡ done
unfolding against alike choose
against_same back size answer =
    let at = length answer - back in
    rw (eq-eqb (length answer) (length answer) refl, same_refl (take at answer), same_refl (drop (at + size) answer), same_refl (part answer at (at + size)))

-- a reply that other check characters make an answer: 1 or 4
pub against_mended : (back size : ℕ) (r characters : List ℕ) → length characters ≡ size → size ≤ back → back ≤ length r
    → against back size r (put r (length r - back) characters) ≡ choose (same (part r (length r - back) (length r - back + size)) characters) done check_character
unfolding against alike
against_mended back size r characters n s b =
    let at = length r - back in
    let fits : at + length characters ≤ length r = omega (arith, n) in
    let l : length (put r at characters) ≡ length r = length_put r at characters fits in
    let t : take at (put r at characters) ≡ take at r = take_put r at characters fits at (omega arith) in
    let d : drop (at + size) (put r at characters) ≡ drop (at + size) r = drop_put r at characters fits (at + size) (omega (arith, n)) in
    let p : part (put r at characters) at (at + size) ≡ characters = ap (λ (k : ℕ). part (put r at characters) at (at + k)) (sym n) ∙ part_put r at characters fits in
    sym (yes _ _ _ _ (eq-eqb (length r) (length (put r at characters)) (sym l))
    (yes _ _ _ _ (rw (l, t, d) (both (same_refl (take at r)) (same_refl (drop (at + size) r)))) (rw (l, p) refl)))
