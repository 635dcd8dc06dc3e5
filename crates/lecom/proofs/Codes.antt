-- A frame's code, read pair by pair. Assumes nothing.
use Rattle.std.proofs.Common.{Option, None, Result, Ok, Err, ◌≡◌, ℕ, ◌+◌, ◌*◌, ◌≤◌, Bool, true, false, not, ◌&&◌, eqb, List, length, refl, ap, ◌∙◌, ap₂, arith, eq-eqb, ne_eqb}
use Rattle.wire.specs.Choose.{choose}
use Rattle.wire.specs.Buffer.{part}
use Rattle.wire.specs.Sum.{byte_values}
use Rattle.wire.proofs.Cases.{yes, no, by_choice}
use Rattle.card.specs.Numbers.{frame_form}
use Rattle.wire.proofs.Tests.{and_false_right}
use Rattle.figures.specs.Figure.{upper_hex, no_byte, all_figures}
use Rattle.figures.proofs.Characters.{pair_part, all_parts}
use Rattle.lecom.specs.Form.{standard_hex, standard_at, subcode_at, named_by}
use Rattle.lecom.specs.Frame.{is_extended, hex_at, code_end, code_right, pair_in, quad_in, code_number, subcode_right, named_in}
use Rattle.lecom.specs.Stages.{code_read}
use Rattle.lecom.specs.declared.form.Named.{Named}
use Rattle.lecom.specs.declared.frame.Refusal.{Refusal}
use Rattle.lecom.specs.declared.frame.Refusal.TheVariants.{Refused}
use Rattle.lecom.proofs.Frames.{extended_end}

-- what was read of a code
pub coded_wrong : (f : List ℕ) → code_right f ≡ false → Err (Refused frame_form) ≡ code_read f
unfolding code_read
coded_wrong f w = no _ _ _ _ w refl

pub coded_right : (f : List ℕ) (named : Option Named) → code_right f ≡ true → named ≡ named_in f → Ok named ≡ code_read f
unfolding code_read
coded_right f named r e = yes _ _ _ _ r (ap Ok e)

module _ (f : List ℕ) (l : code_end f ≤ length f) where
  -- a code's characters are hex exactly if each pair of them is a byte
  standard_right : is_extended f ≡ false → code_right f ≡ not (eqb (pair_in f (hex_at f)) no_byte)
  unfolding code_right code_end pair_in choose
  standard_right x =
      let e : hex_at f + standard_hex ≤ length f = rw x at l in
      rw x (pair_part upper_hex f (hex_at f) (omega arith))

  extended_right : is_extended f ≡ true
      → code_right f ≡ (not (eqb (pair_in f (hex_at f)) no_byte) && (not (eqb (pair_in f (hex_at f + standard_at)) no_byte) && not (eqb (pair_in f (hex_at f + subcode_at)) no_byte)))
  unfolding code_right pair_in
  extended_right x =
      let h = hex_at f in
      let end = extended_end f x in
      let m : h + standard_at + 2 ≡ h + subcode_at = omega arith in
      let n : code_end f ≡ h + subcode_at + 2 = omega arith in
      let third = ap₂ (λ (a e : ℕ). all_figures upper_hex (part f a e)) m n ∙ pair_part upper_hex f (h + subcode_at) (omega arith) in
      let rest = all_parts upper_hex f (h + standard_at) (h + standard_at + 2) (code_end f) (omega arith) (omega arith) ∙ ap₂ (λ (a b : Bool). a && b) (pair_part upper_hex f (h + standard_at) (omega arith)) third in
      all_parts upper_hex f h (h + 2) (code_end f) (omega arith) (omega arith) ∙ ap₂ (λ (a b : Bool). a && b) (pair_part upper_hex f h (omega arith)) rest

  pub first_wrong : pair_in f (hex_at f) ≡ no_byte → Err (Refused frame_form) ≡ code_read f
  first_wrong e = coded_wrong f (by (is_extended f) refl)
    where
      by : (t : Bool) → is_extended f ≡ t → code_right f ≡ false
      by true x = extended_right x ∙ rw e
      by false x = standard_right x ∙ rw e

  module _ (n : pair_in f (hex_at f) ≡ no_byte → ⊥) where
    pub standard_coded : (named : Option Named) → is_extended f ≡ false → named ≡ named_by (pair_in f (hex_at f)) → Ok named ≡ code_read f
    unfolding named_in subcode_right code_number choose
    standard_coded named x e = coded_right f named (standard_right x ∙ rw (ne_eqb (pair_in f (hex_at f)) no_byte n)) (simp x e)

    module _ (x : is_extended f ≡ true) where
      pub second_wrong : pair_in f (hex_at f + standard_at) ≡ no_byte → Err (Refused frame_form) ≡ code_read f
      second_wrong e = coded_wrong f (extended_right x ∙ rw e (and_false_right (not (eqb (pair_in f (hex_at f)) no_byte))))

      pub subcode_wrong : pair_in f (hex_at f + subcode_at) ≡ no_byte → Err (Refused frame_form) ≡ code_read f
      subcode_wrong e = coded_wrong f (extended_right x ∙ rw (e, and_false_right, and_false_right))

      pub extended_coded : (named : Option Named) → (pair_in f (hex_at f + standard_at) ≡ no_byte → ⊥) → (pair_in f (hex_at f + subcode_at) ≡ no_byte → ⊥) → named ≡ named_in f
          → Ok named ≡ code_read f
      extended_coded named s u e = coded_right f named (extended_right x ∙ rw (ne_eqb (pair_in f (hex_at f)) no_byte n, ne_eqb (pair_in f (hex_at f + standard_at)) no_byte s, ne_eqb (pair_in f (hex_at f + subcode_at)) no_byte u)) e

      pub subcode_named : (pair_in f (hex_at f + subcode_at) ≡ 0 → ⊥) → None ≡ named_in f
      unfolding named_in subcode_right choose
      subcode_named s = simp (x, ne_eqb (pair_in f (hex_at f + subcode_at)) 0 s)

      pub extended_named : pair_in f (hex_at f + subcode_at) ≡ 0 → named_by (byte_values * pair_in f (hex_at f) + pair_in f (hex_at f + standard_at)) ≡ named_in f
      unfolding named_in subcode_right code_number quad_in choose
      extended_named s = simp (x, eq-eqb (pair_in f (hex_at f + subcode_at)) 0 s)

-- what a code is that was read, and one that was not
pub coded : (f : List ℕ) (named : Option Named) → code_read f ≡ Ok named → (code_right f ≡ true) × (named ≡ named_in f)
unfolding code_read
coded f named =
    by_choice (λ (x : Result (Option Named) Refusal). x ≡ Ok named → (code_right f ≡ true) × (named ≡ named_in f)) (code_right f) _ _
    (λ h e. (h, cc))
    (λ _ e. let z : ◌≡◌ {A = ℕ} 0 1 = cc in let n : ⊥ = omega (arith, z) in absurd n)

pub uncoded : (f : List ℕ) (why : Refusal) → code_read f ≡ Err why → (code_right f ≡ false) × (why ≡ Refused frame_form)
unfolding code_read
uncoded f why =
    by_choice (λ (x : Result (Option Named) Refusal). x ≡ Err why → (code_right f ≡ false) × (why ≡ Refused frame_form)) (code_right f) _ _
    (λ _ e. let z : ◌≡◌ {A = ℕ} 0 1 = cc in let n : ⊥ = omega (arith, z) in absurd n)
    (λ h e. (h, cc))
