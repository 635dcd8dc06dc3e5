-- What a unit makes of a read is told by the characters of its code, whatever the unit's address. Assumes nothing.
use Rattle.std.proofs.Common.{Option, Some, None, Err, ◌≡◌, ℕ, ◌+◌, ◌/◌, ◌%◌, ◌≤◌, Bool, true, false, not, ◌&&◌, ◌||◌, eqb, List, [], ◌∷◌, length, sym, refl, ◌∙◌, arith, eq-eqb, eqb-true}
use Rattle.wire.specs.Choose.{choose}
use Rattle.wire.specs.Length.{between}
use Rattle.wire.proofs.Cases.{by_choice}
use Rattle.wire.proofs.Tests.{or_true_right, not_or}
use Rattle.figures.specs.Figure.{decimal, upper_hex, no_byte, figure_of, char_of, all_figures, pair_byte}
use Rattle.figures.proofs.Characters.{pair_figures, all_append}
use Rattle.card.specs.Numbers.{frame_form, range_unknown}
use Rattle.card.specs.Fitness.{lecom_most}
use Rattle.lecom.specs.Form.{length_right, stx, eot, extended_mark, standard_hex, extended_hex, known}
use Rattle.lecom.specs.Frame.{collective, reaches, is_write, code_at, is_extended, hex_at, code_end, size_right, end_right, code_right, bcc_right, pair_in, quad_in, code_number, subcode_right, named_in, code_known, write_right, data_right, ordering, ordered, asked}
use Rattle.lecom.specs.Stages.{order_here}
use Rattle.lecom.specs.declared.form.Named.{Named}
use Rattle.lecom.specs.declared.frame.Order.TheVariants.{Read}
use Rattle.lecom.specs.declared.frame.Refusal.TheVariants.{Refused}
use Rattle.lecom_master.specs.Heard.{read_of, is_unknown}
use Rattle.lecom_master.specs.Stages.{code_refused, standard_unknown, extended_unknown}
use Rattle.lecom_master.proofs.Requests.{figures_right_law, tens, ones}

-- a test that must not hold
unless_and : (t b : Bool) → choose t false b ≡ (not t && b)
unfolding choose
unless_and true b = refl
unless_and false b = refl

-- six characters are hex exactly if each pair of them is a byte
hex_pairs : (a b c d e g : ℕ) → all_figures upper_hex (a ∷ b ∷ c ∷ d ∷ e ∷ g ∷ [])
    ≡ not (eqb (pair_byte upper_hex a b) no_byte || (eqb (pair_byte upper_hex c d) no_byte || eqb (pair_byte upper_hex e g) no_byte))
hex_pairs a b c d e g =
    let p = eqb (pair_byte upper_hex a b) no_byte in
    let q = eqb (pair_byte upper_hex c d) no_byte in
    let r = eqb (pair_byte upper_hex e g) no_byte in
    all_append upper_hex (a ∷ b ∷ []) (c ∷ d ∷ e ∷ g ∷ [])
    ∙ rw (all_append upper_hex (c ∷ d ∷ []) (e ∷ g ∷ []), pair_figures upper_hex a b, pair_figures upper_hex c d, pair_figures upper_hex e g, not_or p (q || r), not_or q r)

-- a code with another subcode names nothing
other_subcode : (s : Bool) (named : Option Named) → choose s (not (known named)) true ≡ not (known (choose s named None))
unfolding choose
other_subcode true named = refl
other_subcode false named = refl

-- a read that reached the unit is refused for its code exactly if its layout is right and it names nothing
read_here : (f : List ℕ) → is_write f ≡ false → is_unknown (order_here f) ≡ (size_right f && (end_right f && (code_right f && not (code_known f))))
unfolding order_here bcc_right code_known write_right data_right ordered is_unknown choose
read_here f w = rw w (by (size_right f) (end_right f) (code_right f) (named_in f))
  where
    by : (s e c : Bool) (n : Option Named) → is_unknown (choose s (choose e (choose c (choose (known n) (ordering Read n) (Err (Refused range_unknown))) (Err (Refused frame_form))) (Err (Refused frame_form))) (Err (Refused frame_form))) ≡ (s && (e && (c && not (known n))))
    by false e c n = refl
    by true false c n = refl
    by true true false n = refl
    by true true true None = refl
    by true true true (Some named) = refl

module _ (address : ℕ) (most : address ≤ lecom_most) where
  -- the unit at the address that a frame begins with is reached
  reached : (rest : List ℕ) → reaches address (eot ∷ char_of (address / decimal) ∷ char_of (address % decimal) ∷ rest) ≡ true
  unfolding reaches collective
  reached rest =
      let t = tens address most rest in
      let o = ones address most rest in
      by_choice (λ (b : Bool). b ≡ true) _ _ _
      (λ _. rw (t, eq-eqb (address / decimal) (address / decimal) refl) (or_true_right (eqb (address / decimal) 0)))
      (λ _. eq-eqb _ address (omega arith))

  -- and so a read for it is refused for its code by layout and code alone
  module _ (text : List ℕ) (long : length_right (length (read_of address text)) ≡ true) where
    abbrev f : List ℕ
    f = read_of address text

    asked_here : asked address f ≡ order_here f
    unfolding asked order_here read_of choose
    asked_here = rw (long, figures_right_law address most _, reached _)

    refused_read : is_write f ≡ false → (size_right f && (end_right f && (code_right f && not (code_known f)))) ≡ code_refused address text
    refused_read w = sym (rw (w, asked_here) (read_here f w))

  -- two characters: STX and "!" are no hex characters
  pub standard_refused : (text : List ℕ) → length text ≡ standard_hex → standard_unknown text ≡ code_refused address text
  unfolding standard_unknown read_of between is_write code_at is_extended hex_at code_end size_right end_right code_right pair_in code_number subcode_right named_in code_known figure_of pair_byte choose
  standard_refused [] h = let z : ⊥ = omega arith in absurd z
  standard_refused (a ∷ []) h = let z : ⊥ = omega arith in absurd z
  standard_refused (a ∷ b ∷ []) h = by (eqb a stx) refl (eqb a extended_mark) refl
    where
      by : (w : Bool) → eqb a stx ≡ w → (x : Bool) → eqb a extended_mark ≡ x → standard_unknown (a ∷ b ∷ []) ≡ code_refused address (a ∷ b ∷ [])
      by true w x d = let e : a ≡ stx = eqb-true a stx w in rw e
      by false w true d = let e : a ≡ extended_mark = eqb-true a extended_mark d in rw e (refused_read (extended_mark ∷ b ∷ []) refl refl)
      by false w false d = rw (w, d, pair_figures upper_hex a b) (unless_and (eqb (pair_byte upper_hex a b) no_byte) _) ∙ refused_read (a ∷ b ∷ []) refl w
  standard_refused (a ∷ b ∷ c ∷ r) h = let z : ⊥ = omega arith in absurd z

  -- seven characters: without "!" they are too many
  pub extended_refused : (text : List ℕ) → length text ≡ 1 + extended_hex → extended_unknown text ≡ code_refused address text
  unfolding extended_unknown read_of between is_write code_at is_extended hex_at code_end size_right end_right code_right pair_in quad_in code_number subcode_right named_in code_known choose
  extended_refused [] h = let z : ⊥ = omega arith in absurd z
  extended_refused (x ∷ []) h = let z : ⊥ = omega arith in absurd z
  extended_refused (x ∷ a ∷ []) h = let z : ⊥ = omega arith in absurd z
  extended_refused (x ∷ a ∷ b ∷ []) h = let z : ⊥ = omega arith in absurd z
  extended_refused (x ∷ a ∷ b ∷ c ∷ []) h = let z : ⊥ = omega arith in absurd z
  extended_refused (x ∷ a ∷ b ∷ c ∷ d ∷ []) h = let z : ⊥ = omega arith in absurd z
  extended_refused (x ∷ a ∷ b ∷ c ∷ d ∷ e ∷ []) h = let z : ⊥ = omega arith in absurd z
  extended_refused (x ∷ a ∷ b ∷ c ∷ d ∷ e ∷ g ∷ y ∷ r) h = let z : ⊥ = omega arith in absurd z
  extended_refused (x ∷ a ∷ b ∷ c ∷ d ∷ e ∷ g ∷ []) h = by (eqb x stx) refl (eqb x extended_mark) refl
    where
      by : (w : Bool) → eqb x stx ≡ w → (m : Bool) → eqb x extended_mark ≡ m → extended_unknown (x ∷ a ∷ b ∷ c ∷ d ∷ e ∷ g ∷ []) ≡ code_refused address (x ∷ a ∷ b ∷ c ∷ d ∷ e ∷ g ∷ [])
      by true w m k = let i : x ≡ stx = eqb-true x stx w in rw i
      by false w true k =
          rw (w, k, hex_pairs a b c d e g) (unless_and (eqb (pair_byte upper_hex a b) no_byte || (eqb (pair_byte upper_hex c d) no_byte || eqb (pair_byte upper_hex e g) no_byte)) _ ∙ rw (other_subcode (eqb (pair_byte upper_hex e g) 0) _))
          ∙ refused_read (x ∷ a ∷ b ∷ c ∷ d ∷ e ∷ g ∷ []) refl w
      by false w false k = (rw (w, k)) ∙ refused_read (x ∷ a ∷ b ∷ c ∷ d ∷ e ∷ g ∷ []) refl w
