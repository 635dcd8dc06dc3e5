-- What is known of a frame: bounds of its places, and that what it asks is sound. Assumes nothing.
use Rattle.std.proofs.Common.{Option, Some, None, Result, Ok, Err, ◌≡◌, ℕ, ◌+◌, ◌<◌, ◌≤◌, Bool, true, false, ◌&&◌, eqb, ltb, leb, List, [], ◌∷◌, ◌++◌, length, bit_xor, refl, arith, ltb-true, eqb-true, leb-true}
use Prim.{tt}
use Rattle.wire.specs.Choose.{choose}
use Rattle.wire.specs.Word.{minus}
use Rattle.wire.proofs.Tests.{and_true}
use Rattle.wire.proofs.Cases.{by_choice, no}
use Rattle.figures.specs.Figure.{decimal, figure_of, all_figures}
use Rattle.card.specs.Numbers.{frame_form, check_character, range_unknown, value_outside, read_only}
use Rattle.card.specs.Fitness.{in_span, register_most}
use Rattle.lecom.specs.Form.{length_right, start_at, standard_hex, extended_hex, data_least, data_most, closing, last_register, first_probe, last_probe, activate, store, named_by}
use Rattle.lecom.specs.Frame.{figures_right, tens_in, ones_in, is_write, code_at, is_extended, hex_at, code_end, size_right, end_right, xor_from, code_number, subcode_right, named_in, data_of, data_read, value_in, ordering, ordered, asked}
use Rattle.lecom.specs.Stages.{Has, Sound, order_here}
use Rattle.lecom.specs.declared.frame.Order.{Order}
use Rattle.lecom.specs.declared.frame.Order.TheVariants.{Read, Write}
use Rattle.lecom.specs.declared.frame.Refusal.{Refusal}
use Rattle.lecom.specs.declared.frame.Refusal.TheVariants.{Silent, Refused}
use Rattle.lecom.specs.declared.form.Named.{Named}
use Rattle.lecom.proofs.Values.{RangedIn, parsed_ranged}

-- Places

-- the places of a frame's code, in order
pub record Bounds (f : List ℕ) : Type 0 where
  pub code_at_law : code_at f ≤ start_at + 1
  pub hex_at_law : (code_at f ≤ hex_at f) × (hex_at f ≤ code_at f + 1)
  pub code_end_law : (hex_at f + standard_hex ≤ code_end f) × (code_end f ≤ hex_at f + extended_hex)

pub bounds : (f : List ℕ) → Bounds f
unfolding code_at hex_at code_end
bounds f =
    record {
      code_at_law = by_choice (λ (n : ℕ). n ≤ start_at + 1) (is_write f) _ _ (λ _. omega arith) (λ _. omega arith);
      hex_at_law = by_choice (λ (n : ℕ). (code_at f ≤ n) × (n ≤ code_at f + 1)) (is_extended f) _ _ (λ _. omega arith) (λ _. omega arith);
      code_end_law = by_choice (λ (n : ℕ). (hex_at f + standard_hex ≤ n) × (n ≤ hex_at f + extended_hex)) (is_extended f) _ _ (λ _. omega arith) (λ _. omega arith);
    }

-- an extended code has six hex characters
pub extended_end : (f : List ℕ) → is_extended f ≡ true → code_end f ≡ hex_at f + extended_hex
unfolding code_end choose
extended_end f h = rw h

-- where the code of a read and of a write begins
pub read_start : (f : List ℕ) → is_write f ≡ false → code_at f ≡ start_at
unfolding code_at choose
read_start f h = rw h

pub write_start : (f : List ℕ) → is_write f ≡ true → code_at f ≡ start_at + 1
unfolding code_at choose
write_start f h = rw h

-- where an extended and a standard code end
pub extended_code : (f : List ℕ) → is_extended f ≡ true → code_end f ≡ code_at f + 1 + extended_hex
unfolding code_end hex_at choose
extended_code f h = rw h

pub standard_code : (f : List ℕ) → is_extended f ≡ false → code_end f ≡ code_at f + standard_hex
unfolding code_end hex_at choose
standard_code f h = rw h

-- where a standard code's hex characters begin
pub standard_hex_law : (f : List ℕ) → is_extended f ≡ false → hex_at f ≡ code_at f
unfolding hex_at choose
standard_hex_law f h = rw h

-- a frame of the right size holds its whole code
pub size_holds : (f : List ℕ) → size_right f ≡ true → code_end f + 1 ≤ length f
unfolding size_right
size_holds f =
    by_choice (λ (t : Bool). t ≡ true → code_end f + 1 ≤ length f) (is_write f) _ _
    (λ _ h. omega (arith, leb-true (code_end f + data_least + closing) (length f) (and_true (leb (code_end f + data_least + closing) (length f)) _ h).0))
    (λ _ h. omega (arith, eqb-true (length f) (code_end f + 1) h))

-- a write of the right size has its data between code and ETX
pub write_holds : (f : List ℕ) → is_write f ≡ true → size_right f ≡ true → (code_end f + data_least + closing ≤ length f) × (length f ≤ code_end f + data_most + closing)
unfolding size_right choose
write_holds f w h =
    let k : (leb (code_end f + data_least + closing) (length f) && leb (length f) (code_end f + data_most + closing)) ≡ true = rw w at h in
    let b = and_true (leb (code_end f + data_least + closing) (length f)) (leb (length f) (code_end f + data_most + closing)) k in
    (leb-true (code_end f + data_least + closing) (length f) b.0, leb-true (length f) (code_end f + data_most + closing) b.1)

-- address figures are below ten
pub figures_small : (f : List ℕ) → 3 ≤ length f → figures_right f ≡ true → (tens_in f < decimal) × (ones_in f < decimal)
unfolding figures_right all_figures tens_in ones_in
figures_small [] l h = let z : ⊥ = omega arith in absurd z
figures_small (a ∷ []) l h = let z : ⊥ = omega arith in absurd z
figures_small (a ∷ b ∷ []) l h = let z : ⊥ = omega arith in absurd z
figures_small (a ∷ b ∷ c ∷ r) l h =
    let x = and_true (ltb (figure_of b) decimal) _ h in
    let y = and_true (ltb (figure_of c) decimal) true x.1 in
    (ltb-true (figure_of b) decimal x.0, ltb-true (figure_of c) decimal y.0)

-- one byte more of a block check character
pub xor_push : (x : ℕ) (s : List ℕ) (b : ℕ) → xor_from x (s ++ (b ∷ [])) ≡ bit_xor (xor_from x s) b
unfolding xor_from
xor_push x [] b = refl
xor_push x (a ∷ s) b = xor_push (bit_xor x a) s b

-- What is named

pub named_has : (code : ℕ) → Has (named_by code)
unfolding named_by
named_has code =
    by_choice Has (leb code last_register) _ _ (λ h. omega (arith, leb-true code last_register h))
    (λ _. by_choice Has (leb first_probe code && leb code last_probe) _ _
    (λ h. omega (arith, leb-true code last_probe (and_true (leb first_probe code) (leb code last_probe) h).1))
    (λ _. by_choice Has (eqb code activate) _ _ (λ _. tt) (λ _. by_choice Has (eqb code store) _ _ (λ _. tt) (λ _. tt))))

frame_has : (f : List ℕ) → Has (named_in f)
unfolding named_in
frame_has f = by_choice Has (subcode_right f) _ _ (λ _. named_has (code_number f)) (λ _. tt)

-- What is written

-- the value of a write's data is in range; so is the 0 that stands for none
value_range : (p : Option ℕ) → RangedIn p → in_span (minus register_most) register_most (value_in p) ≡ true
unfolding value_in in_span choose
value_range None h = refl
value_range (Some value) h = (h value refl).within

data_range : (f : List ℕ) → in_span (minus register_most) register_most (value_in (data_read f)) ≡ true
unfolding data_read
data_range f = value_range (data_read f) (parsed_ranged (data_of f))

-- What is asked

module _ (f : List ℕ) where
  or_silent : (t : Bool) (o : Result Order Refusal) (number : ℕ) → (t ≡ true → Sound f o) → Sound f (choose t o (Err (Silent number)))
  or_silent t o number h = by_choice (Sound f) t o (Err (Silent number)) h (λ _. tt)

  or_refused : (t : Bool) (o : Result Order Refusal) (number : ℕ) → (number ≡ range_unknown → code_end f ≤ length f) → (t ≡ true → Sound f o) → Sound f (choose t o (Err (Refused number)))
  or_refused t o number k h = by_choice (Sound f) t o (Err (Refused number)) h (λ _. k)

  ordered_sound : code_end f ≤ length f → (named : Option Named) → Has named
      → Sound f (ordering (λ (n : Named). choose (is_write f) (Write n (value_in (data_read f))) (Read n)) named)
  ordered_sound k None h = λ _. k
  ordered_sound k (Some named) h = by_choice (λ (o : Order). Sound f (Ok o)) (is_write f) _ _ (λ _. (h, data_range f)) (λ _. (k, h))

  here_sound : Sound f (order_here f)
  unfolding order_here ordered
  here_sound =
      or_refused (size_right f) _ frame_form (λ e. omega arith)
      (λ s.
      let k : code_end f ≤ length f = omega (arith, size_holds f s) in
      or_refused _ _ frame_form (λ e. omega arith)
      (λ _. or_refused _ _ frame_form (λ e. omega arith)
      (λ _. or_refused _ _ check_character (λ e. omega arith)
      (λ _. or_refused _ _ range_unknown (λ e. k)
      (λ _. or_refused _ _ read_only (λ e. omega arith)
      (λ _. or_refused _ _ value_outside (λ e. omega arith)
      (λ _. ordered_sound k (named_in f) (frame_has f))))))))

  pub asked_sound : (address : ℕ) → Sound f (asked address f)
  unfolding asked order_here
  asked_sound address =
      or_silent (length_right (length f)) _ _ (λ _. or_silent _ _ _ (λ _. or_silent _ _ _ (λ _. or_silent _ _ _ (λ _. here_sound))))

-- a frame of another length asks nothing, with no byte sent
pub other_length : (address : ℕ) (f : List ℕ) → length_right (length f) ≡ false → Err (Silent frame_form) ≡ asked address f
unfolding asked
other_length address f h = no _ _ _ _ h refl

-- a frame of a wrong size or end is refused for its form
pub wrong_size_or_end : (f : List ℕ) → (size_right f && end_right f) ≡ false → Err (Refused frame_form) ≡ order_here f
unfolding order_here
wrong_size_or_end f h = by_choice (λ (o : Result Order Refusal). Err (Refused frame_form) ≡ o) (size_right f) _ _ (λ s. no _ _ _ _ (rw s at h) refl) (λ _. refl)
