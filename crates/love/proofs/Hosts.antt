-- Love frames as a host makes them: what one with given data asks of every unit. For masters. Assumes nothing.
use Rattle.std.proofs.Common.{ℕ, zero, suc, ◌-◌, ◌/◌, ◌%◌, ◌≤◌, ◌<◌, ◌≡◌, refl, sym, ap, ap₂, ◌∙◌, Bool, true, false, ◌&&◌, List, [], ◌∷◌, ◌++◌, arith, le-leb, lt-ltb, eqb-true, eq-eqb, eqb, length, get_or, Result, Err}
use Rattle.wire.specs.Choose.{choose}
use Rattle.wire.specs.Length.{between}
use Rattle.wire.specs.Sum.{byte_values, sum_of}
use Rattle.wire.proofs.Cases.{yes, no}
use Rattle.wire.proofs.Sums.{sum_byte}
use Rattle.wire.proofs.Tests.{and_true, both, same_test}
use Rattle.figures.specs.Figure.{upper_hex, hex, base, char_of, all_figures, pair_byte, pair_of}
use Rattle.figures.proofs.Characters.{figure_char}
use Rattle.figures.proofs.Known.{pair_read}
use Rattle.card.specs.Numbers.{foreign_address, frame_form, check_character}
use Rattle.card.specs.Fitness.{love_hundred, love_address_most}
use Rattle.love.specs.Form.{shortest, longest, stx, etx, letters, filter_of, checksum_error, illegal_character}
use Rattle.love.specs.Frame.{for_unit, checksum_right, asked}
use Rattle.love.specs.Stages.{order_in, order_here}
use Rattle.love.specs.declared.frame.Order.{Order}
use Rattle.love.specs.declared.frame.Refusal.{Refusal}
use Rattle.love.specs.declared.frame.Refusal.TheVariants.{Silent, Refused}
use Rattle.love.proofs.Passes.{Formed, asked_formed, framed, framed_length, framed_last, framed_high, framed_low, framed_data, framed_summed}

-- the four letters are four: a filter tells the hundreds
letters_apart : (i j : ℕ) → i < 4 → get_or letters i 0 ≡ get_or letters j 0 → i ≡ j
letters_apart zero zero h e = refl
letters_apart zero (suc zero) h e = let z : ⊥ = omega (arith, e) in absurd z
letters_apart zero (suc (suc zero)) h e = let z : ⊥ = omega (arith, e) in absurd z
letters_apart zero (suc (suc (suc zero))) h e = let z : ⊥ = omega (arith, e) in absurd z
letters_apart zero (suc (suc (suc (suc j)))) h e = let z : ⊥ = omega (arith, e) in absurd z
letters_apart (suc zero) zero h e = let z : ⊥ = omega (arith, e) in absurd z
letters_apart (suc zero) (suc zero) h e = refl
letters_apart (suc zero) (suc (suc zero)) h e = let z : ⊥ = omega (arith, e) in absurd z
letters_apart (suc zero) (suc (suc (suc zero))) h e = let z : ⊥ = omega (arith, e) in absurd z
letters_apart (suc zero) (suc (suc (suc (suc j)))) h e = let z : ⊥ = omega (arith, e) in absurd z
letters_apart (suc (suc zero)) zero h e = let z : ⊥ = omega (arith, e) in absurd z
letters_apart (suc (suc zero)) (suc zero) h e = let z : ⊥ = omega (arith, e) in absurd z
letters_apart (suc (suc zero)) (suc (suc zero)) h e = refl
letters_apart (suc (suc zero)) (suc (suc (suc zero))) h e = let z : ⊥ = omega (arith, e) in absurd z
letters_apart (suc (suc zero)) (suc (suc (suc (suc j)))) h e = let z : ⊥ = omega (arith, e) in absurd z
letters_apart (suc (suc (suc zero))) zero h e = let z : ⊥ = omega (arith, e) in absurd z
letters_apart (suc (suc (suc zero))) (suc zero) h e = let z : ⊥ = omega (arith, e) in absurd z
letters_apart (suc (suc (suc zero))) (suc (suc zero)) h e = let z : ⊥ = omega (arith, e) in absurd z
letters_apart (suc (suc (suc zero))) (suc (suc (suc zero))) h e = refl
letters_apart (suc (suc (suc zero))) (suc (suc (suc (suc j)))) h e = let z : ⊥ = omega (arith, e) in absurd z
letters_apart (suc (suc (suc (suc i)))) j h e = let z : ⊥ = omega arith in absurd z

-- filter and address figures are those of one unit
unit_known : (a unit : ℕ) → a ≤ love_address_most → (eqb (filter_of a) (filter_of unit) && eqb (a % love_hundred) (unit % love_hundred)) ≡ eqb a unit
unit_known a unit m =
    same_test _ _
    (λ h.
    let b = and_true (eqb (filter_of a) (filter_of unit)) _ h in
    let hundreds : a / love_hundred ≡ unit / love_hundred = letters_apart (a / love_hundred) (unit / love_hundred) (omega arith) (eqb-true (filter_of a) (filter_of unit) b.0) in
    let rest : a % love_hundred ≡ unit % love_hundred = eqb-true _ _ b.1 in
    eq-eqb a unit (omega (arith, hundreds, rest)))
    (λ h.
    let e : a ≡ unit = eqb-true a unit h in
    both (eq-eqb _ _ (ap filter_of e)) (eq-eqb _ _ (ap (λ (n : ℕ). n % love_hundred) e)))

-- the characters of a byte are figures
pair_figured : (v : ℕ) → v < byte_values → all_figures upper_hex (pair_of v) ≡ true
unfolding all_figures pair_of
pair_figured v h =
    simp (figure_char (v / base) (omega arith), figure_char (v % base) (omega arith), lt-ltb (v / base) upper_hex (omega arith), lt-ltb (v % base) upper_hex (omega arith))

-- a frame to an address: its data, and two characters for a checksum
module _ (address : ℕ) (most : address ≤ love_address_most) (d : List ℕ) (short : length d ≤ longest - shortest) (u v : ℕ) where
  abbrev unit_byte : ℕ
  unit_byte = address % love_hundred

  -- the address figures
  abbrev x : ℕ
  x = char_of (unit_byte / base)

  abbrev y : ℕ
  y = char_of (unit_byte % base)

  abbrev pub sent : List ℕ
  sent = framed stx (filter_of address) x y d u v etx

  sent_formed : Formed sent
  unfolding between pair_of
  sent_formed =
      let n = framed_length stx (filter_of address) x y d u v etx in
      record {
        long = both (le-leb shortest (length sent) (omega (arith, n))) (le-leb (length sent) longest (omega (arith, n)));
        begins = refl;
        ends = ap (λ (b : ℕ). eqb b etx) (framed_last stx (filter_of address) x y d u v etx);
        figured = pair_figured unit_byte (omega arith);
      }

  sent_unit : (unit : ℕ) → for_unit unit sent ≡ eqb address unit
  unfolding for_unit
  sent_unit unit = rw (pair_read unit_byte (omega arith)) (unit_known address unit most)

  -- what the two characters are read as
  sent_check : checksum_right sent ≡ eqb (pair_byte upper_hex u v) (sum_of (x ∷ y ∷ d))
  unfolding checksum_right
  sent_check =
      let high = framed_high stx (filter_of address) x y d u v etx in
      let low = framed_low stx (filter_of address) x y d u v etx in
      let summed = framed_summed stx (filter_of address) x y d u v etx in
      ap₂ (λ (n m : ℕ). eqb n m) (ap₂ (λ (h l : ℕ). pair_byte upper_hex h l) high low) (ap sum_of summed)

  -- with the right checksum the data decide; with another the frame is refused
  sent_right : eqb (pair_byte upper_hex u v) (sum_of (x ∷ y ∷ d)) ≡ true
      → (unit : ℕ) → asked unit sent ≡ choose (eqb address unit) (choose (all_figures hex d) (order_in d) (Err (Refused frame_form illegal_character))) (Err (Silent foreign_address))
  unfolding order_here
  sent_right h unit =
      asked_formed unit sent sent_formed
      ∙ ap₂ (λ (t : Bool) (x : Result Order Refusal). choose t x (Err (Silent foreign_address))) (sent_unit unit)
      (sym (yes _ _ _ _ (sent_check ∙ h) refl)
      ∙ ap (λ (s : List ℕ). choose (all_figures hex s) (order_in s) (Err (Refused frame_form illegal_character))) (framed_data stx (filter_of address) x y d u v etx))

  pub sent_wrong : eqb (pair_byte upper_hex u v) (sum_of (x ∷ y ∷ d)) ≡ false
      → asked address sent ≡ Err (Refused check_character checksum_error)
  unfolding order_here
  sent_wrong h =
      asked_formed address sent sent_formed ∙ sym (yes _ _ _ _ (sent_unit address ∙ eq-eqb address address refl) (no _ _ _ _ (sent_check ∙ h) refl))

-- a frame as a host makes it, with its checksum
unfoldable pub host_frame : ℕ → List ℕ → List ℕ
host_frame address d =
    let b = pair_of (address % love_hundred) ++ d in
    stx ∷ filter_of address ∷ (b ++ (pair_of (sum_of b) ++ (etx ∷ [])))

pub host_asked : (address : ℕ) → address ≤ love_address_most → (d : List ℕ) → length d ≤ longest - shortest → (unit : ℕ)
    → asked unit (host_frame address d) ≡ choose (eqb address unit) (choose (all_figures hex d) (order_in d) (Err (Refused frame_form illegal_character))) (Err (Silent foreign_address))
unfolding host_frame pair_of
host_asked address most d short =
    let unit_byte = address % love_hundred in
    let s = sum_of (char_of (unit_byte / base) ∷ char_of (unit_byte % base) ∷ d) in
    sent_right address most d short (char_of (s / base)) (char_of (s % base)) (eq-eqb _ _ (pair_read s (sum_byte (char_of (unit_byte / base) ∷ char_of (unit_byte % base) ∷ d))))
