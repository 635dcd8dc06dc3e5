-- The probe reading over all codes: 255 is the fault, and every other code is 5 × code − 400 tenths, within −400 to 870. Assumes nothing.
use Rattle.std.proofs.Common.{◌≡◌, ℕ, ◌*◌, ◌<◌, ◌≤◌, true, not, T, eqb, refl, arith, w32, to_z, ne_eqb}
use Rattle.std.proofs.Math.IntN.{sub_ℕ}
use Rattle.std.proofs.lemmas.Bool.{eqb-false}
use Rattle.wire.specs.Choose.{choose}
use Rattle.wire.specs.Word.{minus}
use Rattle.wire.proofs.Cases.{by_choice}
use Rattle.wire.proofs.Sweep.{at, swept}
use Rattle.card.specs.Fitness.{in_span}
use Rattle.card.specs.Probe.{fault_code, tenths_per_code, tenths_below, tenths_of, reading_of}
use Rattle.card.specs.declared.probe.Reading.{Reading}
use Rattle.card.specs.declared.probe.Reading.TheVariants.{Temperature, Fault}
use Rattle.card.proofs.Integers.{same_z, same_z→eq}

-- the warmest temperature, of code 254
abbrev pub tenths_most : ℕ
tenths_most = 870

pub fault_read : reading_of fault_code ≡ Fault
unfolding reading_of choose
fault_read = refl

-- only a code below 255 is read as a temperature
abbrev pub temperatures : Reading → ℕ
temperatures (Temperature tenths) = 1
temperatures Fault = 0

pub read_below : (code : ℕ) → code ≤ fault_code → temperatures (reading_of code) ≡ 1 → code < fault_code
unfolding reading_of
read_below code h =
    by_choice (λ (r : Reading). temperatures r ≡ 1 → code < fault_code) (eqb code fault_code) _ _
    (λ _ e. let z : ⊥ = omega (arith, e) in absurd z)
    (λ b _. let n : code ≡ fault_code → ⊥ = eqb-false code fault_code b in omega (arith, n))

-- what is known of a code that is a temperature
pub record Temperate (code : ℕ) : Type 0 where
  pub taken : reading_of code ≡ Temperature (record { 0 = tenths_of code })
  pub exact : to_z w32 (tenths_of code) ≡ sub_ℕ (tenths_per_code * code) tenths_below
  pub within : in_span (minus tenths_below) tenths_most (tenths_of code) ≡ true

pub temperature_read : (code : ℕ) → code < fault_code → Temperate code
unfolding reading_of tenths_of in_span choose
temperature_read code h =
    record {
      taken = rw (ne_eqb code fault_code (λ e. let z : ⊥ = omega arith in z));
      exact = same_z→eq _ _ (at (λ n. same_z (to_z w32 (tenths_of n)) (sub_ℕ (tenths_per_code * n) tenths_below)) fault_code tt code h);
      within = swept (λ n. in_span (minus tenths_below) tenths_most (tenths_of n)) fault_code tt code h;
    }

-- "No code gives −1"
pub no_minus_one : (code : ℕ) → code < fault_code → T (not (eqb (tenths_of code) (minus 1)))
unfolding tenths_of
no_minus_one code h = at (λ n. not (eqb (tenths_of n) (minus 1))) fault_code tt code h
