-- A word is a temperature exactly if some code gives it, in tenths and in hundredths. Assumes nothing.
use Rattle.std.proofs.Common.{◌≡◌, ℕ, ◌+◌, ◌-◌, ◌*◌, ◌/◌, ◌%◌, ◌<◌, ◌≤◌, true, ◌||◌, eqb, ltb, leb, sym, arith, le-ltb, eqb-true, leb-true}
use Prim.{tt}
use native.Mathlib.Decide.{dec_lt}
use Rattle.wire.specs.Word.{word_values}
use Rattle.wire.proofs.Sweep.{swept}
use Rattle.wire.proofs.Tests.{and_true}
use Rattle.card.specs.Probe.{fault_code, tenths_of}
use Rattle.asking.specs.Steps.{is_temperature}

-- a code below 255 that gives a word
pub record Coded (word : ℕ) (units : ℕ) : Type 0 where
  pub code : ℕ
  pub below : code < fault_code
  pub gives : units * tenths_of code % word_values ≡ word

-- tenths
pub tenths_temperature : (code : ℕ) → code < fault_code → is_temperature 1 (tenths_of code) ≡ true
unfolding is_temperature tenths_of
tenths_temperature code h = swept (λ k. is_temperature 1 (tenths_of k)) fault_code tt code h

pub tenths_coded : (word : ℕ) → word < word_values → is_temperature 1 word ≡ true → Coded word 1
unfolding is_temperature tenths_of
tenths_coded word w h =
    let above = (word + 400) % word_values in
    let b = and_true (leb above 1270) (eqb (above % 5) 0) h in
    let most : above ≤ 1270 = leb-true above 1270 b.0 in
    let step : above % 5 ≡ 0 = eqb-true (above % 5) 0 b.1 in
    record { code = above / 5; below = omega (arith, most); gives = omega (arith, most, step) }

-- the tenths of a code below zero degrees, and from there on
low_tenths : (code : ℕ) → code < 80 → tenths_of code ≡ 5 * code + 4294966896
unfolding tenths_of
low_tenths code h = omega arith

high_tenths : (code : ℕ) → 80 ≤ code → code < fault_code → tenths_of code ≡ 5 * code - 400
unfolding tenths_of
high_tenths code h l =
    let t : (ltb code 80 || eqb (tenths_of code) (5 * code - 400)) ≡ true = swept (λ k. ltb k 80 || eqb (tenths_of k) (5 * k - 400)) fault_code tt code l in
    eqb-true (tenths_of code) (5 * code - 400) (rw (le-ltb code 80 h) at t)

plain : (word code : ℕ) → word < word_values → code < fault_code → 80 ≤ code → (word + 4000) % word_values ≡ 50 * code → word ≡ 50 * code - 4000
plain word code w l h e = by (dec_lt word 4294963296)
  where
    by : Dec (word < 4294963296) → word ≡ 50 * code - 4000
    by (yes low) = let m : (word + 4000) % word_values ≡ word + 4000 = omega arith in omega (arith, e, m)
    by (no high) = let m : (word + 4000) % word_values ≡ word - 4294963296 = omega arith in omega (arith, e, m)

-- hundredths
pub hundredths_temperature : (code : ℕ) → code < fault_code → is_temperature 10 (10 * tenths_of code % word_values) ≡ true
unfolding is_temperature tenths_of
hundredths_temperature code h = swept (λ k. is_temperature 10 (10 * tenths_of k % word_values)) fault_code tt code h

pub hundredths_coded : (word : ℕ) → word < word_values → is_temperature 10 word ≡ true → Coded word 10
unfolding is_temperature
hundredths_coded word w h =
    let above = (word + 4000) % word_values in
    let b = and_true (leb above 12700) (eqb (above % 50) 0) h in
    let most : above ≤ 12700 = leb-true above 12700 b.0 in
    let step : above % 50 ≡ 0 = eqb-true (above % 50) 0 b.1 in
    let whole : above ≡ 50 * (above / 50) = omega (arith, step) in
    record { code = above / 50; below = omega (arith, most); gives = by_sign (above / 50) word w (omega (arith, most)) whole (dec_lt (above / 50) 80) }
  where
    by_sign : (code word : ℕ) → word < word_values → code < fault_code → (word + 4000) % word_values ≡ 50 * code → Dec (code < 80) → 10 * tenths_of code % word_values ≡ word
    by_sign code word w l e (yes below) =
        let t : tenths_of code ≡ 5 * code + 4294966896 = low_tenths code below in
        rw t (omega (arith, e))
    by_sign code word w l e (no above) =
        let t : tenths_of code ≡ 5 * code - 400 = high_tenths code (omega arith) l in
        let v : 10 * (5 * code - 400) ≡ 50 * code - 4000 = omega arith in
        let x : word ≡ 50 * code - 4000 = plain word code w l (omega arith) e in
        let y : (50 * code - 4000) % word_values ≡ 50 * code - 4000 = omega arith in
        rw (t, v, y) (sym x)
