-- What data are read as: a word in the range of a register. And a code is known from what it names. Assumes nothing.
use Rattle.std.proofs.Common.{Option, Some, None, ◌≡◌, ℕ, ◌+◌, ◌<◌, ◌≤◌, Bool, true, false, not, ◌&&◌, eqb, ltb, leb, List, length, get_or, drop, sym, refl, ap, ◌∙◌, arith, ltb-false, eqb-true, le-leb, leb-true}
use Rattle.std.proofs.lemmas.Bool.{eqb-false}
use Rattle.wire.specs.Word.{minus, word_values}
use Rattle.wire.proofs.Cases.{by_choice}
use Rattle.wire.proofs.Tests.{and_true, or_true_right, either}
use Rattle.wire.specs.Choose.{choose}
use Rattle.figures.specs.Figure.{decimal, all_figures}
use Rattle.figures.specs.Decimal.{value_of}
use Rattle.figures.specs.Signed.{minus_char, magnitude, with_sign, figures_of, parsed_of}
use Rattle.figures.proofs.Texts.{magnitude_negative, magnitude_positive}
use Rattle.card.specs.Fitness.{in_span, register_most}
use Rattle.lecom.specs.Form.{last_register, first_probe, last_probe, activate, store, named_by, known}
use Rattle.lecom.specs.declared.form.Named.{Named}
use Rattle.lecom.specs.declared.form.Named.TheVariants.{Register, Probe, Activate, Store}

-- a word in the range of a register
pub record Ranged (value : ℕ) : Type 0 where
  pub within : in_span (minus register_most) register_most value ≡ true
  pub word : value < word_values

low_ranged : (value : ℕ) → value ≤ register_most → Ranged value
unfolding in_span choose
low_ranged value h = record { within = rw (le-leb value register_most h) (or_true_right (leb (minus register_most) value)); word = omega arith }

high_ranged : (m : ℕ) → 0 < m → m ≤ register_most → Ranged (minus m)
unfolding in_span choose
high_ranged m p h = record { within = rw (le-leb (minus register_most) (minus m) (omega arith)); word = omega arith }

sign_ranged : (negative : Bool) (m : ℕ) → m ≤ register_most → Ranged (with_sign negative m)
unfolding with_sign
sign_ranged negative m h =
    by_choice Ranged (not negative) _ _ (λ _. low_ranged m h)
    (λ _. by_choice Ranged (eqb m 0) _ _ (λ _. low_ranged 0 (omega arith)) (λ z. high_ranged m (omega (arith, eqb-false m 0 z)) h))

-- its magnitude has at most six figures
pub span_magnitude : (value : ℕ) → Ranged value → magnitude value ≤ register_most
unfolding in_span choose
span_magnitude value r =
    let l = r.word in
    either (leb (minus register_most) value) (leb value register_most) r.within
    (λ a. let k : minus register_most ≤ value = leb-true (minus register_most) value a in omega (arith, l, magnitude_negative value (omega arith)))
    (λ b. let k : value ≤ register_most = leb-true value register_most b in omega (arith, magnitude_positive value (omega arith)))

-- what data were read as, if as a value
abbrev pub RangedIn : Option ℕ → Type 0
RangedIn p = (value : ℕ) → p ≡ Some value → Ranged value

wrong_ranged : RangedIn None
wrong_ranged value e = let z : ◌≡◌ {A = ℕ} 0 1 = cc in let n : ⊥ = omega (arith, z) in absurd n

figures_ranged : (negative : Bool) (s : List ℕ) → RangedIn (figures_of register_most negative s)
unfolding figures_of
figures_ranged negative s =
    by_choice RangedIn (eqb (length s) 0) _ _ (λ _. wrong_ranged)
    (λ _. by_choice RangedIn (not (all_figures decimal s)) _ _ (λ _. wrong_ranged)
    (λ _. by_choice RangedIn (ltb register_most (value_of s)) _ _ (λ _. wrong_ranged)
    (λ h value e.
    let same : with_sign negative (value_of s) ≡ value = cc in
    rw same at (sign_ranged negative (value_of s) (ltb-false register_most (value_of s) h)))))

pub parsed_ranged : (s : List ℕ) → RangedIn (parsed_of register_most s)
unfolding parsed_of
parsed_ranged s =
    by_choice RangedIn (eqb (length s) 0) _ _ (λ _. wrong_ranged)
    (λ _. by_choice RangedIn (eqb (get_or s 0 0) minus_char) _ _ (λ _. figures_ranged true (drop 1 s)) (λ _. figures_ranged false s))

-- the code of what is named
abbrev code_of_named : Option Named → ℕ
code_of_named (Some (Register k)) = k
code_of_named (Some (Probe channel)) = first_probe + channel
code_of_named (Some Activate) = activate
code_of_named (Some Store) = store
code_of_named None = 0

code_back : (code : ℕ) → known (named_by code) ≡ true → code_of_named (named_by code) ≡ code
unfolding named_by
code_back code =
    by_choice P (leb code last_register) _ _ (λ _ _. refl)
    (λ _. by_choice P (leb first_probe code && leb code last_probe) _ _ (λ a _. omega (arith, leb-true first_probe code (and_true (leb first_probe code) (leb code last_probe) a).0))
    (λ _. by_choice P (eqb code activate) _ _ (λ a _. sym (eqb-true code activate a))
    (λ _. by_choice P (eqb code store) _ _ (λ a _. sym (eqb-true code store a))
    (λ _ h. let z : ◌≡◌ {A = ℕ} 0 1 = cc in let n : ⊥ = omega (arith, z) in absurd n))))
  where
    P : Option Named → Type 0
    P named = known named ≡ true → code_of_named named ≡ code

-- two codes that name the same are the same
pub named_once : (a b : ℕ) → known (named_by b) ≡ true → named_by a ≡ named_by b → a ≡ b
named_once a b h e = sym (code_back a (ap known e ∙ h)) ∙ ap code_of_named e ∙ code_back b h
