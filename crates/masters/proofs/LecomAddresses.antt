-- A LECOM address is known from the units that it reaches. Assumes nothing.
use Rattle.std.proofs.Common.{◌≡◌, ℕ, ◌+◌, ◌*◌, ◌/◌, ◌%◌, ◌<◌, ◌≤◌, Bool, true, false, not, ◌&&◌, ◌||◌, T, eqb, ltb, refl, arith, eqb-true}
use Rattle.wire.specs.Choose.{choose}
use Rattle.wire.proofs.Sweep.{all, at}
use Rattle.wire.proofs.Tests.{and_true}
use Rattle.figures.specs.Figure.{decimal}
use Rattle.card.specs.Fitness.{lecom_least, lecom_most, lecom_right}
use Rattle.lecom_master.specs.Request.{is_collective, address_right}
use Rattle.masters.specs.Lecom.{addresses}

-- how many numbers two figures have
abbrev count : ℕ
count = lecom_most + 1

-- three units that tell an address from every other: two that it reaches and one of other tens; for a unit's own, it and one more of its tens
abbrev one : ℕ → ℕ
one a = choose (eqb (a % decimal) 0) (choose (eqb a 0) lecom_least (a + 1)) a

abbrev two : ℕ → ℕ
two a = choose (eqb (a % decimal) 0) (choose (eqb a 0) (lecom_least + 1) (a + 2)) (decimal * (a / decimal) + choose (eqb (a % decimal) 1) 2 1)

abbrev three : ℕ → ℕ
three a = choose (eqb (a % decimal) 0) (choose (ltb a (decimal + decimal)) (lecom_least + decimal) lecom_least) (one a)

abbrev agree : Bool → Bool → Bool
agree true b = b
agree false b = not b

agree_refl : (b : Bool) → agree b b ≡ true
agree_refl true = refl
agree_refl false = refl

abbrev test : ℕ → ℕ → Bool
test a b =
    not (address_right a)
    || ((lecom_right (one a) && (lecom_right (two a) && lecom_right (three a)))
    && (eqb b a || not (agree (addresses b (one a)) (addresses a (one a)) && (agree (addresses b (two a)) (addresses a (two a)) && agree (addresses b (three a)) (addresses a (three a))))))

swept : (a b : ℕ) → a < count → b < count → T (test a b)
unfolding address_right is_collective addresses choose
swept a b h k = at (λ y. test a y) count (at (λ x. all (λ y. test x y) count) count tt a h) b k

-- from the tests to the address
conclude : (r l e g : Bool) → r ≡ true → T (not r || (l && (e || not g))) → (l ≡ true) × (g ≡ true → e ≡ true)
conclude true true true g h t = (refl, λ _. refl)
conclude true true false true h t = absurd t
conclude true true false false h t = (refl, λ z. z)
conclude true false e g h t = absurd t
conclude false l e g h t = let z : ◌≡◌ {A = ℕ} 0 1 = cc in let n : ⊥ = omega (arith, z) in absurd n

pub address_known_law : (a b : ℕ) → a ≤ lecom_most → b ≤ lecom_most → address_right a ≡ true → ((unit : ℕ) → lecom_right unit ≡ true → addresses b unit ≡ addresses a unit) → b ≡ a
address_known_law a b h k right same =
    let c = conclude (address_right a) (lecom_right (one a) && (lecom_right (two a) && lecom_right (three a))) (eqb b a) _ right (swept a b (omega arith) (omega arith)) in
    let x = and_true (lecom_right (one a)) _ c.0 in
    let y = and_true (lecom_right (two a)) (lecom_right (three a)) x.1 in
    let g : (agree (addresses b (one a)) (addresses a (one a)) && (agree (addresses b (two a)) (addresses a (two a)) && agree (addresses b (three a)) (addresses a (three a)))) ≡ true =
    rw (same (one a) x.0, same (two a) y.0, same (three a) y.1, agree_refl (addresses a (one a)), agree_refl (addresses a (two a))) (agree_refl (addresses a (three a))) in
    eqb-true b a (c.1 g)

-- a unit that an address reaches
pub record Reached (a : ℕ) : Type 0 where
  pub unit : ℕ
  pub right : lecom_right unit ≡ true
  pub reached : addresses a unit ≡ true

pub some_unit : (a : ℕ) → a ≤ lecom_most → address_right a ≡ true → Reached a
unfolding address_right is_collective addresses choose
some_unit a h right =
    let t = at (λ x. not (address_right x) || (lecom_right (one x) && addresses x (one x))) count tt a (omega arith) in
    let c = held (address_right a) (lecom_right (one a) && addresses a (one a)) right t in
    let x = and_true (lecom_right (one a)) (addresses a (one a)) c in
    record { unit = one a; right = x.0; reached = x.1 }
  where
    held : (r l : Bool) → r ≡ true → T (not r || l) → l ≡ true
    held true true h t = refl
    held true false h t = absurd t
    held false l h t = let z : ◌≡◌ {A = ℕ} 0 1 = cc in let n : ⊥ = omega (arith, z) in absurd n
