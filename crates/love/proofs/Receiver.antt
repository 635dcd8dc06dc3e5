-- Love's receiver: which part frames it can hold, and frames that it hands over. Assumes nothing.
use Rattle.std.proofs.Common.{◌≡◌, refl, subst, Bool, true, false, not, List, [], ◌∷◌, ◌++◌, inl, inr, ℕ, ◌≤◌, ◌<◌, arith, leb-true, le-leb, lt-ltb, ltb-true, ne_eqb, leb, ltb, eqb, length, length-append}
use Prim.{tt}
use borrow.Author.Tests.{not-true}
use Rattle.wire.specs.Choose.{choose}
use Rattle.wire.proofs.Cases.{by_choice}
use Rattle.wire.proofs.Tests.{and_true, neither}
use Rattle.receiver.specs.Step.{Fate, at_rest, among, grown}
use Rattle.receiver.specs.Step.Fate.{Kept, Dropped, Finished}
use Rattle.receiver.specs.Line.{Reachable, Whole}
use Rattle.receiver.proofs.Reach.{whole}
use Rattle.receiver.proofs.Origin.{Sound, held_reachable, reachable_held}
use Rattle.love.specs.Form.{longest, stx, etx}
use Rattle.love.specs.Receiver.{step, held}

-- a byte that is not among some
among_at : (y : ℕ) (p : List ℕ) (b : ℕ) (xs : List ℕ) → among y (p ++ (b ∷ xs)) ≡ false → eqb b y ≡ false
unfolding among
among_at y [] b xs h = (neither (eqb b y) _ h).0
among_at y (c ∷ p) b xs h = among_at y p b xs (neither (eqb c y) _ h).1

among_more : (y : ℕ) (p : List ℕ) (b : ℕ) → among y p ≡ false → eqb b y ≡ false → among y (p ++ (b ∷ [])) ≡ false
unfolding among
among_more y [] b h e = rw e
among_more y (c ∷ p) b h e = let k = neither (eqb c y) (among y p) h in rw k.0 (among_more y p b k.1 e)

rest_stx : (b : ℕ) → eqb b stx ≡ true → step at_rest b ≡ Kept (b ∷ [])
unfolding step choose
rest_stx b t = rw t

pub sound : (part : List ℕ) (b : ℕ) → Sound step part b (step part b)
unfolding step grown
sound part b =
    by_choice P (eqb b stx) _ _ (λ t. inr (refl, rest_stx b t))
    (λ _. by_choice P (eqb (length part) 0) _ _ (λ _. tt)
    (λ _. by_choice P (ltb (length part) longest) _ _ (λ _. by_choice P (eqb b etx) _ _ (λ _. refl) (λ _. inl refl)) (λ _. tt)))
  where
    P : Fate → Type 0
    P = Sound step part b

record Begun (x : ℕ) (p : List ℕ) : Type 0 where
  first : eqb x stx ≡ true
  fits : length (x ∷ p) ≤ longest
  no_stx : among stx p ≡ false
  no_etx : among etx p ≡ false

begun : (x : ℕ) (p : List ℕ) → held (x ∷ p) ≡ true → Begun x p
unfolding held
begun x p h =
    let a = and_true (eqb x stx) _ h in
    let b = and_true (leb (length (x ∷ p)) longest) _ a.1 in
    let c = and_true (not (among stx p)) _ b.1 in
    record { first = a.0; fits = leb-true (length (x ∷ p)) longest b.0; no_stx = not-true (among stx p) c.0; no_etx = not-true (among etx p) c.1 }

held_begun : (x : ℕ) (p : List ℕ) → Begun x p → held (x ∷ p) ≡ true
unfolding held
held_begun x p k = rw (k.first, le-leb (length (x ∷ p)) longest k.fits, k.no_stx, k.no_etx)

pub kept : (p : List ℕ) (b : ℕ) (xs : List ℕ) → held (p ++ (b ∷ xs)) ≡ true → step p b ≡ Kept (p ++ (b ∷ []))
unfolding step grown choose
kept [] b xs h = rest_stx b (begun b xs h).first
kept (x ∷ p) b xs h =
    let k = begun x (p ++ (b ∷ xs)) h in
    let n = length-append p (b ∷ xs) in
    rw (among_at stx p b xs k.no_stx, ne_eqb (length (x ∷ p)) 0 (λ e. omega arith), lt-ltb (length (x ∷ p)) longest (omega (arith, k.fits)), among_at etx p b xs k.no_etx)

-- a byte that is kept keeps the part frame within the rules
pub stays_held : (p : List ℕ) (b : ℕ) (q : List ℕ) → held p ≡ true → step p b ≡ Kept q → held q ≡ true
unfolding step grown choose
stays_held p b q h e = go p h (eqb b stx) (ltb (length p) longest) (eqb b etx) refl refl refl e
  where
    go : (p : List ℕ) → held p ≡ true → (s r a : Bool) → eqb b stx ≡ s → ltb (length p) longest ≡ r → eqb b etx ≡ a
        → choose s (Kept (b ∷ [])) (choose (eqb (length p) 0) Dropped (choose r (choose a (Finished (p ++ (b ∷ []))) (Kept (p ++ (b ∷ [])))) Dropped)) ≡ Kept q → held q ≡ true
    go p h true r a es er ea e =
        let same : b ∷ [] ≡ q = cc in
        subst (λ (l : List ℕ). held l ≡ true) same (held_begun b [] (record { first = es; fits = omega arith; no_stx = unfold among in refl; no_etx = unfold among in refl }))
    go [] h false r a es er ea e = let z : ◌≡◌ {A = ℕ} 0 1 = cc in let y : ⊥ = omega arith in absurd y
    go (x ∷ p) h false r a es er ea e = in_frame r a er ea (rw (ne_eqb (length (x ∷ p)) 0 (λ u. omega arith)) at e)
      where
        k : Begun x p
        k = begun x p h

        in_frame : (r a : Bool) → ltb (length (x ∷ p)) longest ≡ r → eqb b etx ≡ a → choose r (choose a (Finished (x ∷ (p ++ (b ∷ [])))) (Kept (x ∷ (p ++ (b ∷ []))))) Dropped ≡ Kept q → held q ≡ true
        in_frame false a er ea e = let z : ◌≡◌ {A = ℕ} 0 1 = cc in let y : ⊥ = omega arith in absurd y
        in_frame true true er ea e = let z : ◌≡◌ {A = ℕ} 0 1 = cc in let y : ⊥ = omega arith in absurd y
        in_frame true false er ea e =
            let same : x ∷ (p ++ (b ∷ [])) ≡ q = cc in
            let l : length (x ∷ p) < longest = ltb-true (length (x ∷ p)) longest er in
            let n = length-append p (b ∷ []) in
            subst (λ (l : List ℕ). held l ≡ true) same
            (held_begun x (p ++ (b ∷ [])) (record { first = k.first; fits = omega arith; no_stx = among_more stx p b k.no_stx es; no_etx = among_more etx p b k.no_etx ea }))

pub held_rest : held [] ≡ true
unfolding held
held_rest = refl

pub held_few : (p : List ℕ) → held p ≡ true → length p ≤ longest
held_few [] h = omega arith
held_few (x ∷ p) h = (begun x p h).fits

pub held_leads : (part : List ℕ) → held part ≡ true → Reachable step part
held_leads = held_reachable step sound held held_rest kept stays_held

pub leads_held : (part : List ℕ) → Reachable step part → held part ≡ true
leads_held = reachable_held step sound held held_rest kept stays_held

-- STX, bytes other than STX and ETX, ETX
pub whole_plain : (x : ℕ) (p : List ℕ) → eqb x stx ≡ true → among stx p ≡ false → among etx p ≡ false → length (x ∷ p) < longest → Whole step (x ∷ (p ++ (etx ∷ [])))
unfolding step grown choose
whole_plain x p e s t l =
    whole step (x ∷ p) etx (held_leads (x ∷ p) (held_begun x p (record { first = e; fits = omega arith; no_stx = s; no_etx = t })))
    (rw (ne_eqb (length (x ∷ p)) 0 (λ u. omega arith), lt-ltb (length (x ∷ p)) longest l))
