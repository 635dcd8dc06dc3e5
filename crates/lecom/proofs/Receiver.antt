-- LECOM's receiver: which part frames it can hold. Assumes nothing.
use Rattle.std.proofs.Common.{◌≡◌, ℕ, suc, ◌+◌, ◌-◌, ◌<◌, ◌≤◌, Bool, true, false, not, ◌&&◌, eqb, ltb, leb, List, [], ◌∷◌, ◌++◌, length, get_or, sym, refl, ap, ◌∙◌, subst, inl, inr, arith, length-append, ltb-true, lt-ltb, ne_eqb, eqb-true, le-leb, leb-true}
use Rattle.std.proofs.lemmas.Bool.{not-true}
use Prim.{tt}
use Rattle.wire.specs.Choose.{choose}
use Rattle.wire.proofs.Cases.{by_choice}
use Rattle.wire.proofs.Tests.{and_true, and_false_right}
use Rattle.receiver.specs.Step.{Fate, at_rest, among, grown}
use Rattle.receiver.specs.Step.Fate.{Kept, Dropped, Finished}
use Rattle.receiver.specs.Line.{Reachable}
use Rattle.receiver.proofs.Origin.{Sound, held_reachable, reachable_held}
use Rattle.lecom.specs.Form.{longest, stx, etx, eot, enq}
use Rattle.lecom.specs.Receiver.{bcc_next, step, held_behind_stx, held_behind_eot, held}

-- a byte that is one control character is not another
pub apart : (b x y : ℕ) → eqb b x ≡ true → (x ≡ y → ⊥) → eqb b y ≡ false
apart b x y e d = let same : b ≡ x = eqb-true b x e in ne_eqb b y (λ z. d (sym same ∙ z))

-- the last byte
abbrev pub ends_in : ℕ → List ℕ → Bool
ends_in y l = eqb (get_or l (length l - 1) 0) y

pub last_cons : (y a c : ℕ) (l : List ℕ) → ends_in y (a ∷ c ∷ l) ≡ ends_in y (c ∷ l)
last_cons y a c l =
    let e : length (a ∷ c ∷ l) - 1 ≡ suc (length (c ∷ l) - 1) = omega arith in
    ap (λ (k : ℕ). eqb (get_or (a ∷ c ∷ l) k 0) y) e

some : (p : List ℕ) (b : ℕ) (xs : List ℕ) → eqb (length (p ++ (b ∷ xs))) 0 ≡ false
some p b xs = ne_eqb (length (p ++ (b ∷ xs))) 0 (λ e. let z : length (p ++ (b ∷ xs)) ≡ length p + suc (length xs) = length-append p (b ∷ xs) in omega arith)

rest_eot : (b : ℕ) → eqb b eot ≡ true → step at_rest b ≡ Kept (b ∷ [])
unfolding step bcc_next among choose
rest_eot b t = rw t

pub sound : (part : List ℕ) (b : ℕ) → Sound step part b (step part b)
unfolding step grown
sound part b =
    by_choice P (bcc_next part) _ _ (λ _. by_choice P (ltb (length part) longest) _ _ (λ _. refl) (λ _. tt))
    (λ _. by_choice P (eqb b eot) _ _ (λ t. inr (refl, rest_eot b t))
    (λ _. by_choice P (eqb (length part) 0) _ _ (λ _. tt)
    (λ _. by_choice P (ltb (length part) longest) _ _ (λ _. by_choice P (eqb b enq && not (among stx part)) _ _ (λ _. refl) (λ _. inl refl)) (λ _. tt))))
  where
    P : Fate → Type 0
    P = Sound step part b

-- what a held part frame says of a byte in it
record InWrite (p : List ℕ) (b : ℕ) : Type 0 where
  begins : eqb b eot ≡ false
  closes : 0 < length p → ends_in etx p ≡ false

in_write : (p : List ℕ) (b : ℕ) (xs : List ℕ) → held_behind_stx (p ++ (b ∷ xs)) ≡ true → InWrite p b
unfolding held_behind_stx choose
in_write [] b xs h = go (eqb b etx) refl h
  where
    go : (t : Bool) → eqb b etx ≡ t → choose t (eqb (length xs) 0) (not (eqb b eot) && held_behind_stx xs) ≡ true → InWrite [] b
    go true e g = record { begins = apart b etx eot e (λ z. omega arith); closes = λ l. let z : ⊥ = omega arith in absurd z }
    go false e g = record { begins = not-true (eqb b eot) (and_true (not (eqb b eot)) _ g).0; closes = λ l. let z : ⊥ = omega arith in absurd z }
in_write (c ∷ p) b xs h = go (eqb c etx) refl h (in_write p b xs)
  where
    last : (q : List ℕ) → eqb c etx ≡ false → (0 < length q → ends_in etx q ≡ false) → ends_in etx (c ∷ q) ≡ false
    last [] e k = e
    last (d ∷ q) e k = last_cons etx c d q ∙ k (omega arith)

    go : (t : Bool) → eqb c etx ≡ t → choose t (eqb (length (p ++ (b ∷ xs))) 0) (not (eqb c eot) && held_behind_stx (p ++ (b ∷ xs))) ≡ true
        → (held_behind_stx (p ++ (b ∷ xs)) ≡ true → InWrite p b) → InWrite (c ∷ p) b
    go true e g more = let f = some p b xs in let z : ◌≡◌ {A = ℕ} 0 1 = cc in let y : ⊥ = omega arith in absurd y
    go false e g more =
        let r = more (and_true (not (eqb c eot)) _ g).1 in
        record { begins = r.begins; closes = λ _. last p e r.closes }

record InRead (p : List ℕ) (b : ℕ) : Type 0 where
  begins : eqb b eot ≡ false
  closes : (among stx p && ends_in etx p) ≡ false
  asks : (eqb b enq && not (among stx p)) ≡ false

in_read : (p : List ℕ) (b : ℕ) (xs : List ℕ) → held_behind_eot (p ++ (b ∷ xs)) ≡ true → InRead p b
unfolding held_behind_eot among choose
in_read [] b xs h = go (eqb b stx) refl h
  where
    go : (t : Bool) → eqb b stx ≡ t → choose t (held_behind_stx xs) (not (eqb b eot) && (not (eqb b enq) && held_behind_eot xs)) ≡ true → InRead [] b
    go true e g = record { begins = apart b stx eot e (λ z. omega arith); closes = refl; asks = rw (apart b stx enq e (λ z. omega arith)) }
    go false e g =
        let k = and_true (not (eqb b eot)) _ g in
        record { begins = not-true (eqb b eot) k.0; closes = refl; asks = rw (not-true (eqb b enq) (and_true (not (eqb b enq)) _ k.1).0) }
in_read (c ∷ p) b xs h = go (eqb c stx) refl h (in_read p b xs)
  where
    last : (q : List ℕ) → eqb c stx ≡ true → (0 < length q → ends_in etx q ≡ false) → ends_in etx (c ∷ q) ≡ false
    last [] e k = apart c stx etx e (λ z. omega arith)
    last (d ∷ q) e k = last_cons etx c d q ∙ k (omega arith)

    later : (q : List ℕ) → (among stx q && ends_in etx q) ≡ false → (among stx q && ends_in etx (c ∷ q)) ≡ false
    later [] k = refl
    later (d ∷ q) k = rw (last_cons etx c d q) k

    go : (t : Bool) → eqb c stx ≡ t → choose t (held_behind_stx (p ++ (b ∷ xs))) (not (eqb c eot) && (not (eqb c enq) && held_behind_eot (p ++ (b ∷ xs)))) ≡ true
        → (held_behind_eot (p ++ (b ∷ xs)) ≡ true → InRead p b) → InRead (c ∷ p) b
    go true e g more =
        let r = in_write p b xs g in
        record { begins = r.begins; closes = rw (e, last p e r.closes); asks = rw (e, and_false_right) }
    go false e g more =
        let r = more (and_true (not (eqb c enq)) _ (and_true (not (eqb c eot)) _ g).1).1 in
        record { begins = r.begins; closes = rw e (later p r.closes); asks = rw e r.asks }

-- a byte more in a held part frame
write_more : (p : List ℕ) (b : ℕ) → held_behind_stx p ≡ true → InWrite p b → held_behind_stx (p ++ (b ∷ [])) ≡ true
unfolding held_behind_stx choose
write_more [] b h r = go (eqb b etx)
  where
    go : (t : Bool) → choose t (eqb (length {A = ℕ} []) 0) (not (eqb b eot) && true) ≡ true
    go true = refl
    go false = rw r.begins
write_more (c ∷ p) b h r = go (eqb c etx) refl h (write_more p b)
  where
    before : (q : List ℕ) → (0 < length (c ∷ q) → ends_in etx (c ∷ q) ≡ false) → 0 < length q → ends_in etx q ≡ false
    before [] k n = let z : ⊥ = omega arith in absurd z
    before (d ∷ q) k n = sym (last_cons etx c d q) ∙ k (omega arith)

    lone : (q : List ℕ) → eqb c etx ≡ true → length q ≡ 0 → ends_in etx (c ∷ q) ≡ true
    lone [] e n = e
    lone (d ∷ q) e n = let z : ⊥ = omega arith in absurd z

    go : (t : Bool) → eqb c etx ≡ t → choose t (eqb (length p) 0) (not (eqb c eot) && held_behind_stx p) ≡ true → (held_behind_stx p ≡ true → InWrite p b → held_behind_stx (p ++ (b ∷ [])) ≡ true)
        → held_behind_stx (c ∷ (p ++ (b ∷ []))) ≡ true
    go true e g more =
        let l = lone p e (eqb-true (length p) 0 g) in
        let k = r.closes (omega arith) in
        let z : ◌≡◌ {A = ℕ} 0 1 = cc in let y : ⊥ = omega arith in absurd y
    go false e g more =
        let k = and_true (not (eqb c eot)) (held_behind_stx p) g in
        rw (e, k.0) (more k.1 (record { begins = r.begins; closes = before p r.closes }))

read_more : (p : List ℕ) (b : ℕ) → held_behind_eot p ≡ true → InRead p b → held_behind_eot (p ++ (b ∷ [])) ≡ true
unfolding held_behind_eot held_behind_stx among choose
read_more [] b h r = go (eqb b stx) refl
  where
    none : eqb b enq ≡ false
    none = by (eqb b enq) r.asks
      where
        by : (x : Bool) → (x && true) ≡ false → x ≡ false
        by true k = k
        by false k = refl

    go : (t : Bool) → eqb b stx ≡ t → choose t (held_behind_stx []) (not (eqb b eot) && (not (eqb b enq) && true)) ≡ true
    go true e = refl
    go false e = rw (r.begins, none)
read_more (c ∷ p) b h r = go (eqb c stx) refl h r (read_more p b)
  where
    inside : (q : List ℕ) → ends_in etx (c ∷ q) ≡ false → 0 < length q → ends_in etx q ≡ false
    inside [] k n = let z : ⊥ = omega arith in absurd z
    inside (d ∷ q) k n = sym (last_cons etx c d q) ∙ k

    later : (q : List ℕ) → (among stx q && ends_in etx (c ∷ q)) ≡ false → (among stx q && ends_in etx q) ≡ false
    later [] k = refl
    later (d ∷ q) k = rw (last_cons etx c d q) at k

    go : (t : Bool) → eqb c stx ≡ t → choose t (held_behind_stx p) (not (eqb c eot) && (not (eqb c enq) && held_behind_eot p)) ≡ true → InRead (c ∷ p) b
        → (held_behind_eot p ≡ true → InRead p b → held_behind_eot (p ++ (b ∷ [])) ≡ true) → held_behind_eot (c ∷ (p ++ (b ∷ []))) ≡ true
    go true e g r more =
        let k : ends_in etx (c ∷ p) ≡ false = rw e at r.closes in
        rw e (write_more p b g (record { begins = r.begins; closes = inside p k }))
    go false e g r more =
        let k = and_true (not (eqb c eot)) _ g in
        let j = and_true (not (eqb c enq)) _ k.1 in
        rw (e, k.0, j.0) (more j.1 (record { begins = r.begins; closes = later p (rw e at r.closes); asks = rw e at r.asks }))

-- a part frame with its first byte
pub record Begun (x : ℕ) (p : List ℕ) : Type 0 where
  pub first : eqb x eot ≡ true
  pub fits : length (x ∷ p) ≤ longest
  pub reads : held_behind_eot p ≡ true

begun : (x : ℕ) (p : List ℕ) → held (x ∷ p) ≡ true → Begun x p
unfolding held
begun x p h =
    let a = and_true (eqb x eot) _ h in
    let b = and_true (leb (length (x ∷ p)) longest) _ a.1 in
    record { first = a.0; fits = leb-true (length (x ∷ p)) longest b.0; reads = b.1 }

pub held_begun : (x : ℕ) (p : List ℕ) → Begun x p → held (x ∷ p) ≡ true
unfolding held
held_begun x p k = rw (k.first, le-leb (length (x ∷ p)) longest k.fits, k.reads)

-- the tests of the step over a part frame with its first byte
pub among_begun : (x : ℕ) (p : List ℕ) → eqb x eot ≡ true → among stx (x ∷ p) ≡ among stx p
unfolding among
among_begun x p e = rw (apart x eot stx e (λ z. omega arith))

pub next_begun : (x : ℕ) (p : List ℕ) → eqb x eot ≡ true → bcc_next (x ∷ p) ≡ (among stx p && ends_in etx p)
unfolding bcc_next
next_begun x p e = rw (among_begun x p e) (go p)
  where
    go : (q : List ℕ) → (among stx q && ends_in etx (x ∷ q)) ≡ (among stx q && ends_in etx q)
    go [] = rw (apart x eot etx e (λ z. omega arith)) refl
    go (d ∷ q) = rw (last_cons etx x d q)

pub kept : (p : List ℕ) (b : ℕ) (xs : List ℕ) → held (p ++ (b ∷ xs)) ≡ true → step p b ≡ Kept (p ++ (b ∷ []))
unfolding step grown choose
kept [] b xs h = rest_eot b (begun b xs h).first
kept (x ∷ p) b xs h =
    let k = begun x (p ++ (b ∷ xs)) h in
    let r = in_read p b xs k.reads in
    let n = length-append p (b ∷ xs) in
    let room : length (x ∷ p) < longest = omega (arith, k.fits) in
    rw (next_begun x p k.first, r.closes, r.begins, ne_eqb (length (x ∷ p)) 0 (λ e. omega arith), lt-ltb (length (x ∷ p)) longest room, among_begun x p k.first, r.asks)

-- a byte that is kept keeps the part frame within the rules
pub stays_held : (p : List ℕ) (b : ℕ) (q : List ℕ) → held p ≡ true → step p b ≡ Kept q → held q ≡ true
unfolding step grown choose
stays_held p b q h e = go p h (bcc_next p) (eqb b eot) (ltb (length p) longest) (eqb b enq && not (among stx p)) refl refl refl refl e
  where
    alone : eqb b eot ≡ true → b ∷ [] ≡ q → held q ≡ true
    alone e k = subst (λ (l : List ℕ). held l ≡ true) k (held_begun b [] (record { first = e; fits = omega arith; reads = unfold held_behind_eot in refl }))

    go : (p : List ℕ) → held p ≡ true → (n s r a : Bool) → bcc_next p ≡ n → eqb b eot ≡ s → ltb (length p) longest ≡ r → (eqb b enq && not (among stx p)) ≡ a
        → choose n (choose r (Finished (p ++ (b ∷ []))) Dropped)
        (choose s (Kept (b ∷ []))
        (choose (eqb (length p) 0) Dropped
        (choose r (choose a (Finished (p ++ (b ∷ []))) (Kept (p ++ (b ∷ [])))) Dropped))) ≡ Kept q → held q ≡ true
    go p h true s true a en es er ea e = let z : ◌≡◌ {A = ℕ} 0 1 = cc in let y : ⊥ = omega arith in absurd y
    go p h true s false a en es er ea e = let z : ◌≡◌ {A = ℕ} 0 1 = cc in let y : ⊥ = omega arith in absurd y
    go p h false true r a en es er ea e = alone es (cc)
    go [] h false false r a en es er ea e = let z : ◌≡◌ {A = ℕ} 0 1 = cc in let y : ⊥ = omega arith in absurd y
    go (x ∷ p) h false false r a en es er ea e = in_frame r a er ea (rw (ne_eqb (length (x ∷ p)) 0 (λ u. omega arith)) at e)
      where
        k : Begun x p
        k = begun x p h

        in_frame : (r a : Bool) → ltb (length (x ∷ p)) longest ≡ r → (eqb b enq && not (among stx (x ∷ p))) ≡ a
            → choose r (choose a (Finished (x ∷ (p ++ (b ∷ [])))) (Kept (x ∷ (p ++ (b ∷ []))))) Dropped ≡ Kept q → held q ≡ true
        in_frame false a er ea e = let z : ◌≡◌ {A = ℕ} 0 1 = cc in let y : ⊥ = omega arith in absurd y
        in_frame true true er ea e = let z : ◌≡◌ {A = ℕ} 0 1 = cc in let y : ⊥ = omega arith in absurd y
        in_frame true false er ea e =
            let same : x ∷ (p ++ (b ∷ [])) ≡ q = cc in
            let l : length (x ∷ p) < longest = ltb-true (length (x ∷ p)) longest er in
            let n = length-append p (b ∷ []) in
            let r : InRead p b = record { begins = es; closes = sym (next_begun x p k.first) ∙ en; asks = rw (among_begun x p k.first) at ea } in
            subst (λ (l : List ℕ). held l ≡ true) same
            (held_begun x (p ++ (b ∷ [])) (record { first = k.first; fits = omega arith; reads = read_more p b k.reads r }))

pub held_rest : held [] ≡ true
unfolding held
held_rest = refl

pub held_few : (p : List ℕ) → held p ≡ true → length p ≤ longest
held_few [] h = omega arith
held_few (x ∷ p) h = (begun x p h).fits

pub held_leads : (part : List ℕ) → held part ≡ true → Reachable step part
held_leads = held_reachable step sound held held_rest kept stays_held

pub leads_held : (part : List ℕ) → Reachable step part → held part ≡ true
leads_held = reachable_held step sound held held_rest kept stays_held
