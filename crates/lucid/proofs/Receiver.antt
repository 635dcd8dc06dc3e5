-- LucidControl's receiver: which part frames it can hold, and that it hands over every frame whose LEN is right. Assumes nothing.
use Rattle.std.proofs.Common.{◌≡◌, refl, sym, ap, ◌∙◌, subst, Bool, true, false, ◌&&◌, not, List, [], ◌∷◌, ◌++◌, inl, ℕ, ◌+◌, ◌≤◌, ◌<◌, arith, leb-true, leb-false, ltb-true, ltb-false, lt-ltb, le-ltb, le-leb, leb, ltb, length, get_or, length-append}
use native.Mathlib.Decide.{dec_lt}
use borrow.Author.Tests.{lt-leb, not-true}
use Rattle.std.proofs.Math.ListN.{get_or-append}
use Rattle.std.proofs.Math.Seq.{append_snoc, get_or-append_seam}
use Rattle.wire.specs.Choose.{choose}
use Rattle.wire.proofs.Cases.{by_choice}
use Rattle.wire.proofs.Tests.{and_true}
use Rattle.wire.specs.Sum.{byte_values}
use Rattle.receiver.specs.Step.Fate.{Kept, Finished}
use Rattle.receiver.specs.Line.{Reachable, Whole}
use Rattle.receiver.specs.Place.{Placed, Sure}
use Rattle.receiver.specs.declared.Place.TheVariants.{Behind, Last}
use Rattle.receiver.proofs.Reach.{whole, snoc}
use Rattle.receiver.proofs.Origin.{Sound, held_reachable, reachable_held}
use Rattle.lucid.specs.Form.{shortest, longest, len_at, data_at}
use Rattle.lucid.specs.Frame.{len_in}
use Rattle.lucid.specs.Receiver.{complete, step, held}

pub sound : (part : List ℕ) (b : ℕ) → Sound step part b (step part b)
unfolding step
sound part b = by_choice (Sound step part b) (complete (part ++ (b ∷ []))) _ _ (λ _. refl) (λ _. inl refl)

-- a frame that is complete stays so with more bytes behind it
complete_longer : (u v : List ℕ) → complete u ≡ true → complete (u ++ v) ≡ true
unfolding complete
complete_longer u v h =
    let p = and_true (leb 4 (length u)) _ h in
    let a : 4 ≤ length u = leb-true 4 (length u) p.0 in
    let c : 4 + get_or u 3 0 ≤ length u = leb-true (4 + get_or u 3 0) (length u) p.1 in
    let n = length-append u v in
    rw (le-leb 4 (length (u ++ v)) (omega arith), get_or-append u v 0 3 (omega arith), le-leb (4 + get_or u 3 0) (length (u ++ v)) (omega arith))

complete_shorter : (u v : List ℕ) → complete (u ++ v) ≡ false → complete u ≡ false
complete_shorter u v h = go (complete u) refl
  where
    go : (t : Bool) → complete u ≡ t → t ≡ false
    go true e = sym (complete_longer u v e) ∙ h
    go false e = refl

pub kept : (p : List ℕ) (b : ℕ) (xs : List ℕ) → held (p ++ (b ∷ xs)) ≡ true → step p b ≡ Kept (p ++ (b ∷ []))
unfolding held step choose
kept p b xs h =
    let e : complete (p ++ (b ∷ []) ++ xs) ≡ false = ap complete (append_snoc p b xs) ∙ not-true (complete (p ++ (b ∷ xs))) h in
    rw (complete_shorter (p ++ (b ∷ [])) xs e)

pub stays_held : (p : List ℕ) (b : ℕ) (q : List ℕ) → held p ≡ true → step p b ≡ Kept q → held q ≡ true
unfolding held step choose
stays_held p b q _ e = go (complete (p ++ (b ∷ []))) refl e
  where
    go : (t : Bool) → complete (p ++ (b ∷ [])) ≡ t → choose t (Finished (p ++ (b ∷ []))) (Kept (p ++ (b ∷ []))) ≡ Kept q → not (complete q) ≡ true
    go true u e = let z : ◌≡◌ {A = ℕ} 0 1 = cc in let y : ⊥ = omega arith in absurd y
    go false u e = let same : p ++ (b ∷ []) ≡ q = cc in subst (λ (l : List ℕ). not (complete l) ≡ true) same (rw u)

pub held_leads : (part : List ℕ) → held part ≡ true → Reachable step part
unfolding held complete
held_leads = held_reachable step sound held refl kept stays_held

pub leads_held : (part : List ℕ) → Reachable step part → held part ≡ true
unfolding held complete
leads_held = reachable_held step sound held refl kept stays_held

-- every frame whose LEN is that of its data
pub whole_len : (f : List ℕ) → data_at ≤ length f → length f ≡ data_at + len_in f → Whole step f
unfolding held step complete choose
whole_len f n e =
    let (p, b, d) = snoc f (omega arith) in
    let m : length f ≡ length p + 1 = ap length d ∙ length-append p (b ∷ []) in
    let g : get_or (p ++ (b ∷ [])) 3 0 ≡ get_or f 3 0 = ap (λ (l : List ℕ). get_or l 3 0) (sym d) in
    subst (Whole step) (sym d)
    (whole step p b (held_leads p (open' p b (λ a. let k = get_or-append p (b ∷ []) 0 3 a in omega arith))) (ends p b (omega (arith, length-append p (b ∷ []))) (omega (arith, length-append p (b ∷ [])))))
  where
    open' : (p : List ℕ) (b : ℕ) → (3 < length p → length p < 4 + get_or p 3 0) → held p ≡ true
    open' p b h = go (leb 4 (length p)) refl
      where
        go : (t : Bool) → leb 4 (length p) ≡ t → not (t && leb (4 + get_or p 3 0) (length p)) ≡ true
        go true e = rw (lt-leb (4 + get_or p 3 0) (length p) (h (leb-true 4 (length p) e)))
        go false e = refl

    ends : (p : List ℕ) (b : ℕ) → 4 ≤ length (p ++ (b ∷ [])) → 4 + get_or (p ++ (b ∷ [])) 3 0 ≤ length (p ++ (b ∷ [])) → step p b ≡ Finished (p ++ (b ∷ []))
    ends p b a c = rw (le-leb 4 (length (p ++ (b ∷ []))) a, le-leb (4 + get_or (p ++ (b ∷ [])) 3 0) (length (p ++ (b ∷ []))) c)

-- where a byte goes, by how many bytes were collected
pub head_goes : (p : List ℕ) (b : ℕ) → length p + 1 < shortest → Placed step longest p b Behind
unfolding step complete choose
head_goes p b n =
    let l = length-append p (b ∷ []) in
    record { fate = rw (lt-leb data_at (length (p ++ (b ∷ []))) (omega arith)); room = omega arith }

len_of : (p : List ℕ) (b : ℕ) → length p ≡ len_at → step p b ≡ choose (leb (data_at + b) data_at) (Finished (p ++ (b ∷ []))) (Kept (p ++ (b ∷ [])))
unfolding step complete
len_of p b n =
    let l : length (p ++ (b ∷ [])) ≡ data_at = length-append p (b ∷ []) ∙ ap (λ (k : ℕ). k + 1) n in
    let g : get_or (p ++ (b ∷ [])) len_at 0 ≡ b = subst (λ (k : ℕ). get_or (p ++ (b ∷ [])) k 0 ≡ b) n (get_or-append_seam p b [] 0) in
    rw (l, g)

pub len_ends : (p : List ℕ) (b : ℕ) → length p ≡ len_at → b ≡ 0 → Placed step longest p b Last
unfolding choose
len_ends p b n e = record { fate = len_of p b n ∙ rw (le-leb (data_at + b) data_at (omega arith)); room = omega arith }

pub len_goes : (p : List ℕ) (b : ℕ) → length p ≡ len_at → (b ≡ 0 → ⊥) → Placed step longest p b Behind
unfolding choose
len_goes p b n e = record { fate = len_of p b n ∙ rw (lt-leb (data_at + b) data_at (omega arith)); room = omega arith }

-- behind LEN the frame's size decides
behind_len : (p : List ℕ) (b : ℕ) → len_at < length p
    → step p b ≡ choose (leb (data_at + get_or p len_at 0) (length p + 1)) (Finished (p ++ (b ∷ []))) (Kept (p ++ (b ∷ [])))
unfolding step complete
behind_len p b n =
    let l : length (p ++ (b ∷ [])) ≡ length p + 1 = length-append p (b ∷ []) in
    rw (l, le-leb data_at (length p + 1) (omega arith), get_or-append p (b ∷ []) 0 len_at n)

pub missing : (p : List ℕ) → len_at < length p → held p ≡ true → length p < data_at + get_or p len_at 0
unfolding held complete
missing p n h = leb-false _ _ (not-true (leb (data_at + get_or p len_at 0) (length p)) (rw (le-leb data_at (length p) n) at h))

pub later_ends : (p : List ℕ) (b : ℕ) → len_at < length p → held p ≡ true → data_at + get_or p len_at 0 ≤ longest → data_at + get_or p len_at 0 ≤ length p + 1 → Placed step longest p b Last
unfolding choose
later_ends p b n h m l = record { fate = behind_len p b n ∙ rw (le-leb (data_at + get_or p len_at 0) (length p + 1) l); room = omega (arith, missing p n h) }

pub later_goes : (p : List ℕ) (b : ℕ) → len_at < length p → held p ≡ true → data_at + get_or p len_at 0 ≤ longest → length p + 1 < data_at + get_or p len_at 0 → Placed step longest p b Behind
unfolding choose
later_goes p b n h m l = record { fate = behind_len p b n ∙ rw (lt-leb (data_at + get_or p len_at 0) (length p + 1) l); room = omega (arith, missing p n h) }

-- the test of a part frame by how many bytes it has
pub held_stages : (p : List ℕ) → held p ≡ choose (ltb (length p) shortest) true (ltb (length p) (data_at + get_or p len_at 0))
unfolding held complete choose
held_stages p = go (ltb (length p) shortest) refl
  where
    more : (t : Bool) → leb (data_at + get_or p len_at 0) (length p) ≡ t → not t ≡ ltb (length p) (data_at + get_or p len_at 0)
    more true e = sym (le-ltb (length p) (data_at + get_or p len_at 0) (leb-true (data_at + get_or p len_at 0) (length p) e))
    more false e = sym (lt-ltb (length p) (data_at + get_or p len_at 0) (leb-false (data_at + get_or p len_at 0) (length p) e))

    go : (t : Bool) → ltb (length p) shortest ≡ t → not (leb data_at (length p) && leb (data_at + get_or p len_at 0) (length p)) ≡ choose t true (ltb (length p) (data_at + get_or p len_at 0))
    go true e = rw (lt-leb data_at (length p) (ltb-true (length p) shortest e))
    go false e = rw (le-leb data_at (length p) (ltb-false (length p) shortest e)) (more (leb (data_at + get_or p len_at 0) (length p)) refl)

-- a part frame whose LEN is a byte has room for one byte more
pub held_few : (p : List ℕ) → get_or p len_at 0 < byte_values → held p ≡ true → length p ≤ longest
held_few p t h = go (dec_lt len_at (length p))
  where
    go : Dec (len_at < length p) → length p ≤ longest
    go (yes n) = omega (arith, missing p n h)
    go (no n) = omega arith

-- behind LEN bytes are kept until the last
pub sure_len : (p : List ℕ) (n : ℕ) → shortest ≤ length p → length p + n + 1 ≡ data_at + get_or p len_at 0 → data_at + get_or p len_at 0 ≤ longest → Sure held longest p n
unfolding choose
sure_len p n l e m =
    record {
      kept = λ more k.
          let long : length (p ++ more) ≡ length p + length more = length-append p more in
          let g : get_or (p ++ more) len_at 0 ≡ get_or p len_at 0 = get_or-append p more 0 len_at (omega arith) in
          held_stages (p ++ more) ∙ rw (le-ltb (length (p ++ more)) shortest (omega arith), g, lt-ltb (length (p ++ more)) (data_at + get_or p len_at 0) (omega arith));
      room = omega arith;
    }
