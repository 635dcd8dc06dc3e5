-- Datalink's receiver: which part frames it can hold, and that it hands over every frame of its form. Assumes nothing.
use Rattle.std.proofs.Common.{◌≡◌, ℕ, ◌+◌, ◌<◌, ◌≤◌, Bool, true, false, not, ◌&&◌, ◌||◌, eqb, ltb, leb, List, [], ◌∷◌, ◌++◌, length, get_or, sym, refl, ap, ◌∙◌, subst, arith, length-append, ltb-true, le-ltb, lt-ltb, eq-eqb, ne_eqb, eqb-true, le-leb, leb-false, leb-true, inl}
use Prim.{tt}
use borrow.Author.Tests.{lt-leb}
use lib.ListN.{get_or-append}
use lib.Seq.{append_snoc}
use Rattle.wire.specs.Choose.{choose}
use Rattle.wire.proofs.Cases.{by_choice, passed}
use Rattle.wire.proofs.Tests.{and_true, and_false_right}
use Rattle.wire.proofs.Lengths.{between_facts}
use Rattle.receiver.specs.Step.Fate.{Kept, Dropped, Finished}
use Rattle.receiver.specs.Line.{Reachable, Whole}
use Rattle.receiver.specs.Place.{Placed, Sure}
use Rattle.receiver.specs.declared.Place.TheVariants.{Behind, Nowhere, Last}
use Rattle.receiver.proofs.Reach.{whole, snoc}
use Rattle.receiver.proofs.Origin.{Sound, held_reachable, reachable_held}
use Rattle.card.specs.Layout.{data_most}
use Rattle.card.specs.Change.{no_change, num_right}
use Rattle.card.specs.Numbers.{foreign_address, frame_form, command_unknown}
use Rattle.datalink.specs.Form.{shortest, longest, start, second_at, frame_num_at, acknowledge_bits, acknowledge_size, bare_size}
use Rattle.datalink.specs.Frame.{command_in, command_known, is_acknowledge, kind_of, kind_in, num_in, carried, form_right, refused, asked}
use Rattle.datalink.specs.Stages.{command_of, size_of, second_place, goes_on, held_with_num}
use Rattle.datalink.specs.Receiver.{once_come, starts_right, wanted, judged, step, held}
use Rattle.datalink.proofs.Frames.{num_most}

chosen : (n : ℕ) (t : Bool) (a b : ℕ) → t ≡ true → n < choose t a b → n < a
unfolding choose
chosen n t a b e g = rw e at g

unchosen : (n : ℕ) (t : Bool) (a b : ℕ) → t ≡ false → n < choose t a b → n < b
unfolding choose
unchosen n t a b e g = rw e at g

-- the front of a list has its bytes
module _ (u v : List ℕ) where
  longer : length u ≤ length (u ++ v)
  longer = simp length-append (omega arith)

  at : (i : ℕ) → i < length u → get_or (u ++ v) i 0 ≡ get_or u i 0
  at i h = get_or-append u v 0 i h

  command_front : second_at < length u → command_in (u ++ v) ≡ command_in u
  unfolding command_in
  command_front h = rw (at second_at h)

  acknowledge_front : second_at < length u → is_acknowledge (u ++ v) ≡ is_acknowledge u
  unfolding is_acknowledge
  acknowledge_front h = rw (command_front h)

  kind_front : second_at < length u → kind_in (u ++ v) ≡ kind_in u
  unfolding kind_in
  kind_front h = rw (command_front h)

  num_front : frame_num_at < length u → num_in (u ++ v) ≡ num_in u
  unfolding num_in
  num_front h = at frame_num_at h

  come_front : (place : ℕ) (t s : Bool) → (place < length u → t ≡ s) → once_come place (u ++ v) t ≡ true → once_come place u s ≡ true
  unfolding once_come
  come_front place t s same h = go (leb (length u) place) refl
    where
      go : (x : Bool) → leb (length u) place ≡ x → (x || s) ≡ true
      go true e = refl
      go false e =
          let l : place < length u = leb-false (length u) place e in
          let k : leb (length (u ++ v)) place ≡ false = lt-leb (length (u ++ v)) place (omega (arith, longer)) in
          sym (same l) ∙ (rw k at h)

  starts_front : 0 < length u → starts_right (u ++ v) ≡ true → starts_right u ≡ true
  unfolding starts_right
  starts_front n h =
      let p = and_true (eqb (get_or (u ++ v) 0 0) start) _ h in
      let q = and_true (once_come second_at (u ++ v) (command_known (command_in (u ++ v)))) _ p.1 in
      let a : eqb (get_or u 0 0) start ≡ true = rw (at 0 n) at p.0 in
      let b : once_come second_at u (command_known (command_in u)) ≡ true = come_front second_at _ _ (λ l. ap command_known (command_front l)) q.0 in
      let c : once_come frame_num_at u (leb (num_in u) data_most) ≡ true = come_front frame_num_at _ _ (λ l. ap (λ (x : ℕ). leb x data_most) (num_front l)) q.1 in
      rw (a, b, c)

  wanted_front : length u < wanted (u ++ v) → length u < wanted u
  unfolding wanted
  wanted_front h =
      by_choice (λ (w : ℕ). length u < w) (leb (length u) second_at) _ _ (λ t. omega (arith, leb-true (length u) second_at t))
      (λ t.
      let l : second_at < length u = leb-false (length u) second_at t in
      let k : leb (length (u ++ v)) second_at ≡ false = lt-leb (length (u ++ v)) second_at (omega (arith, longer)) in
      let h₁ : length u < choose (is_acknowledge u) acknowledge_size (choose (leb (length (u ++ v)) frame_num_at) longest (bare_size + carried (kind_in (u ++ v)) (num_in (u ++ v)))) = rw (acknowledge_front l) at (unchosen _ _ _ _ k h) in
      by_choice (λ (w : ℕ). length u < w) (is_acknowledge u) _ _ (λ s. chosen _ _ _ _ s h₁)
      (λ s. by_choice (λ (w : ℕ). length u < w) (leb (length u) frame_num_at) _ _ (λ r. omega (arith, leb-true (length u) frame_num_at r))
      (λ r.
      let l₂ : frame_num_at < length u = leb-false (length u) frame_num_at r in
      let k₂ : leb (length (u ++ v)) frame_num_at ≡ false = lt-leb (length (u ++ v)) frame_num_at (omega (arith, longer)) in
      rw (kind_front l, num_front l₂) at (unchosen _ _ _ _ k₂ (unchosen _ _ _ _ s h₁)))))

-- how a list of bytes is judged
keeps : (f : List ℕ) → starts_right f ≡ true → length f < wanted f → judged f ≡ Kept f
unfolding judged choose
keeps f h l = rw (h, lt-leb (wanted f) (length f) l)

ends : (f : List ℕ) → starts_right f ≡ true → wanted f ≤ length f → judged f ≡ Finished f
unfolding judged choose
ends f h l = rw (h, le-leb (wanted f) (length f) l)

pub sound : (part : List ℕ) (b : ℕ) → Sound step part b (step part b)
unfolding step judged
sound part b =
    let f = part ++ (b ∷ []) in
    by_choice (Sound step part b) (starts_right f) _ _ (λ _. by_choice (Sound step part b) (leb (wanted f) (length f)) _ _ (λ _. refl) (λ _. inl refl)) (λ _. tt)

-- a part frame that is held and is not empty
held_facts : (f : List ℕ) → 0 < length f → held f ≡ true → (starts_right f ≡ true) × (length f < wanted f)
unfolding held
held_facts f n h =
    let z : eqb (length f) 0 ≡ false = ne_eqb (length f) 0 (λ e. omega arith) in
    let k : (starts_right f && ltb (length f) (wanted f)) ≡ true = rw z at h in
    let p = and_true (starts_right f) _ k in
    (p.0, ltb-true (length f) (wanted f) p.1)

held_by_law : (f : List ℕ) → starts_right f ≡ true → length f < wanted f → held f ≡ true
unfolding held
held_by_law f h l = go (eqb (length f) 0)
  where
    go : (x : Bool) → (x || (starts_right f && ltb (length f) (wanted f))) ≡ true
    go true = refl
    go false = rw (h, lt-ltb (length f) (wanted f) l)

some : (p : List ℕ) (b : ℕ) (xs : List ℕ) → 0 < length (p ++ (b ∷ xs))
some p b xs = simp length-append (omega arith)

pub kept : (p : List ℕ) (b : ℕ) (xs : List ℕ) → held (p ++ (b ∷ xs)) ≡ true → step p b ≡ Kept (p ++ (b ∷ []))
unfolding step
kept p b xs h =
    let u = p ++ (b ∷ []) in
    let g : held (u ++ xs) ≡ true = subst (λ (l : List ℕ). held l ≡ true) (sym (append_snoc p b xs)) h in
    let k = held_facts (u ++ xs) (subst (λ (l : List ℕ). 0 < length l) (sym (append_snoc p b xs)) (some p b xs)) g in
    let l : length u < wanted (u ++ xs) = omega (arith, longer u xs, k.1) in
    keeps u (starts_front u xs (some p b []) k.0) (wanted_front u xs l)

pub stays_held : (p : List ℕ) (b : ℕ) (q : List ℕ) → held p ≡ true → step p b ≡ Kept q → held q ≡ true
unfolding step judged choose
stays_held p b q _ e = go (starts_right f) (leb (wanted f) (length f)) refl refl e
  where
    f : List ℕ
    f = p ++ (b ∷ [])

    go : (s t : Bool) → starts_right f ≡ s → leb (wanted f) (length f) ≡ t → choose s (choose t (Finished f) (Kept f)) Dropped ≡ Kept q → held q ≡ true
    go true true h l e = let z : ◌≡◌ {A = ℕ} 0 1 = cc in let y : ⊥ = omega arith in absurd y
    go true false h l e = let same : f ≡ q = cc in subst (λ (x : List ℕ). held x ≡ true) same (held_by_law f h (leb-false (wanted f) (length f) l))
    go false t h l e = let z : ◌≡◌ {A = ℕ} 0 1 = cc in let y : ⊥ = omega arith in absurd y

-- the part frames that are reachable are those that the test takes
pub held_leads : (part : List ℕ) → held part ≡ true → Reachable step part
unfolding held
held_leads = held_reachable step sound held refl kept stays_held

pub leads_held : (part : List ℕ) → Reachable step part → held part ≡ true
unfolding held
leads_held = reachable_held step sound held refl kept stays_held

-- a frame of its form
come_by : (place : ℕ) (f : List ℕ) (t : Bool) → (place < length f → t ≡ true) → once_come place f t ≡ true
unfolding once_come
come_by place f t h = go (leb (length f) place) refl
  where
    go : (x : Bool) → leb (length f) place ≡ x → (x || t) ≡ true
    go true e = refl
    go false e = h (leb-false (length f) place e)

record Form (f : List ℕ) : Type 0 where
  starts : starts_right f ≡ true
  ends : wanted f ≡ length f

form : (f : List ℕ) → eqb (get_or f 0 0) start ≡ true → command_known (command_in f) ≡ true → form_right f ≡ true → Form f
unfolding form_right starts_right wanted choose
form f s c r = go (is_acknowledge f) refl
  where
    go : (x : Bool) → is_acknowledge f ≡ x → Form f
    go true e =
        let n : length f ≡ acknowledge_size = eqb-true (length f) acknowledge_size (rw e at r) in
        record {
          starts = rw (s, come_by second_at f _ (λ _. c), come_by frame_num_at f (leb (num_in f) data_most) (λ l. let z : ⊥ = omega arith in absurd z));
          ends = rw (n, e);
        }
    go false e =
        let p = and_true (eqb (length f) (bare_size + carried (kind_in f) (num_in f))) (num_right (kind_in f) (num_in f)) (rw e at r) in
        let n : length f ≡ bare_size + carried (kind_in f) (num_in f) = eqb-true _ _ p.0 in
        record {
          starts = rw (s, come_by second_at f _ (λ _. c), come_by frame_num_at f (leb (num_in f) data_most) (λ _. le-leb (num_in f) data_most (num_most (kind_in f) (num_in f) p.1)));
          ends = rw (lt-leb (length f) second_at (omega arith), lt-leb (length f) frame_num_at (omega arith), e, n);
        }

pub whole_form : (f : List ℕ) → 2 ≤ length f → eqb (get_or f 0 0) start ≡ true → command_known (command_in f) ≡ true → form_right f ≡ true
    → Whole step f
unfolding step
whole_form f two s c r =
    let k = form f s c r in
    let (p, b, e) = snoc f (omega arith) in
    let n : length f ≡ length p + 1 = ap length e ∙ length-append p (b ∷ []) in
    let g : starts_right (p ++ (b ∷ [])) ≡ true = subst (λ (l : List ℕ). starts_right l ≡ true) e k.starts in
    let w : wanted (p ++ (b ∷ [])) ≡ length f = subst (λ (l : List ℕ). wanted l ≡ length f) e k.ends in
    let h : held p ≡ true = held_by_law p (starts_front p (b ∷ []) (omega arith) g) (wanted_front p (b ∷ []) (omega arith)) in
    let z : judged (p ++ (b ∷ [])) ≡ Finished (p ++ (b ∷ [])) = subst (λ (l : List ℕ). judged l ≡ Finished l) e (ends f k.starts (omega (arith, k.ends))) in
    subst (Whole step) (sym e)
    (whole step p b (held_leads p h) z)

-- every frame that the Datalink order does not refuse before LRC, range and read-only
pub whole_asked : (ia : ℕ) (f : List ℕ) → (asked ia f ≡ refused frame_form → ⊥) → (asked ia f ≡ refused foreign_address → ⊥) → (asked ia f ≡ refused command_unknown → ⊥)
    → Whole step f
unfolding asked
whole_asked ia f no3 no2 no5 =
    let a = passed _ _ _ no3 in
    let b = passed _ _ _ (λ e. no3 (a.1 ∙ e)) in
    let ab = a.1 ∙ b.1 in
    let c = passed _ _ _ (λ e. no2 (ab ∙ e)) in
    let abc = ab ∙ c.1 in
    let d = passed _ _ _ (λ e. no5 (abc ∙ e)) in
    let g = passed _ _ _ (λ e. no3 (abc ∙ d.1 ∙ e)) in
    whole_form f (between_facts shortest longest (length f) a.0).0 b.0 d.0 g.0

-- a part frame has room for one byte more
wanted_most : (f : List ℕ) → starts_right f ≡ true → wanted f ≤ longest
unfolding starts_right wanted once_come
wanted_most f h =
    by_choice (λ (w : ℕ). w ≤ longest) (leb (length f) second_at) _ _ (λ _. omega arith)
    (λ _. by_choice (λ (w : ℕ). w ≤ longest) (is_acknowledge f) _ _ (λ _. omega arith)
    (λ _. by_choice (λ (w : ℕ). w ≤ longest) (leb (length f) frame_num_at) _ _ (λ _. omega arith)
    (λ t.
    let a = and_true (eqb (get_or f 0 0) start) _ h in
    let b = and_true (leb (length f) second_at || command_known (command_in f)) _ a.1 in
    let n : num_in f ≤ data_most = leb-true (num_in f) data_most (rw t at b.1) in
    omega (arith, carried_most (kind_in f) (num_in f)))))
  where
    carried_most : (kind num : ℕ) → carried kind num ≤ num
    carried_most kind num = unfold carried in by_choice (λ (w : ℕ). w ≤ num) (eqb kind 0) _ _ (λ _. omega arith) (λ _. omega arith)

pub room : (part : List ℕ) → held part ≡ true → length part < longest
room [] h = omega arith
room (x ∷ part) h = let k = held_facts (x ∷ part) (omega arith) h in omega (arith, k.1, wanted_most (x ∷ part) k.0)

-- where a byte goes, by how many bytes were collected
pub first_goes : (p : List ℕ) (b : ℕ) → length p + 1 < shortest → b ≡ start → Placed step longest p b Behind
unfolding step judged starts_right once_come wanted choose
first_goes [] b n e = record { fate = rw (eq-eqb b start e); room = omega arith }
first_goes (x ∷ p) b n e = let z : ⊥ = omega arith in absurd z

pub first_drops : (p : List ℕ) (b : ℕ) → length p + 1 < shortest → (b ≡ start → ⊥) → Placed step longest p b Nowhere
unfolding step judged starts_right once_come wanted choose
first_drops [] b n e = record { fate = rw (ne_eqb b start e); room = tt }
first_drops (x ∷ p) b n e = let z : ⊥ = omega arith in absurd z

-- what has come of a part frame with a second byte
record Come (x y : ℕ) : Type 0 where
  starts : eqb x start ≡ true
  known : command_known (command_of y) ≡ true
  goes : eqb (command_of y) acknowledge_bits ≡ false

come : (x y : ℕ) (p : List ℕ) → held (x ∷ y ∷ p) ≡ true → Come x y
unfolding starts_right once_come wanted command_in is_acknowledge command_of choose
come x y p h =
    let k = held_facts (x ∷ y ∷ p) (omega arith) h in
    let a = and_true (eqb x start) _ k.0 in
    let l = lt-leb (length (x ∷ y ∷ p)) second_at (omega arith) in
    let b = and_true (command_known (command_of y)) _ (rw l at a.1) in
    record { starts = a.0; known = b.0; goes = go (eqb (command_of y) acknowledge_bits) refl k.1 }
  where
    go : (t : Bool) → eqb (command_of y) acknowledge_bits ≡ t → length (x ∷ y ∷ p) < wanted (x ∷ y ∷ p) → t ≡ false
    go true e l = let z : length (x ∷ y ∷ p) < acknowledge_size = rw (e, lt-leb (length (x ∷ y ∷ p)) second_at (omega arith)) at l in let w : ⊥ = omega arith in absurd w
    go false e l = refl

pub second_goes : (p : List ℕ) (b : ℕ) → length p ≡ second_at → held p ≡ true → Placed step longest p b (second_place b)
unfolding step judged starts_right once_come wanted command_in is_acknowledge command_of second_place choose
second_goes [] b n h = let z : ⊥ = omega arith in absurd z
second_goes (x ∷ []) b n h = go (command_known (command_of b)) (eqb (command_of b) acknowledge_bits) refl refl
  where
    starts : eqb x start ≡ true
    starts = (and_true (eqb x start) _ (held_facts (x ∷ []) (omega arith) h).0).0

    go : (s t : Bool) → command_known (command_of b) ≡ s → eqb (command_of b) acknowledge_bits ≡ t → Placed step longest (x ∷ []) b (choose s (choose t Last Behind) Nowhere)
    go true true e g = record { fate = rw (starts, e, g); room = omega arith }
    go true false e g = record { fate = rw (starts, e, g); room = omega arith }
    go false t e g = record { fate = rw (starts, e); room = tt }
second_goes (x ∷ y ∷ p) b n h = let z : ⊥ = omega arith in absurd z

pub num_goes : (p : List ℕ) (b : ℕ) → length p ≡ frame_num_at → held p ≡ true → b ≤ data_most → Placed step longest p b Behind
unfolding step judged starts_right once_come wanted command_in is_acknowledge command_of kind_in num_in choose
num_goes [] b n h l = let z : ⊥ = omega arith in absurd z
num_goes (x ∷ []) b n h l = let z : ⊥ = omega arith in absurd z
num_goes (x ∷ y ∷ []) b n h l =
    let k = come x y [] h in
    record { fate = rw (k.starts, k.known, k.goes, le-leb b data_most l, lt-leb (bare_size + carried (kind_of (command_of y)) b) 3 (omega arith)); room = omega arith }
num_goes (x ∷ y ∷ z ∷ p) b n h l = let z : ⊥ = omega arith in absurd z

pub num_drops : (p : List ℕ) (b : ℕ) → length p ≡ frame_num_at → held p ≡ true → data_most < b → Placed step longest p b Nowhere
unfolding step judged starts_right once_come wanted command_in is_acknowledge command_of kind_in num_in choose
num_drops [] b n h l = let z : ⊥ = omega arith in absurd z
num_drops (x ∷ []) b n h l = let z : ⊥ = omega arith in absurd z
num_drops (x ∷ y ∷ []) b n h l =
    let k = come x y [] h in
    record { fate = rw (k.starts, k.known, lt-leb b data_most l); room = tt }
num_drops (x ∷ y ∷ z ∷ p) b n h l = let z : ⊥ = omega arith in absurd z

-- behind NUM the frame's size decides
behind_num : (x y z : ℕ) (p : List ℕ) (b : ℕ) → held (x ∷ y ∷ z ∷ p) ≡ true
    → step (x ∷ y ∷ z ∷ p) b ≡ choose (leb (size_of y z) (length (x ∷ y ∷ z ∷ p) + 1)) (Finished ((x ∷ y ∷ z ∷ p) ++ (b ∷ []))) (Kept ((x ∷ y ∷ z ∷ p) ++ (b ∷ [])))
unfolding step judged starts_right once_come wanted command_in is_acknowledge command_of kind_in num_in size_of choose
behind_num x y z p b h =
    let k = come x y (z ∷ p) h in
    let s = held_facts (x ∷ y ∷ z ∷ p) (omega arith) h in
    let a = and_true (eqb x start) _ s.0 in
    let one = lt-leb (length (x ∷ y ∷ z ∷ p)) second_at (omega arith) in
    let two = lt-leb (length (x ∷ y ∷ z ∷ p)) frame_num_at (omega arith) in
    let n : leb z data_most ≡ true = (and_true (command_known (command_of y)) _ (rw (one, two) at a.1)).1 in
    let l : length ((x ∷ y ∷ z ∷ p) ++ (b ∷ [])) ≡ length (x ∷ y ∷ z ∷ p) + 1 = length-append (x ∷ y ∷ z ∷ p) (b ∷ []) in
    rw (lt-leb (length ((x ∷ y ∷ z ∷ p) ++ (b ∷ []))) second_at (omega arith), lt-leb (length ((x ∷ y ∷ z ∷ p) ++ (b ∷ []))) frame_num_at (omega arith), l, k.starts, k.known, k.goes, n)

pub later_ends : (p : List ℕ) (b : ℕ) → frame_num_at < length p → held p ≡ true → size_of (get_or p second_at 0) (get_or p frame_num_at 0) ≤ length p + 1 → Placed step longest p b Last
unfolding choose
later_ends [] b n h l = let z : ⊥ = omega arith in absurd z
later_ends (x ∷ []) b n h l = let z : ⊥ = omega arith in absurd z
later_ends (x ∷ y ∷ []) b n h l = let z : ⊥ = omega arith in absurd z
later_ends (x ∷ y ∷ z ∷ p) b n h l = record { fate = behind_num x y z p b h ∙ rw (le-leb (size_of y z) _ l); room = room (x ∷ y ∷ z ∷ p) h }

pub later_goes : (p : List ℕ) (b : ℕ) → frame_num_at < length p → held p ≡ true → length p + 1 < size_of (get_or p second_at 0) (get_or p frame_num_at 0) → Placed step longest p b Behind
unfolding choose
later_goes [] b n h l = let z : ⊥ = omega arith in absurd z
later_goes (x ∷ []) b n h l = let z : ⊥ = omega arith in absurd z
later_goes (x ∷ y ∷ []) b n h l = let z : ⊥ = omega arith in absurd z
later_goes (x ∷ y ∷ z ∷ p) b n h l = record { fate = behind_num x y z p b h ∙ rw (lt-leb (size_of y z) _ l); room = room (x ∷ y ∷ z ∷ p) h }

-- the test of a part frame by how many bytes it has
pub held_stages : (p : List ℕ)
    → held p
    ≡ choose (eqb (length p) 0) true
    (choose (eqb (get_or p 0 0) start)
    (choose (eqb (length p) second_at) true
    (choose (goes_on (get_or p second_at 0))
    (choose (eqb (length p) frame_num_at) true (held_with_num p))
    false))
    false)
unfolding held starts_right once_come wanted command_in is_acknowledge kind_in num_in goes_on command_of size_of held_with_num choose
held_stages [] = refl
held_stages (x ∷ []) = go (eqb x start)
  where
    go : (s : Bool) → ((s && (true && true)) && true) ≡ choose s true false
    go true = refl
    go false = refl
held_stages (x ∷ y ∷ []) = go (eqb x start) (command_known (command_of y)) (eqb (command_of y) acknowledge_bits)
  where
    go : (s k a : Bool) → ((s && (k && true)) && ltb 2 (choose a 2 longest)) ≡ choose s (choose (k && not a) true false) false
    go true true true = refl
    go true true false = refl
    go true false a = refl
    go false k a = refl
held_stages (x ∷ y ∷ z ∷ p) =
    rw (ne_eqb n 0 (λ e. omega arith), ne_eqb n second_at (λ e. omega arith), ne_eqb n frame_num_at (λ e. omega arith), lt-leb n second_at (omega arith), lt-leb n frame_num_at (omega arith))
    (go (eqb x start) (command_known (command_of y)) (eqb (command_of y) acknowledge_bits))
  where
    n : ℕ
    n = length (x ∷ y ∷ z ∷ p)

    size : ℕ
    size = bare_size + carried (kind_of (command_of y)) z

    go : (s k a : Bool) → ((s && (k && leb z data_most)) && ltb n (choose a 2 size)) ≡ choose s (choose (k && not a) (leb z data_most && ltb n size) false) false
    go true true true = rw (le-ltb n 2 (omega arith)) (and_false_right (leb z data_most))
    go true true false = refl
    go true false a = refl
    go false k a = refl

-- behind NUM bytes are kept until the last
pub sure_num : (p : List ℕ) (n : ℕ) → frame_num_at < length p → held p ≡ true → length p + n + 1 ≡ size_of (get_or p second_at 0) (get_or p frame_num_at 0) → Sure held longest p n
unfolding held_with_num num_in choose
sure_num [] n l h e = let z : ⊥ = omega arith in absurd z
sure_num (x ∷ []) n l h e = let z : ⊥ = omega arith in absurd z
sure_num (x ∷ y ∷ []) n l h e = let z : ⊥ = omega arith in absurd z
sure_num (x ∷ y ∷ z ∷ p) n l h e =
    record {
      kept = λ more k.
          let c = come x y (z ∷ p) h in
          let q = x ∷ y ∷ z ∷ (p ++ more) in
          let long : length q ≡ length (x ∷ y ∷ z ∷ p) + length more = length-append (x ∷ y ∷ z ∷ p) more in
          held_stages q ∙ rw (ne_eqb (length q) 0 (λ i. omega arith), c.starts, ne_eqb (length q) second_at (λ i. omega arith), goes c, ne_eqb (length q) frame_num_at (λ i. omega arith), few, lt-ltb (length q) (size_of y z) (omega arith));
      room = omega (arith, most);
    }
  where
    m : ℕ
    m = length (x ∷ y ∷ z ∷ p)

    goes : Come x y → goes_on y ≡ true
    goes c = unfold goes_on in rw (c.known, c.goes)

    facts : (starts_right (x ∷ y ∷ z ∷ p) ≡ true) × (length (x ∷ y ∷ z ∷ p) < wanted (x ∷ y ∷ z ∷ p))
    facts = held_facts (x ∷ y ∷ z ∷ p) (omega arith) h

    few : leb z data_most ≡ true
    few =
        unfold starts_right once_come in
        let a = and_true (eqb x start) _ facts.0 in
        (and_true (command_known (command_in (x ∷ y ∷ z ∷ p))) _ (rw (lt-leb m second_at (omega arith), lt-leb m frame_num_at (omega arith)) at a.1)).1

    most : size_of y z ≤ longest
    most = unfold size_of carried in by_choice (λ (w : ℕ). bare_size + w ≤ longest) (eqb (kind_of (command_of y)) no_change) _ _ (λ _. omega arith) (λ _. omega (arith, leb-true z data_most few))

pub missing : (p : List ℕ) → frame_num_at < length p → held p ≡ true → length p < size_of (get_or p second_at 0) (get_or p frame_num_at 0)
unfolding wanted is_acknowledge command_in kind_in num_in size_of command_of choose
missing [] l h = let z : ⊥ = omega arith in absurd z
missing (x ∷ []) l h = let z : ⊥ = omega arith in absurd z
missing (x ∷ y ∷ []) l h = let z : ⊥ = omega arith in absurd z
missing (x ∷ y ∷ z ∷ p) l h =
    let m = length (x ∷ y ∷ z ∷ p) in
    rw (lt-leb m second_at (omega arith), lt-leb m frame_num_at (omega arith), (come x y (z ∷ p) h).goes) at (held_facts (x ∷ y ∷ z ∷ p) (omega arith) h).1
