-- A call of a receiver byte by byte: what one byte leaves in the row, and what the bytes so far have left. Assumes nothing.
use Rattle.std.proofs.Common.{◌≡◌, refl, sym, ap, ◌∙◌, subst, true, List, [], ◌∷◌, ◌++◌, ℕ, zero, suc, ◌+◌, ◌-◌, ◌≤◌, ◌<◌, zero-add, add-one, arith, length, get_or, take, drop, set, length-append, length-set, length-drop, drop_of_length-le, take-append-drop, drop-cons, drop-drop, length-take-le}
use lib.Seq.{append_snoc, sets}
use Rattle.wire.specs.Buffer.{put, overlay, part}
use Rattle.wire.proofs.Buffers.{overlay_none, overlay_set, put_sets, part_rest}
use Rattle.receiver.specs.Place.{Sure}
use Rattle.receiver.specs.Step.Fate.{Kept, Dropped, Finished}
use Rattle.receiver.specs.Line.{Collected, counted, onward, collect}
use Rattle.receiver.specs.Store.{storing, stored}
use Rattle.card.specs.Layout.{row_size}
use Rattle.card.specs.Reply.{Wrote}
use Rattle.receive.specs.Parts.{step_of, longest_of, held_by, bytes_at, front}
use Rattle.receive.specs.Stages.{Held, GoesOn, later, SoFar, Skipped, TookAll}
use Rattle.receive.specs.Receive.{frame_in}
use Rattle.receive.specs.declared.Dialect.{Dialect}
use Rattle.receive.specs.declared.Dialect.TheVariants.{Lucid}
use Rattle.receive.proofs.Parts.{part_inside, longest_some, kept_by, stays_held, held_rest, front_length, slice_front}

-- a byte is kept, and stands last in its part frame
kept : (d : Dialect) (part : List ℕ) (b : ℕ) (row q : List ℕ) (n : ℕ) (row' : List ℕ) → step_of d part b ≡ Kept q → held_by d part ≡ true
    → row' ≡ set row (bytes_at d + (length q - 1)) b → front d n row' ≡ q → n ≤ longest_of d → GoesOn d part b row n row'
unfolding collect onward stored storing
kept d part b row q n row' e h s f l =
    record {
      collects = λ bytes. rw e (ap (λ (p : List ℕ). counted (collect (step_of d) p bytes)) (sym f));
      stores = λ bytes. rw e (ap (λ (r : List ℕ). stored (step_of d) (bytes_at d) q bytes r) (sym s) ∙ ap (λ (p : List ℕ). stored (step_of d) (bytes_at d) p bytes row') (sym f));
      holds = record { few = l; held = subst (λ (p : List ℕ). held_by d p ≡ true) (sym f) (stays_held d part b q h e) };
    }

-- a byte stored behind n others
front_behind : (at n i : ℕ) (row : List ℕ) (b : ℕ) → at + n ≡ i → i < length row → take (suc n) (drop at (set row i b)) ≡ take n (drop at row) ++ (b ∷ [])
front_behind at n i [] b e h = let z : ⊥ = omega arith in absurd z
front_behind zero zero zero (x ∷ row) b e h = refl
front_behind zero zero (suc i) (x ∷ row) b e h = let z : ⊥ = omega arith in absurd z
front_behind zero (suc n) zero (x ∷ row) b e h = let z : ⊥ = omega arith in absurd z
front_behind zero (suc n) (suc i) (x ∷ row) b e h = ap (λ (l : List ℕ). x ∷ l) (front_behind zero n i row b (omega arith) (omega arith))
front_behind (suc at) n zero (x ∷ row) b e h = let z : ⊥ = omega arith in absurd z
front_behind (suc at) n (suc i) (x ∷ row) b e h = front_behind at n i row b (omega arith) (omega arith)

module _ (d : Dialect) (n : ℕ) (row : List ℕ) (b : ℕ) (long : length row ≡ row_size) (k : Held d n row) where
  abbrev here : List ℕ
  here = front d n row

  pub goes_behind : step_of d here b ≡ Kept (here ++ (b ∷ [])) → length here < longest_of d → GoesOn d here b row (n + 1) (set row (bytes_at d + n) b)
  goes_behind e room =
      let l : length here ≡ n = front_length d n row long k.few in
      let m : length (here ++ (b ∷ [])) - 1 ≡ n = omega (arith, length-append here (b ∷ [])) in
      kept d here b row (here ++ (b ∷ [])) (n + 1) (set row (bytes_at d + n) b) e k.held
      (ap (λ (i : ℕ). set row (bytes_at d + i) b) (sym m))
      (rw (add-one n) (front_behind (bytes_at d) n (bytes_at d + n) row b refl (omega (arith, part_inside d))))
      (omega arith)

  pub goes_first : step_of d here b ≡ Kept (b ∷ []) → 1 ≤ longest_of d → GoesOn d here b row 1 (set row (bytes_at d) b)
  goes_first e some =
      let z : bytes_at d + 0 ≡ bytes_at d = omega arith in
      kept d here b row (b ∷ []) 1 (set row (bytes_at d) b) e k.held (ap (λ (i : ℕ). set row i b) (sym z)) (front_behind (bytes_at d) 0 (bytes_at d) row b z (omega (arith, part_inside d))) some

  pub goes_nowhere : step_of d here b ≡ Dropped → GoesOn d here b row 0 row
  unfolding collect onward stored storing
  goes_nowhere e =
      record { collects = λ bytes. rw e refl; stores = λ bytes. rw e refl; holds = record { few = omega arith; held = held_rest d } }

pub none_yet : (d : Dialect) (n : ℕ) (row bytes : List ℕ) → SoFar d n row bytes 0 n row
none_yet d n row bytes =
    let c = collect (step_of d) (front d n row) bytes in
    let z : 0 + c.taken ≡ c.taken = omega arith in
    record { collects = λ i. record { taken = sym z i; handed = c.handed; part = c.part }; stores = refl }

module _ (d : Dialect) (n : ℕ) (row bytes : List ℕ) (i count : ℕ) (row' : List ℕ) (s : SoFar d n row bytes i count row') where
  pub one_more : (m : ℕ) (row'' : List ℕ) → i < length bytes → GoesOn d (front d count row') (get_or bytes i 0) row' m row'' → SoFar d n row bytes (i + 1) m row''
  unfolding counted
  one_more m row'' h g =
      let e = drop-cons bytes i 0 h in
      let rest = drop (suc i) bytes in
      let c = collect (step_of d) (front d m row'') rest in
      let t : i + suc c.taken ≡ i + 1 + c.taken = omega arith in
      rw (add-one i)
      (record {
        collects = s.collects ∙ ap (λ (l : List ℕ). later i (collect (step_of d) (front d count row') l)) e ∙ ap (later i) (g.collects rest) ∙ (λ j. record { taken = (t ∙ ap (λ (k : ℕ). k + c.taken) (add-one i)) j; handed = c.handed; part = c.part });
        stores = s.stores ∙ ap (λ (l : List ℕ). stored (step_of d) (bytes_at d) (front d count row') l row') e ∙ g.stores rest;
      })

  pub at_end : length bytes ≤ i → collect (step_of d) (front d n row) bytes ≡ record { taken = i; handed = []; part = front d count row' }
  unfolding collect
  at_end h =
      let z : i + 0 ≡ i = omega arith in
      s.collects ∙ ap (λ (l : List ℕ). later i (collect (step_of d) (front d count row') l)) (drop_of_length-le bytes {i = i} h) ∙ (λ j. record { taken = z j; handed = []; part = front d count row' })

  pub end_stores : length bytes ≤ i → stored (step_of d) (bytes_at d) (front d n row) bytes row ≡ row'
  unfolding stored
  end_stores h = s.stores ∙ ap (λ (l : List ℕ). stored (step_of d) (bytes_at d) (front d count row') l row') (drop_of_length-le bytes {i = i} h)

  pub at_frame : (f : List ℕ) → i < length bytes → step_of d (front d count row') (get_or bytes i 0) ≡ Finished f
      → collect (step_of d) (front d n row) bytes ≡ record { taken = i + 1; handed = f ∷ []; part = [] }
  unfolding collect onward
  at_frame f h e = s.collects ∙ ap (λ (l : List ℕ). later i (collect (step_of d) (front d count row') l)) (drop-cons bytes i 0 h) ∙ rw e refl

  pub frame_stores : (f : List ℕ) → i < length bytes → step_of d (front d count row') (get_or bytes i 0) ≡ Finished f → stored (step_of d) (bytes_at d) (front d n row) bytes row ≡ row'
  unfolding stored storing
  frame_stores f h e = s.stores ∙ ap (λ (l : List ℕ). stored (step_of d) (bytes_at d) (front d count row') l row') (drop-cons bytes i 0 h) ∙ rw e refl

-- more bytes behind those
pub so_far_then : (d : Dialect) (n : ℕ) (row bytes : List ℕ) (i count : ℕ) (row' : List ℕ) (m k : ℕ) (row'' : List ℕ) → SoFar d n row bytes i count row' → SoFar d count row' (drop i bytes) m k row'' → SoFar d n row bytes (i + m) k row''
so_far_then d n row bytes i count row' m k row'' s t =
    let e : drop m (drop i bytes) ≡ drop (i + m) bytes = drop-drop m i bytes in
    let c = collect (step_of d) (front d k row'') (drop (i + m) bytes) in
    let a : i + (m + c.taken) ≡ i + m + c.taken = omega arith in
    record {
      collects = s.collects ∙ ap (later i) (t.collects ∙ ap (λ (l : List ℕ). later m (collect (step_of d) (front d k row'') l)) e) ∙ (λ j. record { taken = a j; handed = c.handed; part = c.part });
      stores = s.stores ∙ t.stores ∙ ap (λ (l : List ℕ). stored (step_of d) (bytes_at d) (front d k row'') l row'') e;
    }

-- bytes that are all kept, one behind the other
kept_all : (d : Dialect) (xs ys : List ℕ) (n : ℕ) (row : List ℕ) → length row ≡ row_size → Held d n row → held_by d (front d n row ++ xs) ≡ true → n + length xs ≤ longest_of d
    → SoFar d n row (xs ++ ys) (length xs) (n + length xs) (sets row (bytes_at d + n) xs) × Held d (n + length xs) (sets row (bytes_at d + n) xs)
kept_all d [] ys n row l k h m =
    let z : n + 0 ≡ n = omega arith in
    (subst (λ (j : ℕ). SoFar d n row ys 0 j row) (sym z) (none_yet d n row ys), subst (λ (j : ℕ). Held d j row) (sym z) k)
kept_all d (b ∷ xs) ys n row l k h m =
    let e = kept_by d (front d n row) b xs h in
    let g = goes_behind d n row b l k e (omega (arith, front_length d n row l k.few)) in
    let row' = set row (bytes_at d + n) b in
    let one : SoFar d n row (b ∷ (xs ++ ys)) (0 + 1) (n + 1) row' = one_more d n row (b ∷ (xs ++ ys)) 0 n row (none_yet d n row (b ∷ (xs ++ ys))) (n + 1) row' (omega arith) g in
    let front' : front d (n + 1) row' ≡ front d n row ++ (b ∷ []) = rw (add-one n) (front_behind (bytes_at d) n (bytes_at d + n) row b refl (omega (arith, part_inside d))) in
    let held' : held_by d (front d (n + 1) row' ++ xs) ≡ true = subst (λ (p : List ℕ). held_by d (p ++ xs) ≡ true) (sym front') (subst (λ (p : List ℕ). held_by d p ≡ true) (sym (append_snoc (front d n row) b xs)) h) in
    let rest = kept_all d xs ys (n + 1) row' (length-set row (bytes_at d + n) b ∙ l) g.holds held' (omega arith) in
    let at : bytes_at d + (n + 1) ≡ suc (bytes_at d + n) = omega arith in
    let sum : n + 1 + length xs ≡ n + suc (length xs) = omega arith in
    let rest' : SoFar d (n + 1) row' (xs ++ ys) (length xs) (n + suc (length xs)) (sets row' (suc (bytes_at d + n)) xs) × Held d (n + suc (length xs)) (sets row' (suc (bytes_at d + n)) xs) =
    subst (λ (j : ℕ). SoFar d (n + 1) row' (xs ++ ys) (length xs) j (sets row' (suc (bytes_at d + n)) xs) × Held d j (sets row' (suc (bytes_at d + n)) xs)) sum
    (subst (λ (j : ℕ). SoFar d (n + 1) row' (xs ++ ys) (length xs) (n + 1 + length xs) (sets row' j xs) × Held d (n + 1 + length xs) (sets row' j xs)) at rest) in
    let up : 1 + length xs ≡ suc (length xs) = omega arith in (
      subst (λ (j : ℕ). SoFar d n row (b ∷ (xs ++ ys)) j (n + suc (length xs)) (sets row' (suc (bytes_at d + n)) xs)) up
          (so_far_then d n row (b ∷ (xs ++ ys)) 1 (n + 1) row' (length xs) (n + suc (length xs)) (sets row' (suc (bytes_at d + n)) xs) one rest'.0),
      rest'.1,
    )

pub skipped : (d : Dialect) (bytes : List ℕ) (n m : ℕ) (row : List ℕ) (most : ℕ) → length row ≡ row_size → Held d n row → Sure (held_by d) (longest_of d) (front d n row) most → m ≤ most → m < length bytes
    → Skipped d n row bytes m (put row (bytes_at d + n) (take m bytes))
skipped d bytes n m row most l k s h f =
    let xs = take m bytes in
    let len : length xs ≡ m = length-take-le m bytes (omega arith) in
    let fl = front_length d n row l k.few in
    let r = kept_all d xs (drop m bytes) n row l k (s.kept xs (omega arith)) (omega (arith, s.room)) in
    let p : sets row (bytes_at d + n) xs ≡ put row (bytes_at d + n) xs = put_sets xs row (bytes_at d + n) (omega (arith, s.room, part_inside d)) in
    record {
      fewer = f;
      holds = subst (λ (x : List ℕ). Held d (n + m) x) p (subst (λ (j : ℕ). Held d (n + j) (sets row (bytes_at d + n) xs)) len r.1);
      sofar = subst (λ (x : List ℕ). SoFar d n row bytes m (n + m) x) p
          (subst (λ (j : ℕ). SoFar d n row bytes j (n + j) (sets row (bytes_at d + n) xs)) len (subst (λ (y : List ℕ). SoFar d n row y (length xs) (n + length xs) (sets row (bytes_at d + n) xs)) (take-append-drop m bytes) r.0));
    }

-- what is so at each turn of the loop
pub record Turn (d : Dialect) (n : ℕ) (row bytes frame row' frame' : List ℕ) (count i : ℕ) : Type 0 where
  pub near : i ≤ length bytes
  pub long : length row' ≡ row_size
  pub lent : frame' ≡ frame
  pub holds : Held d count row'
  pub sofar : SoFar d n row bytes i count row'

-- none of them
pub skipped_none : (d : Dialect) (bytes : List ℕ) (n : ℕ) (row : List ℕ) → Held d n row → 0 < length bytes → Skipped d n row bytes 0 row
skipped_none d bytes n row k h =
    let z : n + 0 ≡ n = omega arith in
    record { fewer = h; holds = subst (λ (j : ℕ). Held d j row) (sym z) k; sofar = subst (λ (j : ℕ). SoFar d n row bytes 0 j row) (sym z) (none_yet d n row bytes) }

-- a turn begins with the bytes that are kept whatever they are
pub after_skip : (d : Dialect) (n : ℕ) (row bytes frame row' frame' : List ℕ) (count i m : ℕ) (row'' : List ℕ) → Turn d n row bytes frame row' frame' count i → length row'' ≡ length row' → Skipped d count row' (part bytes i (length bytes)) m row''
    → Turn d n row bytes frame row'' frame' (count + m) (i + m)
after_skip d n row bytes frame row' frame' count i m row'' t l k' =
    let k = subst (λ (x : List ℕ). Skipped d count row' x m row'') (part_rest bytes i) k' in
    record {
      near = omega (arith, t.near, k.fewer, length-drop i bytes);
      long = l ∙ t.long;
      lent = t.lent;
      holds = k.holds;
      sofar = so_far_then d n row bytes i count row' m (count + m) row'' t.sofar k.sofar;
    }

-- behind the bytes that were skipped stands one more, and their count stays small
pub behind_skip : (d : Dialect) (count : ℕ) (row bytes : List ℕ) (i m : ℕ) (row' : List ℕ) → Skipped d count row (part bytes i (length bytes)) m row'
    → (i + m < length bytes) × (count + m ≤ longest_of Lucid)
behind_skip d count row bytes i m row' k =
    (omega (arith, k.fewer, ap length (part_rest bytes i), length-drop i bytes), omega (arith, k.holds.few, (longest_some d).1))

module _ (d : Dialect) (n : ℕ) (row bytes frame row' frame' : List ℕ) (count i : ℕ) (t : Turn d n row bytes frame row' frame' count i) where
  -- no byte is left
  pub took_none : length bytes ≤ i → TookAll d n row bytes frame (record { taken = i; len = 0; count = count }) row' frame'
  took_none h =
      let e = at_end d n row bytes i count row' t.sofar h in
      record {
        taken = sym (ap (λ (c : Collected). c.taken) e);
        wrote = subst (λ (c : Collected). Wrote (frame_in c.handed) frame 0 frame') (sym e) (record { measured = refl; written = t.lent ∙ sym (overlay_none frame) });
        counted = sym (ap (λ (c : Collected). length c.part) e ∙ front_length d count row' t.long t.holds.few);
        few = t.holds.few;
        stands = sym (end_stores d n row bytes i count row' t.sofar h);
      }

  -- a byte finished a frame
  pub took_frame : (len : ℕ) (row'' frame'' : List ℕ) → i < length bytes → step_of d (front d count row') (get_or bytes i 0) ≡ Finished (front d count row' ++ (get_or bytes i 0 ∷ [])) → row'' ≡ row'
      → Wrote (front d count row'' ++ (get_or bytes i 0 ∷ [])) frame' len frame'' → TookAll d n row bytes frame (record { taken = i + 1; len = len; count = 0 }) row'' frame''
  took_frame len row'' frame'' h f r w =
      let e = at_frame d n row bytes i count row' t.sofar _ h f in
      record {
        taken = sym (ap (λ (c : Collected). c.taken) e);
        wrote = subst (λ (c : Collected). Wrote (frame_in c.handed) frame len frame'') (sym e)
            (subst (λ (x : List ℕ). Wrote (front d count row' ++ (get_or bytes i 0 ∷ [])) x len frame'') t.lent (subst (λ (x : List ℕ). Wrote (front d count x ++ (get_or bytes i 0 ∷ [])) frame' len frame'') r w));
        counted = sym (ap (λ (c : Collected). length c.part) e);
        few = omega arith;
        stands = r ∙ sym (frame_stores d n row bytes i count row' t.sofar _ h f);
      }

  -- a byte left so many bytes collected
  pub turned : (m : ℕ) (row'' : List ℕ) → i < length bytes → length row'' ≡ length row' → GoesOn d (front d count row') (get_or bytes i 0) row' m row'' → Turn d n row bytes frame row'' frame' m (i + 1)
  turned m row'' h l g =
      record { near = omega arith; long = l ∙ t.long; lent = t.lent; holds = g.holds; sofar = one_more d n row bytes i count row' t.sofar m row'' h g }

-- the part frame copied to the front of a buffer, and its last byte behind it
pub wrote_frame : (d : Dialect) (n : ℕ) (row : List ℕ) (last : ℕ) (frame : List ℕ) {first : ℕ} {mid : List ℕ} → first ≡ bytes_at d → length row ≡ row_size → n ≤ longest_of d → n < length frame
    → mid ≡ put frame 0 (part row first (first + n)) → Wrote (front d n row ++ (last ∷ [])) frame (n + 1) (set mid n last)
unfolding put overlay
wrote_frame d n row last frame {first} {mid} e l few h m =
    let f = front d n row in
    let k : length f ≡ n = front_length d n row l few in
    let c : mid ≡ overlay f frame = m ∙ ap (put frame 0) (slice_front d first n row e) ∙ ap (λ (i : ℕ). f ++ drop i frame) (zero-add (length f)) in
    record {
      measured = sym (length-append f (last ∷ []) ∙ ap (λ (i : ℕ). i + 1) k);
      written = ap (λ (x : List ℕ). set x n last) c ∙ subst (λ (i : ℕ). set (overlay f frame) i last ≡ overlay (f ++ (last ∷ [])) frame) k (overlay_set f frame last (omega arith));
    }
