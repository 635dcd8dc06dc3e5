-- The row after a call: the dialect's part frame stands in it as the line has it, and the rest of the row stays. Assumes nothing.
use Rattle.std.proofs.Common.{◌≡◌, refl, sym, ap, ap₂, ◌∙◌, subst, Bool, true, false, ◌&&◌, List, [], ◌∷◌, ◌++◌, ◌⊎◌, inl, inr, ℕ, zero, suc, ◌+◌, ◌-◌, ◌*◌, ◌/◌, ◌%◌, ◌≤◌, ◌<◌, arith, leb-true, le-leb, leb, length, get_or, take, drop, set, length-append, length-set, get_or-take, get_or-drop, get_or-set_same, get_or-set_other, drop-set-lt, take-take, drop-drop}
use native.Mathlib.Decide.{dec_lt}
use lib.Seq.{take-set-le}
use Rattle.wire.specs.Sum.{byte_values}
use Rattle.wire.proofs.Tests.{and_true}
use Rattle.receiver.specs.Step.{Fate}
use Rattle.receiver.specs.Step.Fate.{Kept, Dropped, Finished}
use Rattle.receiver.specs.Line.{Collected, counted, onward, collect}
use Rattle.receiver.specs.Store.{storing, stored}
use Rattle.receiver.proofs.Origin.{Sound}
use Rattle.receiver.proofs.Stored.{stored_length}
use Rattle.card.specs.Layout.{row_size, kind_at, datalink_part_at, lecom_part_at, love_part_at, lucid_part_at}
use Rattle.card.specs.Change.{two_bytes, no_change}
use Rattle.card.specs.Row.{count_at, with_count, no_parts}
use Rattle.card.specs.Entries.{dropped}
use Rattle.card.proofs.Rows.{length_with_count}
use Rattle.lucid.proofs.Fits.{Bytes}
use Rattle.datalink.proofs.Receiver as datalinkLaws
use Rattle.lecom.proofs.Receiver as lecomLaws
use Rattle.love.proofs.Receiver as loveLaws
use Rattle.lucid.proofs.Receiver as lucidLaws
use Rattle.receive.specs.Parts.{step_of, longest_of, held_by, part_at, bytes_at, front, part_of, within}
use Rattle.receive.specs.Receive.{collected_row}
use Rattle.receive.specs.Stages.{Held, GoesOn}
use Rattle.receive.specs.declared.Dialect.{Dialect}
use Rattle.receive.specs.declared.Dialect.TheVariants.{Datalink, Lecom, Love, Lucid}
use Rattle.receive.proofs.Parts.{part_behind, part_inside, longest_some, stays_held, held_rest, front_length}
use Rattle.receive.proofs.Gathering.{goes_behind, goes_first, goes_nowhere}

-- a byte is added, or starts anew as at rest, or drops all, or finishes the frame of the part and itself
pub sound : (d : Dialect) (part : List ℕ) (b : ℕ) → Sound (step_of d) part b (step_of d part b)
sound Datalink part b = datalinkLaws.sound part b
sound Lecom part b = lecomLaws.sound part b
sound Love part b = loveLaws.sound part b
sound Lucid part b = lucidLaws.sound part b

-- a part frame of bytes is no longer than the longest frame
pub held_few : (d : Dialect) (p : List ℕ) → Bytes p → held_by d p ≡ true → length p ≤ longest_of d
held_few Datalink p t h = omega (arith, datalinkLaws.room p h)
held_few Lecom p t h = lecomLaws.held_few p h
held_few Love p t h = loveLaws.held_few p h
held_few Lucid p t h = lucidLaws.held_few p (t 3) h

-- bytes of lists

pub bytes_front : (d : Dialect) (n : ℕ) (row : List ℕ) → Bytes row → Bytes (front d n row)
bytes_front d n row t i = go (dec_lt i n)
  where
    past : (l : List ℕ) (i n : ℕ) → n ≤ i → get_or (take n l) i 0 ≡ 0
    past [] i zero h = refl
    past [] i (suc n) h = refl
    past (x ∷ l) i zero h = refl
    past (x ∷ l) zero (suc n) h = let z : ⊥ = omega arith in absurd z
    past (x ∷ l) (suc i) (suc n) h = past l i n (omega arith)

    go : Dec (i < n) → get_or (front d n row) i 0 < 256
    go (yes k) = rw (get_or-take n (drop (bytes_at d) row) i 0 k, get_or-drop (bytes_at d) row i 0) (t (bytes_at d + i))
    go (no k) = rw (past (drop (bytes_at d) row) i n (omega arith)) (omega arith)

bytes_set : (row : List ℕ) (k b : ℕ) → Bytes row → b < 256 → Bytes (set row k b)
bytes_set [] k b t h i = t i
bytes_set (x ∷ row) zero b t h zero = h
bytes_set (x ∷ row) zero b t h (suc i) = t (suc i)
bytes_set (x ∷ row) (suc k) b t h zero = t zero
bytes_set (x ∷ row) (suc k) b t h (suc i) = bytes_set row k b (λ j. t (suc j)) h i

pub bytes_tail : (b : ℕ) (l : List ℕ) → Bytes (b ∷ l) → Bytes l
bytes_tail b l t i = t (suc i)

bytes_more : (p : List ℕ) (b : ℕ) → Bytes p → b < 256 → Bytes (p ++ (b ∷ []))
bytes_more [] b t h zero = h
bytes_more [] b t h (suc i) = omega arith
bytes_more (x ∷ p) b t h zero = t zero
bytes_more (x ∷ p) b t h (suc i) = bytes_more p b (λ j. t (suc j)) h i

-- only what stands from lo up to hi differs
pub record Inside (lo hi : ℕ) (row row' : List ℕ) : Type 0 where
  pub long : length row' ≡ length row
  pub below : take lo row' ≡ take lo row
  pub above : drop hi row' ≡ drop hi row

pub inside_none : (lo hi : ℕ) (row : List ℕ) → Inside lo hi row row
inside_none lo hi row = record { long = refl; below = refl; above = refl }

inside_then : {lo hi : ℕ} {a b c : List ℕ} → Inside lo hi a b → Inside lo hi b c → Inside lo hi a c
inside_then x y = record { long = y.long ∙ x.long; below = y.below ∙ x.below; above = y.above ∙ x.above }

pub inside_set : (lo hi : ℕ) (row : List ℕ) (i b : ℕ) → lo ≤ i → i < hi → Inside lo hi row (set row i b)
inside_set lo hi row i b l h = record { long = length-set row i b; below = take-set-le lo row i b l; above = drop-set-lt hi row i b h }

-- the dialect's bytes in the row after a call, from n bytes collected: they are the part frame that the line leaves
pub record Lands (d : Dialect) (bytes : List ℕ) (n : ℕ) (row : List ℕ) : Type 0 where
  pub part : front d (length (collect (step_of d) (front d n row) bytes).part) (stored (step_of d) (bytes_at d) (front d n row) bytes row) ≡ (collect (step_of d) (front d n row) bytes).part
  pub held : held_by d (collect (step_of d) (front d n row) bytes).part ≡ true
  pub few : length (collect (step_of d) (front d n row) bytes).part ≤ longest_of d
  pub inside : Inside (bytes_at d) (bytes_at d + longest_of d) row (stored (step_of d) (bytes_at d) (front d n row) bytes row)
  pub small : Bytes (stored (step_of d) (bytes_at d) (front d n row) bytes row)

module _ (d : Dialect) where
  -- from a row to the one that a byte leaves
  lands_on : (b : ℕ) (bytes : List ℕ) (n : ℕ) (row : List ℕ) (m : ℕ) (row' : List ℕ) → GoesOn d (front d n row) b row m row' → Inside (bytes_at d) (bytes_at d + longest_of d) row row'
      → Lands d bytes m row' → Lands d (b ∷ bytes) n row
  unfolding counted
  lands_on b bytes n row m row' g i l =
      let c = ap (λ (x : Collected). x.part) (g.collects bytes) in
      let s = g.stores bytes in
      record {
        part = ap₂ (λ (k : ℕ) (r : List ℕ). front d k r) (ap length c) s ∙ l.part ∙ sym c;
        held = ap (held_by d) c ∙ l.held;
        few = subst (λ (x : List ℕ). length x ≤ longest_of d) (sym c) l.few;
        inside = subst (Inside (bytes_at d) (bytes_at d + longest_of d) row) (sym s) (inside_then i l.inside);
        small = subst Bytes (sym s) l.small;
      }

  pub lands : (bytes : List ℕ) (n : ℕ) (row : List ℕ) → length row ≡ row_size → Held d n row → Bytes row → Bytes bytes → Lands d bytes n row
  unfolding collect onward counted stored storing
  lands [] n row l k t u =
      record {
        part = ap (λ (j : ℕ). front d j row) (front_length d n row l k.few);
        held = k.held;
        few = subst (λ (j : ℕ). j ≤ longest_of d) (sym (front_length d n row l k.few)) k.few;
        inside = inside_none _ _ row;
        small = t;
      }
  lands (b ∷ bytes) n row l k t u = go (step_of d here b) refl (sound d here b) (λ m r. lands bytes m r)
    where
      here : List ℕ
      here = front d n row

      More : Type 0
      More = (m : ℕ) (r : List ℕ) → length r ≡ row_size → Held d m r → Bytes r → Bytes bytes → Lands d bytes m r

      behind : step_of d here b ≡ Kept (here ++ (b ∷ [])) → More → Lands d (b ∷ bytes) n row
      behind e more =
          let few = held_few d (here ++ (b ∷ [])) (bytes_more here b (bytes_front d n row t) (u 0)) (stays_held d here b (here ++ (b ∷ [])) k.held e) in
          let f = front_length d n row l k.few in
          let g = goes_behind d n row b l k e (omega (arith, length-append here (b ∷ []))) in
          lands_on b bytes n row (n + 1) (set row (bytes_at d + n) b) g (inside_set _ _ row (bytes_at d + n) b (omega arith) (omega (arith, length-append here (b ∷ []))))
          (more (n + 1) (set row (bytes_at d + n) b) (length-set row (bytes_at d + n) b ∙ l) g.holds (bytes_set row (bytes_at d + n) b t (u 0)) (bytes_tail b bytes u))

      anew : step_of d here b ≡ Kept (b ∷ []) → More → Lands d (b ∷ bytes) n row
      anew e more =
          let g = goes_first d n row b l k e (longest_some d).0 in
          lands_on b bytes n row 1 (set row (bytes_at d) b) g (inside_set _ _ row (bytes_at d) b (omega arith) (omega (arith, (longest_some d).0)))
          (more 1 (set row (bytes_at d) b) (length-set row (bytes_at d) b ∙ l) g.holds (bytes_set row (bytes_at d) b t (u 0)) (bytes_tail b bytes u))

      go : (o : Fate) → step_of d here b ≡ o → Sound (step_of d) here b o → More → Lands d (b ∷ bytes) n row
      go (Kept q) e (inl s) more = behind (e ∙ ap Kept s) more
      go (Kept q) e (inr s) more = anew (e ∙ ap Kept s.0) more
      go Dropped e s more = let g = goes_nowhere d n row b l k e in lands_on b bytes n row 0 row g (inside_none _ _ row) (more 0 row l g.holds t (bytes_tail b bytes u))
      go (Finished f) e s more =
          record { part = rw e refl; held = rw e (held_rest d); few = rw e (omega arith); inside = rw e (inside_none _ _ row); small = rw e t }

-- a count, stored and read
pub count_with : (at n : ℕ) (row : List ℕ) → at + 1 < length row → n < byte_values * byte_values → count_at at (with_count at n row) ≡ n
unfolding count_at with_count two_bytes
count_with at n row h l =
    let low : get_or (set (set row at (n % byte_values)) (at + 1) (n / byte_values)) at 0 ≡ n % byte_values =
    get_or-set_other (set row at _) (at + 1) at _ 0 (λ e. omega arith) ∙ get_or-set_same row at _ 0 (omega arith) in
    let high : get_or (set (set row at (n % byte_values)) (at + 1) (n / byte_values)) (at + 1) 0 ≡ n / byte_values =
    get_or-set_same (set row at _) (at + 1) _ 0 (subst (λ (k : ℕ). at + 1 < k) (sym (length-set row at _)) h) in
    rw (low, high) (omega arith)

-- it stands before the dialect's bytes
front_count : (d : Dialect) (n m : ℕ) (row : List ℕ) → front d n (with_count (part_at d) m row) ≡ front d n row
unfolding with_count
front_count d n m row = ap (take n) (drop-set-lt (bytes_at d) (set row (part_at d) _) (part_at d + 1) _ (omega arith) ∙ drop-set-lt (bytes_at d) row (part_at d) _ (omega arith))

part_with : (d : Dialect) (n : ℕ) (row : List ℕ) → length row ≡ row_size → n ≤ longest_of d → part_of d (with_count (part_at d) n row) ≡ front d n row
part_with d n row l few =
    ap (λ (k : ℕ). front d k (with_count (part_at d) n row)) (count_with (part_at d) n row (omega (arith, part_inside d)) (omega (arith, (longest_some d).1))) ∙ front_count d n n row

-- the part frame that a call leaves is the line's
pub collected_part : (d : Dialect) (bytes row : List ℕ) → length row ≡ row_size → Held d (count_at (part_at d) row) row → Bytes row → Bytes bytes
    → part_of d (collected_row d bytes row) ≡ (collect (step_of d) (part_of d row) bytes).part
unfolding collected_row
collected_part d bytes row l k t u =
    let g = lands d bytes (count_at (part_at d) row) row l k t u in
    part_with d _ _ (stored_length (step_of d) (bytes_at d) bytes (part_of d row) row ∙ l) g.few ∙ g.part

-- a part frame that is dropped
pub dropped_part : (d : Dialect) (row : List ℕ) → length row ≡ row_size → part_of d (with_count (part_at d) 0 row) ≡ []
dropped_part d row l = part_with d 0 row l (omega arith)

-- another part frame's count is no byte of this one's
count_apart : (at at' n : ℕ) (row : List ℕ) → (at + 1 < at') ⊎ (at' + 1 < at) → count_at at (with_count at' n row) ≡ count_at at row
unfolding count_at with_count
count_apart at at' n row (inl h) = ap₂ two_bytes (same at (omega arith) (omega arith)) (same (at + 1) (omega arith) (omega arith))
  where
    same : (i : ℕ) → i < at' → i < at' + 1 → get_or (with_count at' n row) i 0 ≡ get_or row i 0
    same i a b = get_or-set_other (set row at' _) (at' + 1) i _ 0 (λ e. omega arith) ∙ get_or-set_other row at' i _ 0 (λ e. omega arith)
count_apart at at' n row (inr h) = ap₂ two_bytes (same at (omega arith)) (same (at + 1) (omega arith))
  where
    same : (i : ℕ) → at' + 1 < i → get_or (with_count at' n row) i 0 ≡ get_or row i 0
    same i a = get_or-set_other (set row at' _) (at' + 1) i _ 0 (λ e. omega arith) ∙ get_or-set_other row at' i _ 0 (λ e. omega arith)

-- a restart drops every part frame
no_count : (d : Dialect) (row : List ℕ) → length row ≡ row_size → count_at (part_at d) (no_parts row) ≡ 0
unfolding no_parts
no_count Datalink row l =
    count_apart datalink_part_at lucid_part_at 0 _ (inl (omega arith)) ∙ count_apart datalink_part_at love_part_at 0 _ (inl (omega arith)) ∙ count_apart datalink_part_at lecom_part_at 0 _ (inl (omega arith))
    ∙ count_with datalink_part_at 0 row (omega arith) (omega arith)
no_count Lecom row l =
    count_apart lecom_part_at lucid_part_at 0 _ (inl (omega arith)) ∙ count_apart lecom_part_at love_part_at 0 _ (inl (omega arith))
    ∙ count_with lecom_part_at 0 _ (omega (arith, length_with_count datalink_part_at 0 row)) (omega arith)
no_count Love row l =
    count_apart love_part_at lucid_part_at 0 _ (inl (omega arith))
    ∙ count_with love_part_at 0 _ (omega (arith, length_with_count lecom_part_at 0 (with_count datalink_part_at 0 row), length_with_count datalink_part_at 0 row)) (omega arith)
no_count Lucid row l =
    count_with lucid_part_at 0 _
    (omega (arith, length_with_count love_part_at 0 (with_count lecom_part_at 0 (with_count datalink_part_at 0 row)), length_with_count lecom_part_at 0 (with_count datalink_part_at 0 row), length_with_count datalink_part_at 0 row))
    (omega arith)

restarted_count : (d : Dialect) (row : List ℕ) → length row ≡ row_size → count_at (part_at d) (dropped (no_parts row)) ≡ 0
unfolding dropped count_at
restarted_count d row l =
    ap₂ two_bytes (get_or-set_other (no_parts row) kind_at (part_at d) _ 0 (λ e. omega (arith, part_behind d))) (get_or-set_other (no_parts row) kind_at (part_at d + 1) _ 0 (λ e. omega arith)) ∙ no_count d row l

pub restarted_part : (d : Dialect) (row : List ℕ) → length row ≡ row_size → part_of d (dropped (no_parts row)) ≡ []
restarted_part d row l = ap (λ (n : ℕ). front d n (dropped (no_parts row))) (restarted_count d row l)

pub restarted_within : (d : Dialect) (row : List ℕ) → length row ≡ row_size → within d (dropped (no_parts row)) ≡ true
unfolding within
restarted_within d row l =
    ap₂ (λ (s t : Bool). s && t) (ap (λ (n : ℕ). leb n (longest_of d)) (restarted_count d row l) ∙ le-leb 0 (longest_of d) (omega arith)) (ap (held_by d) (restarted_part d row l) ∙ held_rest d)

-- bytes stay bytes
bytes_count : (at n : ℕ) (row : List ℕ) → n < byte_values * byte_values → Bytes row → Bytes (with_count at n row)
unfolding with_count
bytes_count at n row l t = bytes_set (set row at (n % byte_values)) (at + 1) (n / byte_values) (bytes_set row at (n % byte_values) t (omega arith)) (omega arith)

pub collected_bytes : (d : Dialect) (bytes row : List ℕ) → length row ≡ row_size → Held d (count_at (part_at d) row) row → Bytes row → Bytes bytes → Bytes (collected_row d bytes row)
unfolding collected_row
collected_bytes d bytes row l k t u =
    let g = lands d bytes (count_at (part_at d) row) row l k t u in
    bytes_count (part_at d) _ _ (omega (arith, g.few, (longest_some d).1)) g.small

pub dropped_bytes : (d : Dialect) (row : List ℕ) → Bytes row → Bytes (with_count (part_at d) 0 row)
dropped_bytes d row t = bytes_count (part_at d) 0 row (omega arith) t

pub restarted_bytes : (row : List ℕ) → Bytes row → Bytes (dropped (no_parts row))
unfolding dropped no_parts
restarted_bytes row t =
    let a = with_count datalink_part_at 0 row in
    let b = with_count lecom_part_at 0 a in
    let c = with_count love_part_at 0 b in
    bytes_set (with_count lucid_part_at 0 c) kind_at no_change
    (bytes_count lucid_part_at 0 c (omega arith) (bytes_count love_part_at 0 b (omega arith) (bytes_count lecom_part_at 0 a (omega arith) (bytes_count datalink_part_at 0 row (omega arith) t)))) (omega arith)

-- The other part frames stay where they are

inside_wider : (lo lo' hi hi' : ℕ) (row row' : List ℕ) → lo' ≤ lo → hi ≤ hi' → Inside lo hi row row' → Inside lo' hi' row row'
inside_wider lo lo' hi hi' row row' a b i =
    let h : hi + (hi' - hi) ≡ hi' = omega arith in
    record {
      long = i.long;
      below = sym (take-take lo' lo row' a) ∙ ap (take lo') i.below ∙ take-take lo' lo row a;
      above = subst (λ (k : ℕ). drop k row' ≡ drop k row) h (sym (drop-drop (hi' - hi) hi row') ∙ ap (drop (hi' - hi)) i.above ∙ drop-drop (hi' - hi) hi row);
    }

inside_count : (at hi n : ℕ) (row : List ℕ) → at + 1 < hi → Inside at hi row (with_count at n row)
unfolding with_count
inside_count at hi n row h = inside_then (inside_set at hi row at _ (omega arith) (omega arith)) (inside_set at hi (set row at _) (at + 1) _ (omega arith) h)

abbrev end_of : Dialect → ℕ
end_of d = bytes_at d + longest_of d

inside_collected : (d : Dialect) (bytes row : List ℕ) → length row ≡ row_size → Held d (count_at (part_at d) row) row → Bytes row → Bytes bytes → Inside (part_at d) (end_of d) row (collected_row d bytes row)
unfolding collected_row
inside_collected d bytes row l k t u =
    let g = lands d bytes (count_at (part_at d) row) row l k t u in
    inside_then (inside_wider (bytes_at d) (part_at d) (end_of d) (end_of d) row _ (omega arith) (omega arith) g.inside) (inside_count (part_at d) (end_of d) _ _ (omega (arith, (longest_some d).0)))

-- what stands outside of the places that differ
module _ (lo hi : ℕ) (row row' : List ℕ) (i : Inside lo hi row row') where
  at_outside : (k : ℕ) → (k < lo) ⊎ (hi ≤ k) → get_or row' k 0 ≡ get_or row k 0
  at_outside k (inl h) = sym (get_or-take lo row' k 0 h) ∙ ap (λ (l : List ℕ). get_or l k 0) i.below ∙ get_or-take lo row k 0 h
  at_outside k (inr h) =
      let e : hi + (k - hi) ≡ k = omega arith in
      subst (λ (j : ℕ). get_or row' j 0 ≡ get_or row j 0) e (sym (get_or-drop hi row' (k - hi) 0) ∙ ap (λ (l : List ℕ). get_or l (k - hi) 0) i.above ∙ get_or-drop hi row (k - hi) 0)

  front_outside : (at n : ℕ) → (at + n ≤ lo) ⊎ (hi ≤ at) → take n (drop at row') ≡ take n (drop at row)
  front_outside at n (inl h) = take_of_front row' ∙ ap (λ (l : List ℕ). take n (drop at l)) i.below ∙ sym (take_of_front row)
    where
      cut : (at n lo : ℕ) (l : List ℕ) → at + n ≤ lo → take n (drop at l) ≡ take n (drop at (take lo l))
      cut zero n lo l h = sym (take-take n lo l (omega arith))
      cut (suc at) n zero l h = let z : ⊥ = omega arith in absurd z
      cut (suc at) n (suc lo) [] h = refl
      cut (suc at) n (suc lo) (x ∷ l) h = cut at n lo l (omega arith)

      take_of_front : (l : List ℕ) → take n (drop at l) ≡ take n (drop at (take lo l))
      take_of_front l = cut at n lo l h
  front_outside at n (inr h) =
      let e : hi + (at - hi) ≡ at = omega arith in
      subst (λ (j : ℕ). take n (drop j row') ≡ take n (drop j row)) e
      (ap (take n) (sym (drop-drop (at - hi) hi row')) ∙ ap (λ (l : List ℕ). take n (drop (at - hi) l)) i.above ∙ ap (take n) (drop-drop (at - hi) hi row))

  -- of a part frame that stands apart from them: its count, and its first bytes
  count_outside : (e : Dialect) → (end_of e ≤ lo) ⊎ (hi ≤ part_at e) → count_at (part_at e) row' ≡ count_at (part_at e) row
  unfolding count_at
  count_outside e o = ap₂ two_bytes (at_outside (part_at e) (first o)) (at_outside (part_at e + 1) (second o))
    where
      first : (end_of e ≤ lo) ⊎ (hi ≤ part_at e) → (part_at e < lo) ⊎ (hi ≤ part_at e)
      first (inl h) = inl (omega arith)
      first (inr h) = inr h

      second : (end_of e ≤ lo) ⊎ (hi ≤ part_at e) → (part_at e + 1 < lo) ⊎ (hi ≤ part_at e + 1)
      second (inl h) = inl (omega (arith, (longest_some e).0))
      second (inr h) = inr (omega arith)

  bytes_outside : (e : Dialect) (n : ℕ) → n ≤ longest_of e → (end_of e ≤ lo) ⊎ (hi ≤ part_at e) → front e n row' ≡ front e n row
  bytes_outside e n l o = front_outside (bytes_at e) n (apart o)
    where
      apart : (end_of e ≤ lo) ⊎ (hi ≤ part_at e) → (bytes_at e + n ≤ lo) ⊎ (hi ≤ bytes_at e)
      apart (inl h) = inl (omega arith)
      apart (inr h) = inr (omega arith)

  -- it is within the rules as it was
  within_outside : (e : Dialect) → (end_of e ≤ lo) ⊎ (hi ≤ part_at e) → within e row' ≡ within e row
  unfolding within
  within_outside e o = ap (λ (n : ℕ). leb n (longest_of e) && held_by e (front e n row')) (count_outside e o) ∙ go (leb (count_at (part_at e) row) (longest_of e)) refl
    where
      go : (t : Bool) → leb (count_at (part_at e) row) (longest_of e) ≡ t → (t && held_by e (front e (count_at (part_at e) row) row')) ≡ (t && held_by e (front e (count_at (part_at e) row) row))
      go true h = ap (held_by e) (bytes_outside e (count_at (part_at e) row) (leb-true (count_at (part_at e) row) (longest_of e) h) o)
      go false h = refl

  -- and, where it is, it is the same
  pub part_outside : (e : Dialect) → within e row ≡ true → (end_of e ≤ lo) ⊎ (hi ≤ part_at e) → part_of e row' ≡ part_of e row
  unfolding within
  part_outside e w o =
      let few = leb-true (count_at (part_at e) row) (longest_of e) (and_true (leb (count_at (part_at e) row) (longest_of e)) _ w).0 in
      ap (λ (n : ℕ). front e n row') (count_outside e o) ∙ bytes_outside e (count_at (part_at e) row) few o

-- two part frames are one, or stand apart
order : (d e : Dialect) → (d ≡ e) ⊎ ((end_of e ≤ part_at d) ⊎ (end_of d ≤ part_at e))
order Datalink Datalink = inl refl
order Datalink Lecom = inr (inr (omega arith))
order Datalink Love = inr (inr (omega arith))
order Datalink Lucid = inr (inr (omega arith))
order Lecom Datalink = inr (inl (omega arith))
order Lecom Lecom = inl refl
order Lecom Love = inr (inr (omega arith))
order Lecom Lucid = inr (inr (omega arith))
order Love Datalink = inr (inl (omega arith))
order Love Lecom = inr (inl (omega arith))
order Love Love = inl refl
order Love Lucid = inr (inr (omega arith))
order Lucid Datalink = inr (inl (omega arith))
order Lucid Lecom = inr (inl (omega arith))
order Lucid Love = inr (inl (omega arith))
order Lucid Lucid = inl refl

collected_count : (d : Dialect) (bytes row : List ℕ) → length row ≡ row_size → length (collect (step_of d) (part_of d row) bytes).part ≤ longest_of d
    → count_at (part_at d) (collected_row d bytes row) ≡ length (collect (step_of d) (part_of d row) bytes).part
unfolding collected_row
collected_count d bytes row l few =
    let s = stored_length (step_of d) (bytes_at d) bytes (part_of d row) row ∙ l in
    count_with (part_at d) _ _ (omega (arith, part_inside d)) (omega (arith, (longest_some d).1))

-- a call leaves every part frame within the rules: its own
collected_own : (d : Dialect) (bytes row : List ℕ) → length row ≡ row_size → Held d (count_at (part_at d) row) row → Bytes row → Bytes bytes → within d (collected_row d bytes row) ≡ true
unfolding within
collected_own d bytes row l k t u =
    let g = lands d bytes (count_at (part_at d) row) row l k t u in
    let c = collected_count d bytes row l g.few in
    ap₂ (λ (s t : Bool). s && t) (ap (λ (n : ℕ). leb n (longest_of d)) c ∙ le-leb _ _ g.few) (ap (held_by d) (collected_part d bytes row l k t u) ∙ g.held)

-- and any other
pub collected_within : (d e : Dialect) (bytes row : List ℕ) → length row ≡ row_size → Held d (count_at (part_at d) row) row → Bytes row → Bytes bytes → within e row ≡ true → within e (collected_row d bytes row) ≡ true
collected_within d e bytes row l k t u w = go (order d e)
  where
    go : (d ≡ e) ⊎ ((end_of e ≤ part_at d) ⊎ (end_of d ≤ part_at e)) → within e (collected_row d bytes row) ≡ true
    go (inl s) = subst (λ (x : Dialect). within x (collected_row d bytes row) ≡ true) s (collected_own d bytes row l k t u)
    go (inr o) = within_outside (part_at d) (end_of d) row (collected_row d bytes row) (inside_collected d bytes row l k t u) e o ∙ w

-- so does a quiet mark
dropped_own : (d : Dialect) (row : List ℕ) → length row ≡ row_size → within d (with_count (part_at d) 0 row) ≡ true
unfolding within
dropped_own d row l =
    ap₂ (λ (s t : Bool). s && t) (ap (λ (n : ℕ). leb n (longest_of d)) (count_with (part_at d) 0 row (omega (arith, part_inside d)) (omega arith)) ∙ le-leb 0 (longest_of d) (omega arith))
    (ap (held_by d) (dropped_part d row l) ∙ held_rest d)

pub dropped_within : (d e : Dialect) (row : List ℕ) → length row ≡ row_size → within e row ≡ true → within e (with_count (part_at d) 0 row) ≡ true
dropped_within d e row l w = go (order d e)
  where
    go : (d ≡ e) ⊎ ((end_of e ≤ part_at d) ⊎ (end_of d ≤ part_at e)) → within e (with_count (part_at d) 0 row) ≡ true
    go (inl s) = subst (λ (x : Dialect). within x (with_count (part_at d) 0 row) ≡ true) s (dropped_own d row l)
    go (inr o) = within_outside (part_at d) (end_of d) row (with_count (part_at d) 0 row) (inside_count (part_at d) (end_of d) 0 row (omega (arith, (longest_some d).0))) e o ∙ w

-- another dialect's receiver leaves a part frame
pub collected_other : (d e : Dialect) (bytes row : List ℕ) → (d ≡ e → ⊥) → length row ≡ row_size → Held d (count_at (part_at d) row) row → Bytes row → Bytes bytes → within e row ≡ true → part_of e (collected_row d bytes row) ≡ part_of e row
collected_other d e bytes row n l k t u w = go (order d e)
  where
    go : (d ≡ e) ⊎ ((end_of e ≤ part_at d) ⊎ (end_of d ≤ part_at e)) → part_of e (collected_row d bytes row) ≡ part_of e row
    go (inl s) = absurd (n s)
    go (inr o) = part_outside (part_at d) (end_of d) row (collected_row d bytes row) (inside_collected d bytes row l k t u) e w o

pub dropped_other : (d e : Dialect) (row : List ℕ) → (d ≡ e → ⊥) → within e row ≡ true → part_of e (with_count (part_at d) 0 row) ≡ part_of e row
dropped_other d e row n w = go (order d e)
  where
    go : (d ≡ e) ⊎ ((end_of e ≤ part_at d) ⊎ (end_of d ≤ part_at e)) → part_of e (with_count (part_at d) 0 row) ≡ part_of e row
    go (inl s) = absurd (n s)
    go (inr o) = part_outside (part_at d) (end_of d) row (with_count (part_at d) 0 row) (inside_count (part_at d) (end_of d) 0 row (omega (arith, (longest_some d).0))) e w o
