-- Division: what calls hand over and leave is what the line gives for the bytes that they took; and how far a call goes. Assumes nothing.
use Rattle.std.proofs.Common.{◌≡◌, refl, sym, ap, ◌∙◌, subst, List, [], ◌∷◌, ◌++◌, ◌⊎◌, inl, inr, ℕ, zero, suc, ◌+◌, ◌≤◌, ◌<◌, not-suc-le-zero, arith, length, take, drop, length-drop, take-append-drop}
use Prim.{Unit}
use native.Mathlib.Decide.{dec_lt}
use lib.Seq.{take-length}
use Rattle.receiver.specs.Step.{Fate, Step, at_rest}
use Rattle.receiver.specs.Step.Fate.{Kept, Dropped, Finished}
use Rattle.receiver.specs.Line.{Collected, counted, onward, collect, Whole, Mark, Heard, along, heard, Call, run, as_bytes, took, lend_rest, joined}
use Rattle.receiver.specs.Line.Mark.{Byte}
use Rattle.receiver.specs.Line.Call.{Lent, Silence, Refused}

pub as_append : (xs ys : List ℕ) → as_bytes (xs ++ ys) ≡ as_bytes xs ++ as_bytes ys
unfolding as_bytes
as_append [] ys = refl
as_append (x ∷ xs) ys = ap (λ (l : List Mark). Byte x ∷ l) (as_append xs ys)

-- what was heard, behind frames handed over before
abbrev pub behind : List (List ℕ) → Heard → Heard
behind fs h = record { frames = fs ++ h.frames; part = h.part }

module _ (step : Step) where
  -- one call hands over what the line gives for the bytes that it took
  abbrev pub OneCall : List ℕ → List ℕ → List Mark → Type 0
  OneCall bytes part ms =
      heard step part (as_bytes (take (collect step part bytes).taken bytes) ++ ms) ≡ behind (collect step part bytes).handed (heard step (collect step part bytes).part ms)

  pub one_call : (bytes part : List ℕ) (ms : List Mark) → OneCall bytes part ms
  unfolding heard collect as_bytes onward counted along
  one_call [] part ms = refl
  one_call (b ∷ bytes) part ms = go (step part b) refl (λ q. one_call bytes q ms)
    where
      go : (o : Fate) → step part b ≡ o → ((q : List ℕ) → OneCall bytes q ms) → OneCall (b ∷ bytes) part ms
      go (Kept q) e more = rw e (rw e (more q))
      go Dropped e more = rw e (rw e (more at_rest))
      go (Finished f) e more = rw e (rw e refl)

  -- a list of calls does what the line does with the bytes taken and the quiet marks
  pub run_heard : (calls : List Call) (part : List ℕ) → run step part calls ≡ heard step part (took step part calls)
  unfolding run took heard
  run_heard [] part = refl
  run_heard (Lent bytes ∷ calls) part =
      ap (behind (collect step part bytes).handed) (run_heard calls (collect step part bytes).part) ∙ sym (one_call bytes part (took step (collect step part bytes).part calls))
  run_heard (Silence ∷ calls) part = run_heard calls at_rest
  run_heard (Refused ∷ calls) part = run_heard calls part

  -- the division law
  pub division : (part : List ℕ) (calls calls' : List Call) → took step part calls ≡ took step part calls' → run step part calls ≡ run step part calls'
  division part calls calls' e = run_heard calls part ∙ ap (heard step part) e ∙ sym (run_heard calls' part)

  -- what a call did: it took every byte and finished no frame, or stopped right behind the byte that finished one
  pub record Stopped (part bytes : List ℕ) (c : Collected) : Type 0 where
    pub before : List ℕ
    pub last : ℕ
    pub after : List ℕ
    pub frame : List ℕ
    pub split : bytes ≡ before ++ (last ∷ after)
    pub taken : c.taken ≡ length before + 1
    pub none_before : (collect step part before).handed ≡ []
    pub finished : step (collect step part before).part last ≡ Finished frame
    pub handed : c.handed ≡ frame ∷ []
    pub left : c.part ≡ at_rest

  abbrev Progress : List ℕ → List ℕ → Type 0
  Progress part bytes = (((collect step part bytes).taken ≡ length bytes) × ((collect step part bytes).handed ≡ [])) ⊎ Stopped part bytes (collect step part bytes)

  pub progress : (bytes part : List ℕ) → Progress part bytes
  unfolding collect onward counted
  progress [] part = inl (refl, refl)
  progress (b ∷ bytes) part = go (step part b) refl (λ q. progress bytes q)
    where
      grow : (q : List ℕ) → ((w : List ℕ) → (collect step part (b ∷ w) ≡ counted (collect step q w))) → Progress q bytes → Progress part (b ∷ bytes)
      grow q same (inl p) = inl (ap (λ (c : Collected). c.taken) (same bytes) ∙ ap suc p.0, ap (λ (c : Collected). c.handed) (same bytes) ∙ p.1)
      grow q same (inr s) =
          inr (record {
            before = b ∷ s.before;
            last = s.last;
            after = s.after;
            frame = s.frame;
            split = ap (λ (l : List ℕ). b ∷ l) s.split;
            taken = ap (λ (c : Collected). c.taken) (same bytes) ∙ omega (arith, s.taken);
            none_before = ap (λ (c : Collected). c.handed) (same s.before) ∙ s.none_before;
            finished = ap (λ (c : Collected). step c.part s.last) (same s.before) ∙ s.finished;
            handed = ap (λ (c : Collected). c.handed) (same bytes) ∙ s.handed;
            left = ap (λ (c : Collected). c.part) (same bytes) ∙ s.left;
          })

      go : (o : Fate) → step part b ≡ o → ((q : List ℕ) → Progress q bytes) → Progress part (b ∷ bytes)
      go (Kept q) e more = grow q (λ w. rw e refl) (more q)
      go Dropped e more = grow at_rest (λ w. rw e refl) (more at_rest)
      go (Finished f) e more =
          inr (record { before = []; last = b; after = bytes; frame = f; split = refl; taken = rw e refl; none_before = refl; finished = e; handed = rw e refl; left = rw e refl })

  -- a call takes a byte at least, where one is lent, and no more than are lent
  pub takes : (bytes part : List ℕ) → ((collect step part bytes).taken ≤ length bytes) × (0 < length bytes → 0 < (collect step part bytes).taken)
  unfolding collect onward counted
  takes [] part = (omega arith, λ h. h)
  takes (b ∷ bytes) part = go (step part b) (λ q. takes bytes q)
    where
      go : (o : Fate) → ((q : List ℕ) → ((collect step q bytes).taken ≤ length bytes) × (0 < length bytes → 0 < (collect step q bytes).taken))
          → ((onward o (λ left. collect step left bytes)).taken ≤ suc (length bytes)) × (0 < suc (length bytes) → 0 < (onward o (λ left. collect step left bytes)).taken)
      go (Kept q) more = (omega (arith, (more q).0), λ _. omega arith)
      go Dropped more = (omega (arith, (more at_rest).0), λ _. omega arith)
      go (Finished f) more = (omega arith, λ _. omega arith)

  -- a caller that lends the rest again has everything taken
  pub rest_taken : (n : ℕ) (bytes part : List ℕ) → length bytes ≤ n → took step part (lend_rest step n part bytes) ≡ as_bytes bytes
  unfolding lend_rest took as_bytes
  rest_taken zero [] part h = refl
  rest_taken zero (b ∷ bytes) part h = absurd (not-suc-le-zero h)
  rest_taken (suc n) bytes part h =
      let c = collect step part bytes in
      let rest : took step c.part (lend_rest step n c.part (drop c.taken bytes)) ≡ as_bytes (drop c.taken bytes) = rest_taken n (drop c.taken bytes) c.part (shorter bytes h) in
      ap (λ (ms : List Mark). as_bytes (take c.taken bytes) ++ ms) rest ∙ sym (as_append (take c.taken bytes) (drop c.taken bytes)) ∙ ap as_bytes (take-append-drop c.taken bytes)
    where
      shorter : (bytes : List ℕ) → length bytes ≤ suc n → length (drop (collect step part bytes).taken bytes) ≤ n
      shorter bytes h = let t = takes bytes part in by (dec_lt 0 (length bytes)) t
        where
          by : Dec (0 < length bytes) → ((collect step part bytes).taken ≤ length bytes) × (0 < length bytes → 0 < (collect step part bytes).taken) → length (drop (collect step part bytes).taken bytes) ≤ n
          by (yes k) t = let m = t.1 k in omega (arith, length-drop (collect step part bytes).taken bytes)
          by (no k) t = omega (arith, length-drop (collect step part bytes).taken bytes)

-- frames that are each handed over whole, one behind the other, are handed over as they are: a line splits into them in one way
abbrev pub AllWhole : Step → List (List ℕ) → Type 0
AllWhole step [] = Unit {0}
AllWhole step (f ∷ fs) = Whole step f × AllWhole step fs

pub line_splits : (step : Step) (fs : List (List ℕ)) → AllWhole step fs → heard step at_rest (joined fs) ≡ record { frames = fs; part = at_rest }
unfolding joined heard
line_splits step [] w = refl
line_splits step (f ∷ fs) w =
    let c = one_call step f at_rest (joined fs) in
    let d : heard step at_rest (as_bytes (take (length f) f) ++ joined fs) ≡ behind (f ∷ []) (heard step at_rest (joined fs)) =
    subst (λ (x : Collected). heard step at_rest (as_bytes (take x.taken f) ++ joined fs) ≡ behind x.handed (heard step x.part (joined fs))) w.0 c in
    sym (ap (λ (l : List ℕ). heard step at_rest (as_bytes l ++ joined fs)) (take-length f)) ∙ d ∙ ap (behind (f ∷ [])) (line_splits step fs w.1)
