-- Part frames that their own bytes lead to, and frames that are handed over whole. Assumes nothing.
use Rattle.std.proofs.Common.{◌≡◌, refl, sym, ap, ◌∙◌, subst, List, [], ◌∷◌, ◌++◌, append-nil, ℕ, suc, ◌+◌, ◌<◌, not-suc-le-zero, arith, length, length-append}
use lib.Seq.{append_snoc}
use Rattle.receiver.specs.Step.{Fate, Step, at_rest}
use Rattle.receiver.specs.Step.Fate.{Kept, Dropped, Finished}
use Rattle.receiver.specs.Line.{Collected, counted, onward, collect, Reachable}

module _ (step : Step) where
  -- bytes that finish no frame, and more behind them
  abbrev pub shifted : ℕ → Collected → Collected
  shifted n c = record { taken = n + c.taken; handed = c.handed; part = c.part }

  abbrev pub Feed : List ℕ → List ℕ → List ℕ → Type 0
  Feed part xs ys = (collect step part xs).handed ≡ [] → collect step part (xs ++ ys) ≡ shifted (length xs) (collect step (collect step part xs).part ys)

  pub feed : (xs ys part : List ℕ) → Feed part xs ys
  unfolding collect onward counted
  feed [] ys part h = let z : 0 + (collect step part ys).taken ≡ (collect step part ys).taken = omega arith in λ i. record { taken = sym z i; handed = (collect step part ys).handed; part = (collect step part ys).part }
  feed (b ∷ xs) ys part h = go (step part b) refl (λ q. feed xs ys q) h
    where
      add : (n m k : ℕ) → n ≡ m + k → suc n ≡ suc m + k
      add n m k e = omega arith

      grow : (q : List ℕ) → ((w : List ℕ) → collect step part (b ∷ w) ≡ counted (collect step q w)) → Feed q xs ys → Feed part (b ∷ xs) ys
      grow q same f h =
          let g = f (sym (ap (λ (c : Collected). c.handed) (same xs)) ∙ h) in
          same (xs ++ ys) ∙ (λ i. record { taken = add _ (length xs) (collect step (collect step q xs).part ys).taken (ap (λ (c : Collected). c.taken) g) i; handed = (g i).handed; part = (g i).part })
          ∙ ap (λ (c : Collected). shifted (suc (length xs)) (collect step c.part ys)) (sym (same xs))

      go : (o : Fate) → step part b ≡ o → ((q : List ℕ) → Feed q xs ys) → Feed part (b ∷ xs) ys
      go (Kept q) e more = grow q (λ w. rw e refl) (more q)
      go Dropped e more = grow at_rest (λ w. rw e refl) (more at_rest)
      go (Finished f) e more = λ h'.
          let k : f ∷ [] ≡ [] = rw e at h' in
          let z : ◌≡◌ {A = ℕ} 0 1 = cc in let y : ⊥ = omega arith in absurd y

  -- one byte behind a reachable part frame
  reach_then : (part : List ℕ) (b : ℕ) → Reachable step part → collect step at_rest (part ++ (b ∷ [])) ≡ shifted (length part) (collect step part (b ∷ []))
  reach_then part b r =
      feed part (b ∷ []) at_rest (ap (λ (c : Collected). c.handed) r) ∙ ap (λ (c : Collected). shifted (length part) (collect step c.part (b ∷ []))) r

  pub reach_rest : Reachable step at_rest
  unfolding collect
  reach_rest = refl

  pub reach_kept : (part : List ℕ) (b : ℕ) → Reachable step part → step part b ≡ Kept (part ++ (b ∷ [])) → Reachable step (part ++ (b ∷ []))
  unfolding collect onward counted
  reach_kept part b r e =
      reach_then part b r ∙ rw e (λ i. record { taken = sym (length-append part (b ∷ [])) i; handed = []; part = part ++ (b ∷ []) })

  -- a frame whose last byte finishes it behind a reachable part frame is handed over, and leaves the receiver at rest
  pub whole : (part : List ℕ) (b : ℕ) → Reachable step part → step part b ≡ Finished (part ++ (b ∷ []))
      → collect step at_rest (part ++ (b ∷ [])) ≡ record { taken = length (part ++ (b ∷ [])); handed = (part ++ (b ∷ [])) ∷ []; part = at_rest }
  unfolding collect onward counted
  whole part b r e =
      reach_then part b r ∙ rw e (λ i. record { taken = sym (length-append part (b ∷ [])) i; handed = (part ++ (b ∷ [])) ∷ []; part = at_rest })

  -- part frames of which every byte is kept
  pub climb : (Ok : List ℕ → Type 0) → ((p : List ℕ) (b : ℕ) (xs : List ℕ) → Ok (p ++ (b ∷ xs)) → step p b ≡ Kept (p ++ (b ∷ [])))
      → (xs q : List ℕ) → Ok (q ++ xs) → Reachable step q → Reachable step (q ++ xs)
  climb Ok kept [] q h r = simp append-nil r
  climb Ok kept (b ∷ xs) q h r =
      let same : q ++ (b ∷ []) ++ xs ≡ q ++ (b ∷ xs) = append_snoc q b xs in
      subst (Reachable step) same (climb Ok kept xs (q ++ (b ∷ [])) (subst Ok (sym same) h) (reach_kept q b r (kept q b xs h)))

-- a frame's last byte, and those before it
pub snoc : (f : List ℕ) → 0 < length f → (p : List ℕ) × (b : ℕ) × (f ≡ p ++ (b ∷ []))
snoc [] h = absurd (not-suc-le-zero h)
snoc (x ∷ []) h = ([], x, refl)
snoc (x ∷ y ∷ f) h = let s = snoc (y ∷ f) (omega arith) in (x ∷ s.0, s.1, ap (λ (l : List ℕ). x ∷ l) s.2)
