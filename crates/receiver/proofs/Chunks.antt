-- A frame that is handed over whole is handed over so in any division. Assumes nothing.
use Rattle.std.proofs.Common.{◌≡◌, refl, sym, ap, ◌∙◌, List, [], ◌∷◌, ◌++◌, ◌⊎◌, inl, inr, ℕ, ◌+◌, arith, length, length-append}
use Rattle.receiver.specs.Step.{Fate, Step, at_rest}
use Rattle.receiver.specs.Step.Fate.{Kept, Dropped, Finished}
use Rattle.receiver.specs.Line.{Collected, counted, onward, collect, Whole, Call, Heard, run}
use Rattle.receiver.specs.Line.Call.{Lent}
use Rattle.receiver.proofs.Calls.{takes}
use Rattle.receiver.proofs.Reach.{shifted, feed}

-- bytes lent in parts
unfoldable pub lent : List (List ℕ) → List Call
lent [] = []
lent (bytes ∷ chunks) = Lent bytes ∷ lent chunks

unfoldable pub glued : List (List ℕ) → List ℕ
glued [] = []
glued (bytes ∷ chunks) = bytes ++ glued chunks

module _ (step : Step) where
  -- a call hands over nothing, or more bytes behind it change nothing
  early : (xs ys part : List ℕ) → ((collect step part xs).handed ≡ []) ⊎ (collect step part (xs ++ ys) ≡ collect step part xs)
  unfolding collect onward counted
  early [] ys part = inl refl
  early (b ∷ xs) ys part = go (step part b) refl (λ q. early xs ys q)
    where
      Either : List ℕ → Type 0
      Either q = ((collect step q xs).handed ≡ []) ⊎ (collect step q (xs ++ ys) ≡ collect step q xs)

      grow : (q : List ℕ) → ((w : List ℕ) → collect step part (b ∷ w) ≡ counted (collect step q w)) → Either q → ((collect step part (b ∷ xs)).handed ≡ []) ⊎ (collect step part (b ∷ (xs ++ ys)) ≡ collect step part (b ∷ xs))
      grow q same (inl h) = inl (ap (λ (c : Collected). c.handed) (same xs) ∙ h)
      grow q same (inr h) = inr (same (xs ++ ys) ∙ ap counted h ∙ sym (same xs))

      go : (o : Fate) → step part b ≡ o → ((q : List ℕ) → Either q) → ((collect step part (b ∷ xs)).handed ≡ []) ⊎ (collect step part (b ∷ (xs ++ ys)) ≡ collect step part (b ∷ xs))
      go (Kept q) e more = grow q (λ w. rw e refl) (more q)
      go Dropped e more = grow at_rest (λ w. rw e refl) (more at_rest)
      go (Finished f) e more = inr (rw e refl)

  -- empty calls
  idle : (chunks : List (List ℕ)) (part : List ℕ) → length (glued chunks) ≡ 0 → run step part (lent chunks) ≡ record { frames = []; part = part }
  unfolding glued lent run collect
  idle [] part h = refl
  idle ([] ∷ chunks) part h = let i = idle chunks part h in i
  idle ((b ∷ bytes) ∷ chunks) part h = let z : ⊥ = omega arith in absurd z

  abbrev Ends : List ℕ → List ℕ → List ℕ → Type 0
  Ends part bytes f = collect step part bytes ≡ record { taken = length bytes; handed = f ∷ []; part = at_rest }

  -- bytes that finish a frame with their last one finish it so in any division
  chunked : (chunks : List (List ℕ)) (part f : List ℕ) → Ends part (glued chunks) f → run step part (lent chunks) ≡ record { frames = f ∷ []; part = at_rest }
  unfolding glued lent run collect
  chunked [] part f e = let h : [] ≡ f ∷ [] = ap (λ (c : Collected). c.handed) e in let z : ◌≡◌ {A = ℕ} 0 1 = cc in let y : ⊥ = omega arith in absurd y
  chunked (bytes ∷ chunks) part f e = go (early bytes (glued chunks) part) (λ q g. chunked chunks q f g)
    where
      all : length (bytes ++ glued chunks) ≡ length bytes + length (glued chunks)
      all = length-append bytes (glued chunks)

      c : Collected
      c = collect step part bytes

      more : (collect step part bytes).handed ≡ [] → ((q : List ℕ) → Ends q (glued chunks) f → run step q (lent chunks) ≡ record { frames = f ∷ []; part = at_rest })
          → run step part (lent (bytes ∷ chunks)) ≡ record { frames = f ∷ []; part = at_rest }
      more h rest =
          let s : shifted step (length bytes) (collect step c.part (glued chunks)) ≡ record { taken = length (bytes ++ glued chunks); handed = f ∷ []; part = at_rest } = sym (feed step bytes (glued chunks) part h) ∙ e in
          let t : length bytes + (collect step c.part (glued chunks)).taken ≡ length (bytes ++ glued chunks) = ap (λ (x : Collected). x.taken) s in
          let n : (collect step c.part (glued chunks)).taken ≡ length (glued chunks) = omega (arith, all) in
          let g : Ends c.part (glued chunks) f = λ i. record { taken = n i; handed = (s i).handed; part = (s i).part } in
          let r = rest c.part g in
          λ i. record { frames = (ap (λ (l : List (List ℕ)). l ++ (run step c.part (lent chunks)).frames) h ∙ ap (λ (x : Heard). x.frames) r) i; part = (r i).part }

      here : collect step part (bytes ++ glued chunks) ≡ c → run step part (lent (bytes ∷ chunks)) ≡ record { frames = f ∷ []; part = at_rest }
      here h =
          let s : c ≡ record { taken = length (bytes ++ glued chunks); handed = f ∷ []; part = at_rest } = sym h ∙ e in
          let t : c.taken ≡ length (bytes ++ glued chunks) = ap (λ (x : Collected). x.taken) s in
          let n : length (glued chunks) ≡ 0 = omega (arith, all, (takes step bytes part).0) in
          let r = idle chunks c.part n in
          λ i. record { frames = (ap (λ (x : Collected). x.handed ++ (run step c.part (lent chunks)).frames) s ∙ ap (λ (x : Heard). f ∷ x.frames) r) i; part = (ap (λ (x : Heard). x.part) r ∙ ap (λ (x : Collected). x.part) s) i }

      go : ((collect step part bytes).handed ≡ []) ⊎ (collect step part (bytes ++ glued chunks) ≡ collect step part bytes)
          → ((q : List ℕ) → Ends q (glued chunks) f → run step q (lent chunks) ≡ record { frames = f ∷ []; part = at_rest })
          → run step part (lent (bytes ∷ chunks)) ≡ record { frames = f ∷ []; part = at_rest }
      go (inl h) rest = more h rest
      go (inr h) rest = here h

  -- a frame that is handed over whole, in any division
  pub whole_chunked : (chunks : List (List ℕ)) → Whole step (glued chunks) → run step at_rest (lent chunks) ≡ record { frames = glued chunks ∷ []; part = at_rest }
  whole_chunked chunks w = chunked chunks at_rest (glued chunks) w
