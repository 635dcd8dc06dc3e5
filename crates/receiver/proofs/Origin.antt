-- Origin: where the frames and the part frame stand in the line; and the part frames that a line leads to. Assumes nothing.
use Rattle.std.proofs.Common.{◌≡◌, refl, sym, ap, ◌∙◌, subst, Bool, true, List, [], ◌∷◌, ◌++◌, append_assoc, append-nil, ◌⊎◌, inl, inr, ℕ}
use Prim.{Unit}
use lib.Seq.{append_snoc}
use Rattle.receiver.specs.Step.{Fate, Step, at_rest}
use Rattle.receiver.specs.Step.Fate.{Kept, Dropped, Finished}
use Rattle.receiver.specs.Line.{Collected, counted, onward, collect, Reachable, Mark, along, heard, as_bytes}
use Rattle.receiver.specs.Line.Mark.{Byte, Quiet}
use Rattle.receiver.proofs.Calls.{as_append}
use Rattle.receiver.proofs.Reach.{reach_rest, reach_kept, climb}

-- a byte is added to the part frame, or starts anew as it would at rest, or drops all, or finishes the frame of the part and itself
abbrev pub Sound : Step → List ℕ → ℕ → Fate → Type 0
Sound step part b (Kept q) = (q ≡ part ++ (b ∷ [])) ⊎ ((q ≡ b ∷ []) × (step at_rest b ≡ Kept (b ∷ [])))
Sound step part b Dropped = Unit {0}
Sound step part b (Finished f) = f ≡ part ++ (b ∷ [])

-- marks that end in these bytes
abbrev Ends : List Mark → List ℕ → Type 0
Ends ms bytes = (gap : List Mark) × (ms ≡ gap ++ as_bytes bytes)

-- the frames are runs of consecutive bytes in the line, one behind the other, and so is the part frame, at its end
abbrev pub Woven : List Mark → List (List ℕ) → List ℕ → Type 0
Woven ms [] part = Ends ms part
Woven ms (f ∷ fs) part = (gap : List Mark) × (rest : List Mark) × (ms ≡ gap ++ (as_bytes f ++ rest)) × Woven rest fs part

module _ (step : Step) (sound : (part : List ℕ) (b : ℕ) → Sound step part b (step part b)) where
  ends_more : (pre : List Mark) (part : List ℕ) (b : ℕ) → Ends pre part → Ends (pre ++ (Byte b ∷ [])) (part ++ (b ∷ []))
  unfolding as_bytes
  ends_more pre part b n =
      (n.0, ap (λ (l : List Mark). l ++ (Byte b ∷ [])) n.1 ∙ append_assoc n.0 (as_bytes part) (Byte b ∷ []) ∙ ap (λ (l : List Mark). n.0 ++ l) (sym (as_append part (b ∷ []))))

  ends_kept : (pre : List Mark) (part : List ℕ) (b : ℕ) (q : List ℕ) → Ends pre part → Sound step part b (Kept q) → Ends (pre ++ (Byte b ∷ [])) q
  unfolding as_bytes
  ends_kept pre part b q n (inl e) = subst (Ends (pre ++ (Byte b ∷ []))) (sym e) (ends_more pre part b n)
  ends_kept pre part b q n (inr e) = subst (Ends (pre ++ (Byte b ∷ []))) (sym e.0) (pre, refl)

  abbrev Weave : List Mark → List Mark → List ℕ → Type 0
  Weave ms pre part = Ends pre part → Woven (pre ++ ms) (heard step part ms).frames (heard step part ms).part

  ends_none : (pre : List Mark) → Ends pre at_rest
  unfolding as_bytes
  ends_none pre = (pre, sym (append-nil pre))

  weave : (ms pre : List Mark) (part : List ℕ) → Weave ms pre part
  unfolding heard along
  weave [] pre part n = (n.0, append-nil pre ∙ n.1)
  weave (Quiet ∷ ms) pre part n =
      subst (λ (l : List Mark). Woven l (heard step at_rest ms).frames (heard step at_rest ms).part) (append_snoc pre Quiet ms) (weave ms (pre ++ (Quiet ∷ [])) at_rest (ends_none _))
  weave (Byte b ∷ ms) pre part n = go (step part b) refl (λ p q. weave ms p q)
    where
      go : (o : Fate) → step part b ≡ o → ((p : List Mark) (q : List ℕ) → Weave ms p q) → Woven (pre ++ (Byte b ∷ ms)) (along o (λ left. heard step left ms)).frames (along o (λ left. heard step left ms)).part
      go (Kept q) e more =
          subst (λ (l : List Mark). Woven l (heard step q ms).frames (heard step q ms).part) (append_snoc pre (Byte b) ms)
          (more (pre ++ (Byte b ∷ [])) q (ends_kept pre part b q n (subst (Sound step part b) e (sound part b))))
      go Dropped e more =
          subst (λ (l : List Mark). Woven l (heard step at_rest ms).frames (heard step at_rest ms).part) (append_snoc pre (Byte b) ms)
          (more (pre ++ (Byte b ∷ [])) at_rest (ends_none _))
      go (Finished f) e more =
          let s : f ≡ part ++ (b ∷ []) = subst (Sound step part b) e (sound part b) in
          let m = ends_more pre part b n in
          (m.0, ms, sym (append_snoc pre (Byte b) ms) ∙ ap (λ (l : List Mark). l ++ ms) (m.1 ∙ ap (λ (l : List ℕ). m.0 ++ as_bytes l) (sym s)) ∙ append_assoc m.0 (as_bytes f) ms, more [] at_rest (ends_none []))

  -- the origin of what is handed over
  pub origin : (ms : List Mark) → Woven ms (heard step at_rest ms).frames (heard step at_rest ms).part
  origin ms = weave ms [] at_rest (ends_none [])

  -- every part frame that a line leads to is reachable by its own bytes
  abbrev Leads : List Mark → List ℕ → Type 0
  Leads ms part = Reachable step part → Reachable step (heard step part ms).part

  reach_any : (part : List ℕ) (b : ℕ) (q : List ℕ) → Reachable step part → step part b ≡ Kept q → Sound step part b (Kept q) → Reachable step q
  reach_any part b q r e (inl k) = subst (Reachable step) (sym k) (reach_kept step part b r (e ∙ ap Kept k))
  reach_any part b q r e (inr k) = subst (Reachable step) (sym k.0) (reach_kept step at_rest b (reach_rest step) k.1)

  pub reach_line : (ms : List Mark) (part : List ℕ) → Leads ms part
  unfolding heard along
  reach_line [] part r = r
  reach_line (Quiet ∷ ms) part r = reach_line ms at_rest (reach_rest step)
  reach_line (Byte b ∷ ms) part r = go (step part b) refl (λ q. reach_line ms q)
    where
      go : (o : Fate) → step part b ≡ o → ((q : List ℕ) → Leads ms q) → Reachable step (along o (λ left. heard step left ms)).part
      go (Kept q) e more = more q (reach_any part b q r e (subst (Sound step part b) e (sound part b)))
      go Dropped e more = more at_rest (reach_rest step)
      go (Finished f) e more = more at_rest (reach_rest step)

  -- a test that holds of the part frames of which every byte is kept is the test of those that a line leads to
  module _ (held : List ℕ → Bool) (rest : held [] ≡ true) (kept : (p : List ℕ) (b : ℕ) (xs : List ℕ) → held (p ++ (b ∷ xs)) ≡ true → step p b ≡ Kept (p ++ (b ∷ [])))
      (on : (p : List ℕ) (b : ℕ) (q : List ℕ) → held p ≡ true → step p b ≡ Kept q → held q ≡ true) where
    pub held_reachable : (part : List ℕ) → held part ≡ true → Reachable step part
    held_reachable part h = climb step (λ (l : List ℕ). held l ≡ true) kept part [] h (reach_rest step)

    stays : (xs part : List ℕ) → held part ≡ true → held (collect step part xs).part ≡ true
    unfolding collect onward counted
    stays [] part h = h
    stays (b ∷ xs) part h = go (step part b) refl (λ q. stays xs q)
      where
        go : (o : Fate) → step part b ≡ o → ((q : List ℕ) → held q ≡ true → held (collect step q xs).part ≡ true) → held (onward o (λ left. collect step left xs)).part ≡ true
        go (Kept q) e more = more q (on part b q h e)
        go Dropped e more = more at_rest rest
        go (Finished f) e more = rest

    pub reachable_held : (part : List ℕ) → Reachable step part → held part ≡ true
    reachable_held part r = subst (λ (c : Collected). held c.part ≡ true) r (stays part at_rest rest)
