-- A Love frame by its parts, and what one of a right form asks. For masters, which make such frames. Assumes nothing.
use Rattle.std.proofs.Common.{ℕ, suc, ◌+◌, ◌-◌, ◌≡◌, refl, sym, ap, ◌∙◌, true, List, [], ◌∷◌, ◌++◌, arith, eqb, length, get_or, length-append, get_or-append-add}
use lib.Seq.{take-append_seam}
use Rattle.wire.specs.Buffer.{part}
use Rattle.wire.proofs.Cases.{yes}
use Rattle.figures.specs.Figure.{upper_hex, all_figures}
use Rattle.love.specs.Form.{length_right, stx, etx, address_at, data_at, tail}
use Rattle.love.specs.Frame.{data_of, asked}
use Rattle.love.specs.Stages.{order_write, order_by, order_in, order_here}

-- a frame whose length, STX, ETX and address figures are right
pub record Formed (f : List ℕ) : Type 0 where
  pub long : length_right (length f) ≡ true
  pub begins : eqb (get_or f 0 0) stx ≡ true
  pub ends : eqb (get_or f (length f - 1) 0) etx ≡ true
  pub figured : all_figures upper_hex (part f address_at data_at) ≡ true

pub asked_formed : (unit : ℕ) (f : List ℕ) → Formed f → asked unit f ≡ order_here unit f
unfolding asked order_here order_in order_by order_write
asked_formed unit f k = sym (yes _ _ _ _ k.long (yes _ _ _ _ k.begins (yes _ _ _ _ k.ends (yes _ _ _ _ k.figured refl))))

-- a frame by its parts: the first byte, filter, address figures, data, checksum figures, the last byte
abbrev pub framed : (a b x y : ℕ) → List ℕ → (u v w : ℕ) → List ℕ
framed a b x y d u v w = a ∷ b ∷ x ∷ y ∷ (d ++ (u ∷ v ∷ w ∷ []))

module _ (a b x y : ℕ) (d : List ℕ) (u v w : ℕ) where
  abbrev f : List ℕ
  f = framed a b x y d u v w

  pub framed_length : length f ≡ length d + 7
  framed_length = simp length-append (omega arith)

  -- the places counted from the end
  at_end : (k i : ℕ) → length f - k ≡ 4 + (length d + i) → get_or f (length f - k) 0 ≡ get_or (u ∷ v ∷ w ∷ []) i 0
  at_end k i e = ap (λ (n : ℕ). get_or f n 0) (e ∙ add_four) ∙ get_or-append-add d (u ∷ v ∷ w ∷ []) i 0
    where
      add_four : 4 + (length d + i) ≡ suc (suc (suc (suc (length d + i))))
      add_four = omega arith

  pub framed_last : get_or f (length f - 1) 0 ≡ w
  framed_last = at_end 1 2 (omega (arith, framed_length))

  pub framed_high : get_or f (length f - tail) 0 ≡ u
  framed_high = at_end 3 0 (omega (arith, framed_length))

  pub framed_low : get_or f (length f - tail + 1) 0 ≡ v
  framed_low =
      let e : length f - tail + 1 ≡ length f - 2 = omega (arith, framed_length) in
      ap (λ (n : ℕ). get_or f n 0) e ∙ at_end 2 1 (omega (arith, framed_length))

  pub framed_data : data_of f ≡ d
  framed_data =
      let e : length f - tail - data_at ≡ length d = omega (arith, framed_length) in
      rw e (take-append_seam d (u ∷ v ∷ w ∷ []))

  pub framed_summed : part f address_at (length f - tail) ≡ x ∷ y ∷ d
  framed_summed =
      let e : length f - tail - address_at ≡ suc (suc (length d)) = omega (arith, framed_length) in
      rw e (take-append_seam (x ∷ y ∷ d) (u ∷ v ∷ w ∷ []))
