-- The statement of the sheet says something: for each clause of `Exactly` a wrong sheet that breaks it. Assumes nothing.
use Rattle.std.proofs.Common.{ℕ, zero, suc, refl, List, [], ◌∷◌, arith, eqb}
use Rattle.std.proofs.lemmas.Bool.{eqb-false}
use Rattle.wire.specs.Choose.{choose}
use Rattle.wire.specs.Length.{between}
use Rattle.wire.specs.Sum.{byte_values}
use Rattle.figures.specs.Figure.{figure_of}
use Rattle.figures.specs.Sheet.{Exactly}

-- a rule's entries from b on
abbrev listed : (ℕ → ℕ) → ℕ → ℕ → List ℕ
listed rule b zero = []
listed rule b (suc n) = rule b ∷ listed rule (suc b) n

-- the sheet with x as the entry of the byte b
abbrev wrong : ℕ → ℕ → List ℕ
wrong b x = listed (λ k. choose (eqb k b) x (figure_of k)) 0 byte_values

-- 9 has no figure
pub nine_lost : Exactly (wrong 57 32) → ⊥
unfolding figure_of between choose
nine_lost e = eqb-false 32 9 refl (e.decimals 9 (omega arith))

-- A reads as the lower-case a
pub upper_as_lower : Exactly (wrong 65 26) → ⊥
unfolding figure_of between choose
upper_as_lower e = eqb-false 26 10 refl (e.uppers 0 (omega arith))

-- a reads as the upper-case A
pub lower_as_upper : Exactly (wrong 97 10) → ⊥
unfolding figure_of between choose
lower_as_upper e = eqb-false 10 26 refl (e.lowers 0 (omega arith))

-- `:` is ten
pub colon_is_ten : Exactly (wrong 58 10) → ⊥
unfolding figure_of between choose
colon_is_ten e = eqb-false 10 32 refl (e.others 58 (omega arith) refl refl refl)
