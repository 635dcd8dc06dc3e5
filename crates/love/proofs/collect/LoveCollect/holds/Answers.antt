-- `love::collect::LoveCollect::holds` meets its contract, test by test. Assumes nothing.
use Rattle.std.proofs.Common.{◌≡◌, refl, sym, ◌∙◌, true, ◌&&◌, not, List, [], ◌∷◌, ℕ, ◌-◌, ◌<◌, arith, le-leb, eq-eqb, ne_eqb, leb, eqb, length, take, drop, get_or, take_all}
use borrow.Author.Tests.{lt-leb}
use Rattle.wire.proofs.Cases.{told_true, told_false}
use Rattle.receiver.specs.Step.{among}
use Rattle.love.specs.Form.{longest, stx, etx}
use Rattle.love.specs.Receiver.{held}
use Rattle.love.proofs.collect.LoveCollect.holds.Goals as goal

-- the bytes behind the first, as the code takes them
abbrev rest : List ℕ → List ℕ
rest p = take (length p - 1) (drop 1 p)

none : (p : List ℕ) → length p ≡ 0 → true ≡ held p
unfolding held
none [] h = refl
none (b ∷ p) h = let z : ⊥ = omega arith in absurd z

tests : (p : List ℕ) → 0 < length p → held p ≡ (eqb (get_or p 0 0) stx && (leb (length p) longest && (not (among stx (rest p)) && not (among etx (rest p)))))
unfolding held
tests [] h = let z : ⊥ = omega arith in absurd z
tests (b ∷ p) h = rw (take_all (length (b ∷ p) - 1) p (omega arith)) refl

pub returns-then-n-eq0 : goal.returns-then-n-eq0
returns-then-n-eq0 c = none c.args.part.now c.if-n-eq0.true

pub returns-then-part-ne-STX : goal.returns-then-part-ne-STX
returns-then-part-ne-STX c = sym (tests c.args.part.now (omega arith) ∙ rw (ne_eqb _ _ c.if-part-ne-STX.true))

pub returns-then-n-gt-LONGEST : goal.returns-then-n-gt-LONGEST
returns-then-n-gt-LONGEST c =
    sym (tests c.args.part.now (omega arith) ∙ rw (eq-eqb _ _ c.if-part-ne-STX.false, lt-leb _ _ c.if-n-gt-LONGEST.true))

pub returns-then-has : goal.returns-then-has
returns-then-has c =
    sym (tests c.args.part.now (omega arith) ∙ rw (eq-eqb _ _ c.if-part-ne-STX.false, le-leb _ _ c.if-n-gt-LONGEST.false, told_true c.has.ensures c.if-has.true))

pub returns : goal.returns
returns c =
    sym (tests c.args.part.now (omega arith) ∙ rw (eq-eqb _ _ c.if-part-ne-STX.false, le-leb _ _ c.if-n-gt-LONGEST.false, told_false c.has.ensures c.if-has.false, ← c.has-2.ensures))
