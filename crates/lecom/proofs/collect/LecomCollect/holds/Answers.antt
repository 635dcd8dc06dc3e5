-- `lecom::collect::LecomCollect::holds` meets its contract, test by test. Assumes nothing.
use Rattle.std.proofs.Common.{◌≡◌, ℕ, ◌-◌, ◌<◌, true, ◌&&◌, eqb, leb, List, [], ◌∷◌, length, get_or, take, drop, sym, refl, ◌∙◌, arith, take_all, eq-eqb, ne_eqb, le-leb}
use Rattle.std.proofs.lemmas.Bool.{lt-leb}
use Rattle.lecom.specs.Form.{longest, eot}
use Rattle.lecom.specs.Receiver.{held_behind_eot, held}
use Rattle.lecom.proofs.collect.LecomCollect.holds.Goals as goal

none : (p : List ℕ) → length p ≡ 0 → true ≡ held p
unfolding held
none [] h = refl
none (b ∷ p) h = let z : ⊥ = omega arith in absurd z

-- the tests, over the bytes as the code takes them
tests : (p : List ℕ) → 0 < length p → held p ≡ (eqb (get_or p 0 0) eot && (leb (length p) longest && held_behind_eot (take (length p - 1) (drop 1 p))))
unfolding held
tests [] h = let z : ⊥ = omega arith in absurd z
tests (b ∷ p) h = rw (take_all (length (b ∷ p) - 1) p (omega arith)) refl

pub returns-then-n-eq0 : goal.returns-then-n-eq0
returns-then-n-eq0 c = none c.args.part.now c.if-n-eq0.true

pub returns-then-part-ne-EOT : goal.returns-then-part-ne-EOT
returns-then-part-ne-EOT c = sym (tests c.args.part.now (omega arith) ∙ rw (ne_eqb _ _ c.if-part-ne-EOT.true))

pub returns-then-n-gt-LONGEST : goal.returns-then-n-gt-LONGEST
returns-then-n-gt-LONGEST c =
    let p = c.args.part.now in
    sym (tests p (omega arith) ∙ rw (eq-eqb _ _ c.if-part-ne-EOT.false, lt-leb (length p) longest (omega arith)))

pub returns : goal.returns
returns c =
    let p = c.args.part.now in
    sym (tests p (omega arith) ∙ rw (eq-eqb _ _ c.if-part-ne-EOT.false, le-leb (length p) longest (omega arith), ← c.holds_behind_eot.ensures))
