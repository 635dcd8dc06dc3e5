-- `lecom::collect::bcc_next` meets its contract, test by test. Assumes nothing.
use Rattle.std.proofs.Common.{◌≡◌, ℕ, false, List, [], ◌∷◌, length, refl, arith, eq-eqb, ne_eqb}
use Rattle.wire.proofs.Tests.{and_true_right, and_false_right}
use Rattle.receiver.specs.Step.{among}
use Rattle.lecom.specs.Receiver.{bcc_next}
use Rattle.lecom.proofs.collect.bcc_next.Goals as goal

none : (p : List ℕ) → length p ≡ 0 → false ≡ bcc_next p
unfolding bcc_next among
none [] h = refl
none (b ∷ p) h = let z : ⊥ = omega arith in absurd z

pub returns-then-n-eq0 : goal.returns-then-n-eq0
returns-then-n-eq0 c = none c.args.part.now c.if-n-eq0.true

pub returns-then-part-n-ne-ETX : goal.returns-then-part-n-ne-ETX
unfolding bcc_next
returns-then-part-n-ne-ETX c = rw (ne_eqb _ _ c.if-part-n-ne-ETX.true, and_false_right)

pub returns : goal.returns
unfolding bcc_next
returns c = rw (eq-eqb _ _ c.if-part-n-ne-ETX.false, and_true_right) c.has.ensures
