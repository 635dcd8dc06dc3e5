-- `lecom::answer::write` meets its contract, by what is named. Assumes nothing.
use Rattle.std.proofs.Common.{refl, eq-eqb, ne_eqb}
use Rattle.wire.proofs.Cases.{yes, no}
use Rattle.lecom.specs.Answer.{activated, stored, written}
use Rattle.lecom.proofs.answer.write.Goals as goal

pub returns-in-Register : goal.returns-in-Register
unfolding written
returns-in-Register c = rw c.in-Register.is

pub returns-in-Probe : goal.returns-in-Probe
unfolding written
returns-in-Probe c = rw c.in-Probe.is

pub returns-then-value-ne0 : goal.returns-then-value-ne0
unfolding written activated
returns-then-value-ne0 c = rw c.in-Activate.is (no _ _ _ _ (ne_eqb _ _ c.if-value-ne0.true) c.move_words.ensures)

pub returns-else-value-ne0 : goal.returns-else-value-ne0
unfolding written
returns-else-value-ne0 c = rw c.in-Activate.is (yes _ _ _ _ (eq-eqb _ _ c.if-value-ne0.false) refl)

pub returns-then-value-ne0-2 : goal.returns-then-value-ne0-2
unfolding written stored
returns-then-value-ne0-2 c = rw c.in-Store.is (no _ _ _ _ (ne_eqb _ _ c.if-value-ne0-2.true) c.move_words-then-value-ne0-2.ensures)

pub returns-else-value-ne0-2 : goal.returns-else-value-ne0-2
unfolding written
returns-else-value-ne0-2 c = rw c.in-Store.is (yes _ _ _ _ (eq-eqb _ _ c.if-value-ne0-2.false) refl)
