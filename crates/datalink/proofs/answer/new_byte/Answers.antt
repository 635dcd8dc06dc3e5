-- `datalink::answer::new_byte` meets its contract, test by test. Assumes nothing.
use Rattle.wire.proofs.Cases.{yes, no}
use Rattle.std.proofs.Common.{arith, eq-eqb, ne_eqb}
use Rattle.datalink.specs.Answer.{new_byte}
use Rattle.datalink.proofs.answer.new_byte.Goals as goal

pub bounds-sent-i : goal.bounds-sent-i
bounds-sent-i c = omega (arith, c.requires.1 c.if-kind-eq-CHANGE_BITS.true)

pub bounds-sent-i-then-kind-eq-CHANGE_BITS : goal.bounds-sent-i-then-kind-eq-CHANGE_BITS
bounds-sent-i-then-kind-eq-CHANGE_BITS c = omega (arith, c.requires.1 c.if-kind-eq-CHANGE_BITS.true)

pub returns-then-kind-eq-CHANGE_BITS : goal.returns-then-kind-eq-CHANGE_BITS
unfolding new_byte
returns-then-kind-eq-CHANGE_BITS c = search (yes, no, eq-eqb, ne_eqb)

pub returns : goal.returns
unfolding new_byte
returns c = search (yes, no, eq-eqb, ne_eqb)
