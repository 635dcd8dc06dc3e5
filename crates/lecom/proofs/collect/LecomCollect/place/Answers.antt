-- `lecom::collect::LecomCollect::place` meets its contract, test by test. Assumes nothing.
use Rattle.std.proofs.Common.{sym, arith, lt-ltb, ne_eqb}
use Prim.{tt}
use Rattle.wire.proofs.Cases.{cases, yes, no, told_true, told_false}
use Rattle.receiver.specs.Step.{grown}
use Rattle.lecom.specs.Receiver.{step}
use Rattle.lecom.proofs.collect.LecomCollect.place.Goals as goal

pub returns-then-n-lt-LONGEST : goal.returns-then-n-lt-LONGEST
unfolding step grown
returns-then-n-lt-LONGEST c = record { fate = sym (search cases); room = c.if-n-lt-LONGEST.true }

pub returns-then-bcc_next : goal.returns-then-bcc_next
unfolding step grown
returns-then-bcc_next c = record { fate = sym (search cases); room = tt }

pub returns-then-b-eq-EOT : goal.returns-then-b-eq-EOT
unfolding step
returns-then-b-eq-EOT c = record { fate = sym (search cases); room = tt }

pub returns-then-n-eq0 : goal.returns-then-n-eq0
unfolding step
returns-then-n-eq0 c = record { fate = sym (search cases); room = tt }

pub returns-then-n-ge-LONGEST : goal.returns-then-n-ge-LONGEST
unfolding step grown
returns-then-n-ge-LONGEST c = record { fate = sym (search cases); room = tt }

pub returns-then-ends_read : goal.returns-then-ends_read
unfolding step grown
returns-then-ends_read c = record { fate = sym (search (yes, no, told_true, told_false, ne_eqb, lt-ltb) depth 12); room = omega arith }

pub returns : goal.returns
unfolding step grown
returns c = record { fate = sym (search (no, yes, told_false, ne_eqb, lt-ltb) depth 12); room = omega arith }
