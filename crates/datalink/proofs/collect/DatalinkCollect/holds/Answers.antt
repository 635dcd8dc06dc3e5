-- `datalink::collect::DatalinkCollect::holds` meets its contract. Assumes nothing.
use Rattle.std.proofs.Common.{eq-eqb, ne_eqb}
use Rattle.wire.proofs.Cases.{yes, no, told_yes, cases}
use Rattle.datalink.proofs.Receiver.{held_stages}
use Rattle.datalink.proofs.collect.DatalinkCollect.holds.Goals as goal

pub returns-then-n-eq0 : goal.returns-then-n-eq0
returns-then-n-eq0 c = simp held_stages (search cases)

pub returns-then-part-ne-START : goal.returns-then-part-ne-START
returns-then-part-ne-START c = simp held_stages (search cases)

pub returns-then-n-eq-SECOND : goal.returns-then-n-eq-SECOND
returns-then-n-eq-SECOND c = simp held_stages (search cases)

pub returns-then-not-goes_on : goal.returns-then-not-goes_on
returns-then-not-goes_on c = simp held_stages (search cases)

pub returns-then-n-eq-NUM : goal.returns-then-n-eq-NUM
returns-then-n-eq-NUM c = simp held_stages (search cases)

pub returns : goal.returns
returns c = simp held_stages (search (yes, no, told_yes, eq-eqb, ne_eqb) depth 12)
