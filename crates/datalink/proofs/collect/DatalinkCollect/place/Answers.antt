-- `datalink::collect::DatalinkCollect::place` meets its contract. Assumes nothing.
use Rattle.datalink.proofs.Receiver.{first_goes, first_drops, second_goes, num_goes, num_drops, later_ends, later_goes}
use Rattle.std.proofs.Common.{arith, rules}
use Rattle.datalink.proofs.collect.DatalinkCollect.place.Goals as goal

pub returns-then-b-eq-START : goal.returns-then-b-eq-START
returns-then-b-eq-START c = search (first_goes, rules)

pub returns-then-n-lt-SHORTEST : goal.returns-then-n-lt-SHORTEST
returns-then-n-lt-SHORTEST c = search (first_drops, rules)

pub returns-then-n-eq-SECOND : goal.returns-then-n-eq-SECOND
returns-then-n-eq-SECOND c = rw c.second_place.ensures (second_goes _ _ c.if-n-eq-SECOND.true c.requires)

pub returns-then-b : goal.returns-then-b
returns-then-b c = num_drops _ _ c.if-n-eq-NUM.true c.requires (omega arith)

pub returns-then-n-eq-NUM : goal.returns-then-n-eq-NUM
returns-then-n-eq-NUM c = search (num_goes, rules)

pub returns-then-size-n : goal.returns-then-size-n
returns-then-size-n c = later_ends _ _ (omega arith) c.requires (rw (← c.size.ensures) c.if-size-n.true)

pub returns : goal.returns
returns c = later_goes _ _ (omega arith) c.requires (rw (← c.size.ensures) c.if-size-n.false)
