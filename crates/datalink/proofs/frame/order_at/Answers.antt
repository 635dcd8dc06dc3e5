-- `datalink::frame::order_at` meets its contract: an Interrogate may name every byte, so that it is known before the read-only test. Assumes nothing.
use Rattle.std.proofs.Common.{eq-eqb, ne_eqb}
use Rattle.wire.specs.Choose.{choose}
use Rattle.wire.proofs.Cases.{cases, told_true, told_false}
use Rattle.datalink.specs.Frame.{change_allowed}
use Rattle.datalink.specs.Stages.{order_at}
use Rattle.datalink.proofs.frame.order_at.Goals as goal

pub returns-then-not-in_memory : goal.returns-then-not-in_memory
unfolding order_at
returns-then-not-in_memory c = rw (← c.bytes_named-n.ensures) (search cases)

pub returns-then-kind-eq-NO_CHANGE : goal.returns-then-kind-eq-NO_CHANGE
unfolding order_at change_allowed choose
returns-then-kind-eq-NO_CHANGE c =
    let inside = told_true c.in_memory.ensures c.if-not-in_memory.false in
    rw (← c.bytes_named-n.ensures) (simp (inside, eq-eqb _ _ c.if-kind-eq-NO_CHANGE.true))

pub returns-then-names_read_only : goal.returns-then-names_read_only
unfolding order_at change_allowed choose
returns-then-names_read_only c =
    let inside = told_true c.in_memory.ensures c.if-not-in_memory.false in
    rw (← c.bytes_named-n.ensures) (simp (inside, ne_eqb _ _ c.if-kind-eq-NO_CHANGE.false, told_true c.names_read_only.ensures c.if-names_read_only.true))

pub returns : goal.returns
unfolding order_at change_allowed choose
returns c =
    let inside = told_true c.in_memory.ensures c.if-not-in_memory.false in
    rw (← c.bytes_named-n.ensures) (simp (inside, ne_eqb _ _ c.if-kind-eq-NO_CHANGE.false, told_false c.names_read_only.ensures c.if-names_read_only.false))
