-- `card::change::is_echoable` meets its contract: the tests are those of the definition. Assumes nothing.
use Rattle.std.proofs.Common.{le-leb}
use Rattle.std.proofs.lemmas.Bool.{lt-leb}
use Rattle.wire.proofs.Cases.{told_true, told_false}
use Rattle.card.specs.Change.{echoable}
use Rattle.card.proofs.change.is_echoable.Goals as goal

pub returns-then-kind-gt-CHANGE_BITS : goal.returns-then-kind-gt-CHANGE_BITS
unfolding echoable
returns-then-kind-gt-CHANGE_BITS c = rw (lt-leb _ _ c.if-kind-gt-CHANGE_BITS.true)

pub returns-then-not-num_right : goal.returns-then-not-num_right
unfolding echoable
returns-then-not-num_right c = simp (le-leb _ _ c.if-kind-gt-CHANGE_BITS.false, told_false c.num_right.ensures c.if-not-num_right.true)

pub returns-then-not-in_memory : goal.returns-then-not-in_memory
unfolding echoable
returns-then-not-in_memory c = simp (le-leb _ _ c.if-kind-gt-CHANGE_BITS.false, told_true c.num_right.ensures c.if-not-num_right.false, told_false c.in_memory.ensures c.if-not-in_memory.true)

pub returns : goal.returns
unfolding echoable
returns c = simp (le-leb _ _ c.if-kind-gt-CHANGE_BITS.false, told_true c.num_right.ensures c.if-not-num_right.false, told_true c.in_memory.ensures c.if-not-in_memory.false, c.names_read_only.ensures)
