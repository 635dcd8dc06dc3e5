-- `card::change::fit_pending` meets its contract: no change first, then the tests of the definition. Assumes nothing.
use Rattle.card.specs.Change.{fit_pending}
use Rattle.std.proofs.Common.{eq-eqb, ne_eqb}
use Rattle.card.proofs.change.fit_pending.Goals as goal

pub returns-then-kind-eq-NO_CHANGE : goal.returns-then-kind-eq-NO_CHANGE
unfolding fit_pending
returns-then-kind-eq-NO_CHANGE c = simp (eq-eqb _ _ c.if-kind-eq-NO_CHANGE.true)

pub returns : goal.returns
unfolding fit_pending
returns c = simp (ne_eqb _ _ c.if-kind-eq-NO_CHANGE.false) (rw (← c.bytes_named.ensures, ← c.two_bytes-at.ensures) c.is_echoable.ensures)
