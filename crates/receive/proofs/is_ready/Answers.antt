-- `receive::is_ready` meets its contract.
use Rattle.wire.proofs.Cases.{told_true, told_false}
use Rattle.card.proofs.Facts.{fit_facts}
use Rattle.receive.specs.Receive.{ready}
use Rattle.receive.proofs.is_ready.Goals as goal

pub returns-then-not-is_fit : goal.returns-then-not-is_fit
unfolding ready
returns-then-not-is_fit c = rw (told_false c.is_fit.ensures c.if-not-is_fit.true)

pub all_within-requires : goal.all_within-requires
all_within-requires c = (fit_facts _ (told_true c.is_fit.ensures c.if-not-is_fit.false)).ports_length

pub returns : goal.returns
unfolding ready
returns c = rw (told_true c.is_fit.ensures c.if-not-is_fit.false) c.all_within.ensures
