-- `receive::all_within` meets its contract.
use Rattle.wire.proofs.Cases.{told_true, told_false}
use Rattle.receive.specs.Parts.{all_within}
use Rattle.receive.proofs.all_within.Goals as goal

pub returns-then-not-is_within : goal.returns-then-not-is_within
unfolding all_within
returns-then-not-is_within c = rw (told_false c.is_within.ensures c.if-not-is_within.true)

pub returns-then-not-is_within-2 : goal.returns-then-not-is_within-2
unfolding all_within
returns-then-not-is_within-2 c = rw (told_true c.is_within.ensures c.if-not-is_within.false, told_false c.is_within-2.ensures c.if-not-is_within-2.true)

pub returns-then-not-is_within-3 : goal.returns-then-not-is_within-3
unfolding all_within
returns-then-not-is_within-3 c = rw (told_true c.is_within.ensures c.if-not-is_within.false, told_true c.is_within-2.ensures c.if-not-is_within-2.false, told_false c.is_within-3.ensures c.if-not-is_within-3.true)

pub returns : goal.returns
unfolding all_within
returns c = rw (told_true c.is_within.ensures c.if-not-is_within.false, told_true c.is_within-2.ensures c.if-not-is_within-2.false, told_true c.is_within-3.ensures c.if-not-is_within-3.false)
    c.is_within-4.ensures
