-- `card::governor::governor_reading` meets its contract, test by test. Assumes nothing.
use Rattle.card.proofs.Facts.{fit_facts}
use Rattle.card.proofs.Governed.{governor_told}
use Rattle.card.specs.Governor.{governor_of}
use Rattle.wire.specs.Choose.{choose}
use Rattle.wire.proofs.Cases.{told_true, told_false}
use Rattle.std.proofs.Common.{arith, le-ltb, lt-ltb}
use Rattle.card.proofs.governor.governor_reading.Goals as goal

pub returns-then-not-is_fit : goal.returns-then-not-is_fit
unfolding governor_of choose
returns-then-not-is_fit c = governor_told (simp (told_false c.is_fit.ensures c.if-not-is_fit.true))

pub returns-then-channel : goal.returns-then-channel
unfolding governor_of choose
returns-then-channel c = governor_told (simp (told_true c.is_fit.ensures c.if-not-is_fit.false, le-ltb _ _ c.if-channel.true))

pub bounds-memory-channel : goal.bounds-memory-channel
bounds-memory-channel c = let f = fit_facts _ (told_true c.is_fit.ensures c.if-not-is_fit.false) in omega arith

pub returns : goal.returns
unfolding governor_of choose
returns c = governor_told (simp (told_true c.is_fit.ensures c.if-not-is_fit.false, lt-ltb _ _ c.if-channel.false) c.told.ensures)
