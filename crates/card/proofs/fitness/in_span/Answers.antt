-- `card::fitness::in_span` meets its contract, test by test. Assumes nothing.
use Rattle.std.proofs.Common.{refl, le-leb}
use Rattle.std.proofs.lemmas.Bool.{lt-leb}
use Rattle.wire.proofs.Cases.{yes, no}
use Rattle.card.specs.Fitness.{in_span}
use Rattle.card.proofs.fitness.in_span.Goals as goal

pub returns-then-lo-hi : goal.returns-then-lo-hi
unfolding in_span
returns-then-lo-hi c = yes _ _ _ _ (le-leb _ _ c.if-lo-hi.true) refl

pub returns : goal.returns
unfolding in_span
returns c = no _ _ _ _ (lt-leb _ _ c.if-lo-hi.false) refl
