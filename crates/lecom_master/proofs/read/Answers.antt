-- `lecom_master::read` meets its contract, test by test. Assumes nothing.
use Rattle.std.proofs.Common.{refl}
use Rattle.wire.proofs.Cases.{yes, no, told_true, told_false}
use Rattle.asking.specs.Hearing.{unless_outside}
use Rattle.lecom_master.proofs.read.Goals as goal

pub returns-then-not-is_askable : goal.returns-then-not-is_askable
unfolding unless_outside
returns-then-not-is_askable c = no _ _ _ _ (told_false c.is_askable.ensures c.if-not-is_askable.true) refl

pub returns : goal.returns
unfolding unless_outside
returns c = yes _ _ _ _ (told_true c.is_askable.ensures c.if-not-is_askable.false) c.hear.ensures
