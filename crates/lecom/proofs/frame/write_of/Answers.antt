-- `lecom::frame::write_of` meets its contract, test by test. Assumes nothing.
use Rattle.wire.proofs.Cases.{yes, no, told_true, told_false}
use Rattle.std.proofs.Common.{refl}
use Rattle.wire.specs.Choose.{choose}
use Rattle.lecom.specs.Frame.{value_right, value_in}
use Rattle.lecom.proofs.frame.write_of.Goals as goal

pub returns-in_default : goal.returns-in_default
unfolding value_right choose
returns-in_default c = rw c.in_default.is

pub returns-then-not-takes : goal.returns-then-not-takes
unfolding value_right
returns-then-not-takes c = rw c.in-Some.is (no _ _ _ _ (told_false c.takes.ensures c.if-not-takes.true) refl)

pub returns : goal.returns
unfolding value_right value_in
returns c = rw c.in-Some.is (yes _ _ _ _ (told_true c.takes.ensures c.if-not-takes.false) refl)
