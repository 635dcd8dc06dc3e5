-- `datalink::frame::form_right` meets its contract, test by test. Assumes nothing.
use Rattle.std.proofs.Common.{refl}
use borrow.Author.Tests.{eqb-false}
use Rattle.wire.proofs.Cases.{yes, no, told_true, told_false}
use Rattle.datalink.specs.Frame.{form_right, is_acknowledge, kind_in, num_in}
use Rattle.datalink.proofs.Frames.{form_short}
use Rattle.datalink.proofs.frame.form_right.Goals as goal

pub returns-then-is_acknowledge : goal.returns-then-is_acknowledge
unfolding form_right is_acknowledge
returns-then-is_acknowledge c = yes _ _ _ _ (rw c.requires at (told_true c.is_acknowledge.ensures c.if-is_acknowledge.true)) refl

pub returns-then-f-lt-BARE : goal.returns-then-f-lt-BARE
returns-then-f-lt-BARE c = form_short _ (eqb-false _ _ (rw c.requires at (told_false c.is_acknowledge.ensures c.if-is_acknowledge.false))) c.if-f-lt-BARE.true

pub returns : goal.returns
unfolding form_right is_acknowledge kind_in num_in
returns c = no _ _ _ _ (rw c.requires at (told_false c.is_acknowledge.ensures c.if-is_acknowledge.false)) (cc)
