-- `lecom::frame::Frame::is_reached` meets its contract, test by test. Assumes nothing.
use Rattle.wire.proofs.Cases.{yes, no, told_true, told_false}
use Rattle.lecom.specs.Frame.{reaches, tens_in, ones_in}
use Rattle.lecom.proofs.frame.Frame.is_reached.Goals as goal

pub returns-then-self : goal.returns-then-self
unfolding reaches tens_in
returns-then-self c = yes _ _ _ _ (told_true c.args.self.outlined.quiet c.if-self.true) (rw c.figure-tens.ensures)

pub returns : goal.returns
unfolding reaches tens_in ones_in
returns c =
    no _ _ _ _ (told_false c.args.self.outlined.quiet c.if-self.false)
    (rw (c.figure-tens.ensures, c.figure-ones.ensures))
