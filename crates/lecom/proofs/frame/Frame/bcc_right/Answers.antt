-- `lecom::frame::Frame::bcc_right` meets its contract, test by test. Assumes nothing.
use Rattle.wire.proofs.Cases.{cases, yes, told_true}
use Rattle.lecom.proofs.Frames.{write_start}
use Rattle.lecom.specs.Frame.{bcc_right}
use Rattle.lecom.proofs.frame.Frame.bcc_right.Goals as goal

pub returns-then-not-self : goal.returns-then-not-self
unfolding bcc_right
returns-then-not-self c = search cases

pub returns : goal.returns
unfolding bcc_right
returns c =
    let write = told_true c.args.self.outlined.writes c.if-not-self.false in
    yes _ _ _ _ write (rw (c.bcc.ensures, write_start c.args.self.bytes.now write))
