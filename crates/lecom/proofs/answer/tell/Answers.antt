-- `lecom::answer::tell` meets its contract, test by test. Assumes nothing.
use Rattle.wire.proofs.Cases.{told_true, told_false}
use Rattle.lecom.proofs.Writes.{done_quiet, done_sent}
use Rattle.lecom.proofs.answer.tell.Goals as goal

pub returns-then-f : goal.returns-then-f
returns-then-f c = done_quiet _ _ _ (told_true c.args.f.outlined.quiet c.if-f.true)

pub returns : goal.returns
returns c = done_sent _ _ _ (told_false c.args.f.outlined.quiet c.if-f.false) c.put_value-len.ensures
