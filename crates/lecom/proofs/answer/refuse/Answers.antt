-- `lecom::answer::refuse` meets its contract, test by test. Assumes nothing.
use Rattle.wire.proofs.Cases.{told_true, told_false}
use Rattle.lecom.proofs.Writes.{refused_quiet, refused_sent}
use Rattle.lecom.proofs.answer.refuse.Goals as goal

pub returns-then-f : goal.returns-then-f
returns-then-f c = refused_quiet _ _ _ (told_true c.args.f.outlined.quiet c.if-f.true)

pub returns : goal.returns
returns c = refused_sent _ _ _ (told_false c.args.f.outlined.quiet c.if-f.false) c.put_refusal-len.ensures
