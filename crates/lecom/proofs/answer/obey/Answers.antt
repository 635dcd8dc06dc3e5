-- `lecom::answer::obey` meets its contract, order by order. Assumes nothing.
use Rattle.card.proofs.Replies.{gave_leaving}
use Rattle.lecom.specs.Answer.{obeyed}
use Rattle.lecom.proofs.answer.obey.Goals as goal

pub returns-in-Read : goal.returns-in-Read
unfolding obeyed
returns-in-Read c = rw c.in-Read.is (gave_leaving _ _ _ c.read.ensures)

pub returns-in-Write : goal.returns-in-Write
unfolding obeyed
returns-in-Write c = rw (c.in-Write.is, ← c.args.f.outlined.quiet, c.write.ensures) (gave_leaving _ _ _ c.acknowledge.ensures)
