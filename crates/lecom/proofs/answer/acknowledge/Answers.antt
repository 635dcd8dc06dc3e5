-- `lecom::answer::acknowledge` meets its contract, test by test. Assumes nothing.
use Rattle.card.proofs.Replies.{wrote_one}
use Rattle.lecom.specs.Form.{ack}
use Rattle.lecom.proofs.Writes.{done_quiet, done_sent}
use Rattle.std.proofs.Common.{rules}
use Rattle.lecom.proofs.answer.acknowledge.Goals as goal

pub returns-then-quiet : goal.returns-then-quiet
returns-then-quiet c = done_quiet _ _ _ c.if-quiet.true

pub returns : goal.returns
returns c = done_sent _ _ _ c.if-quiet.false (wrote_one ack c.args.out.now (search rules))
