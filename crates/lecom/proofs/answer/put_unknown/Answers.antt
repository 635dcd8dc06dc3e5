-- `lecom::answer::put_unknown` meets its contract, piece by piece. Assumes nothing.
use Rattle.std.proofs.Common.{arith}
use Rattle.card.proofs.Replies.{wrote_set}
use Rattle.lecom.specs.Form.{eot}
use Rattle.lecom.specs.Answer.{unknown_bytes}
use Rattle.lecom.proofs.Writes.{code_most}
use Rattle.lecom.proofs.answer.put_unknown.Goals as goal

pub bounds-out-at : goal.bounds-out-at
bounds-out-at c = omega (arith, code_most c.args.f.bytes.now c.requires.0, c.put_code-at.ensures.measured)

pub overflow_add-result : goal.overflow_add-result
overflow_add-result c = omega (arith, code_most c.args.f.bytes.now c.requires.0, c.put_code-at.ensures.measured)

pub returns : goal.returns
unfolding unknown_bytes
returns c = wrote_set _ _ c.put_code-at.ensures eot (omega (arith, code_most c.args.f.bytes.now c.requires.0, c.put_code-at.ensures.measured))
