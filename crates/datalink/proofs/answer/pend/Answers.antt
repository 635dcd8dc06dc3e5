-- `datalink::answer::pend` meets its contract. Assumes nothing.
use Rattle.datalink.proofs.Writes.{pend_overlay}
use Rattle.std.proofs.Common.{◌∙◌, arith}
use Rattle.datalink.proofs.answer.pend.Goals as goal

pub returns : goal.returns
returns c = c.copy.ensures ∙ pend_overlay c.args.kind c.args.body.now c.args.ports.now (omega arith)
