-- `datalink::collect::DatalinkCollect::sure` meets its contract. Assumes nothing.
use Rattle.std.proofs.Common.{arith}
use Rattle.datalink.proofs.Receiver.{room, sure_num, missing}
use Rattle.receiver.proofs.Sure.{sure_none}
use Rattle.datalink.specs.Form.{longest}
use Rattle.datalink.specs.Receiver.{held}
use Rattle.datalink.proofs.collect.DatalinkCollect.sure.Goals as goal

pub returns-then-n-le-NUM : goal.returns-then-n-le-NUM
returns-then-n-le-NUM c = sure_none held longest c.args.part.now c.requires (omega (arith, room c.args.part.now c.requires))

pub overflow_sub-result : goal.overflow_sub-result
overflow_sub-result c = let l = missing c.args.part.now (omega arith) c.requires in omega (arith, c.size.ensures)

pub overflow_sub-result-2 : goal.overflow_sub-result-2
overflow_sub-result-2 c = let l = missing c.args.part.now (omega arith) c.requires in omega (arith, c.size.ensures)

pub returns : goal.returns
returns c = let l = missing c.args.part.now (omega arith) c.requires in sure_num _ _ (omega arith) c.requires (omega (arith, c.size.ensures))
