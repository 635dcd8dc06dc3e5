-- `lucid::collect::LucidCollect::sure` meets its contract. Assumes nothing.
use Rattle.std.proofs.Common.{arith}
use Rattle.lucid.proofs.Receiver.{sure_len, missing}
use Rattle.lucid.proofs.collect.LucidCollect.sure.Goals as goal

pub overflow_sub-result : goal.overflow_sub-result
overflow_sub-result c = let l = missing c.args.part.now (omega arith) c.requires in omega (arith, c.size.ensures.0)

pub overflow_sub-result-2 : goal.overflow_sub-result-2
overflow_sub-result-2 c = let l = missing c.args.part.now (omega arith) c.requires in omega (arith, c.size.ensures.0)

pub returns : goal.returns
returns c = let l = missing c.args.part.now (omega arith) c.requires in sure_len _ _ (omega arith) (omega (arith, c.size.ensures.0)) (omega (arith, c.size.ensures.0, c.size.ensures.1))
