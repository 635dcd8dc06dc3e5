-- `lecom::answer::put_value` meets its contract: data behind STX and the code. Assumes nothing.
use Rattle.std.proofs.Common.{arith}
use Rattle.lecom.proofs.Writes.{code_most, wrote_value}
use Rattle.lecom.proofs.answer.put_value.Goals as goal

pub put_data-requires : goal.put_data-requires
put_data-requires c = omega (arith, code_most c.args.f.bytes.now c.requires.0, c.put_code-end.ensures.measured)

pub returns : goal.returns
returns c = wrote_value _ _ _ _ _ c.put_code-end.ensures c.put_data.ensures.0 c.put_data.ensures.1
