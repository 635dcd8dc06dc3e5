-- `lecom::answer::put_code_at` meets its contract, piece by piece. Assumes nothing.
use Rattle.std.proofs.Common.{arith, length-drop, length-set, length-take, rules}
use Rattle.lecom.proofs.Frames.{bounds}
use Rattle.lecom.proofs.Writes.{wrote_code}
use Rattle.lecom.proofs.answer.put_code_at.Goals as goal

pub slice_bounds-copy-count : goal.slice_bounds-copy-count
slice_bounds-copy-count c = omega (arith, bounds c.args.f.bytes.now)

pub slice_bounds-copy-start : goal.slice_bounds-copy-start
slice_bounds-copy-start c = omega (arith, bounds c.args.f.bytes.now)

pub copy-requires : goal.copy-requires
copy-requires c = simp (length-set, length-take, length-drop) (omega (arith, bounds c.args.f.bytes.now))

pub overflow_sub-result : goal.overflow_sub-result
overflow_sub-result c = omega (arith, bounds c.args.f.bytes.now)

pub returns : goal.returns
returns c = wrote_code _ _ _ _ _ c.requires.0.0 c.requires.0.1 c.requires.1.0 (search rules) c.copy.ensures
