-- `master::frame::acknowledge` meets its contract.
use Rattle.std.proofs.Common.{refl, arith, length-set, [], ◌∷◌, ◌+◌}
use Rattle.wire.proofs.Buffers.{overlay_sets}
use Rattle.master.proofs.frame.acknowledge.Goals as goal

pub bounds-out-1 : goal.bounds-out-1
bounds-out-1 c = simp length-set (omega arith)

pub returns : goal.returns
returns c = record { measured = refl; written = overlay_sets (126 ∷ (128 + c.args.ia) ∷ []) c.args.out.now (omega arith) }
