-- `lucid_master::frames::put_head` meets its contract. Assumes nothing.
use Rattle.std.proofs.Common.{[], ◌∷◌, refl, arith}
use Rattle.wire.proofs.Buffers.{overlay_sets}
use Rattle.lucid_master.proofs.frames.put_head.Goals as goal

pub returns : goal.returns
returns c = let h = c.args.head in
    record { measured = refl; written = overlay_sets (h.opc ∷ h.p1 ∷ h.p2 ∷ c.args.len ∷ []) c.args.out.now (omega arith) }
