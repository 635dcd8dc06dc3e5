-- `lucid_master::frames::put_pair` meets its contract. Assumes nothing.
use Rattle.std.proofs.Common.{[], ◌∷◌, ◌/◌, ◌%◌, add-one, arith}
use Rattle.wire.specs.Sum.{byte_values}
use Rattle.wire.proofs.Buffers.{put_sets}
use Rattle.lucid.specs.Form.{little}
use Rattle.lucid_master.proofs.frames.put_pair.Goals as goal

pub returns : goal.returns
unfolding little
returns c = let a = c.args in
    rw (c.to_le_bytes.ensures, add-one) (put_sets (a.x % byte_values ∷ a.x / byte_values % byte_values ∷ []) a.out.now a.at (omega arith))
