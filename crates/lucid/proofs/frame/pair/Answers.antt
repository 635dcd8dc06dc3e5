-- `lucid::frame::pair` meets its contract. Assumes nothing.
use Rattle.std.proofs.Common.{◌+◌, arith}
use Rattle.lucid.specs.Form.{number_at}
use Rattle.lucid.proofs.frame.pair.Goals as goal

pub returns : goal.returns
unfolding number_at
returns c = let low = c.type_inv.f c.args.at in
    let high = c.type_inv.f (c.args.at + 1) in
    (omega (arith, c.from_le_bytes.ensures), omega (arith, c.from_le_bytes.ensures))
