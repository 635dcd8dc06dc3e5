-- `lucid::frame::quad` meets its contract. Assumes nothing.
use Rattle.std.proofs.Common.{◌≡◌, ◌+◌, arith}
use Rattle.lucid.specs.Form.{number_at}
use Rattle.lucid.proofs.frame.quad.Goals as goal

pub returns : goal.returns
unfolding number_at
returns c = let at = c.args.at in
    let third : at + 1 + 1 ≡ at + 2 = omega arith in
    let fourth : at + 2 + 1 ≡ at + 3 = omega arith in
    rw (third, fourth) (omega (arith, c.from_le_bytes.ensures))
