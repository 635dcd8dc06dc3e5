-- `bits::Packed::finish` meets its contract: the bits that are held are whole bytes. Assumes nothing.
use Rattle.std.proofs.Common.{◌≡◌, ℕ, ◌*◌, ◌/◌, ap, ◌∙◌, arith}
use Rattle.bits.specs.Bits.{put_field}
use Rattle.bits.specs.Packing.{packed}
use Rattle.bits.proofs.Packed.finish.Goals as goal

pub returns : goal.returns
unfolding packed
returns c = let a = c.args in
    let p = a.self in
    let e : 8 * (p.count / 8) ≡ p.count = omega (arith, c.requires.1) in
    c.scatter.ensures ∙ ap (λ (n : ℕ). put_field a.image.now (8 * p.at) n p.held) e
