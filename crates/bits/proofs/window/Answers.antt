-- `bits::window` meets its contract: the library's number is the field of the bytes. Assumes nothing.
use Rattle.std.proofs.Common.{refl, ◌∙◌, arith, length-set}
use Rattle.bits.proofs.Reading.{field_window, filled_next}
use Rattle.bits.proofs.window.Goals as goal

pub loop-i-init : goal.loop-i-init
loop-i-init c = (refl, λ j h. omega arith)

pub loop-i-preserved : goal.loop-i-preserved
loop-i-preserved c = let l = c.loop-i in
    (rw length-set l.invariant.0, λ j h. filled_next l.bytes c.args.image.now c.args.first l.i j (omega arith) h l.invariant.1)

pub returns : goal.returns
returns c = let a = c.args in
    let l = c.loop-i in
    c.from_be_bytes.ensures ∙ field_window a.image.now l.bytes a.first (λ k. omega (arith, c.type_inv.image k)) (λ i h. l.invariant.1 i (omega arith))
