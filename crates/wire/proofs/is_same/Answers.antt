-- `wire::is_same` meets its contract. The invariant: ok tells of the first i bytes. Assumes nothing.
use Rattle.std.proofs.Common.{sym, refl, ◌∙◌, add-one, arith}
use Rattle.wire.proofs.Same.{same_next, same_end}
use Rattle.wire.proofs.is_same.Goals as goal

pub loop-i-init : goal.loop-i-init
loop-i-init c = refl

pub loop-i-preserved : goal.loop-i-preserved
loop-i-preserved c = let l = c.loop-i in
    let a = c.args in
    rw (add-one l.i) (l.invariant ∙ same_next l.ok a.a.now a.b.now l.i (omega arith) (omega arith))

pub returns : goal.returns
returns c = let l = c.loop-i in
    let a = c.args in
    sym (l.invariant ∙ same_end l.ok a.a.now a.b.now l.i (omega arith) (omega arith))
