-- `datalink::answer::apply` meets its contract. The invariant: the first i bytes of the change are applied. Assumes nothing.
use Rattle.datalink.specs.Answer.{changed}
use Rattle.std.proofs.Common.{add-one, arith, rules}
use Rattle.datalink.proofs.answer.apply.Goals as goal

pub loop-i-init : goal.loop-i-init
unfolding changed
loop-i-init c = search rules

pub new_byte-requires : goal.new_byte-requires
new_byte-requires c =
    let p = c.requires in
    (omega arith, λ h. omega (arith, p.1.1 h))

pub loop-i-preserved : goal.loop-i-preserved
unfolding changed
loop-i-preserved c = rw (add-one, c.new_byte.ensures, c.loop-i.invariant)
