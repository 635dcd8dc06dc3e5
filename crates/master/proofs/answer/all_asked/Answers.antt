-- `master::answer::all_asked` meets its contract.
use Rattle.std.proofs.Common.{refl, arith, add-one}
use Rattle.master.specs.Frames.{all_asked}
use Rattle.master.proofs.answer.all_asked.Goals as goal

pub loop-i-init : goal.loop-i-init
unfolding all_asked
loop-i-init c = refl

pub as_asked-asked-requires : goal.as_asked-asked-requires
as_asked-asked-requires c = (omega arith, c.args.request.accepted.pairs)

pub loop-i-preserved : goal.loop-i-preserved
unfolding all_asked
loop-i-preserved c = rw (add-one, c.loop-i.invariant, c.as_asked-asked.ensures)
