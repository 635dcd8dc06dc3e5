-- `datalink::frame::order_of` meets its contract, test by test. Assumes nothing.
use Rattle.std.proofs.Common.{◌≤◌, length, arith}
use Rattle.wire.proofs.Cases.{cases, told_true}
use Rattle.wire.proofs.Lengths.{between_facts}
use Rattle.datalink.specs.Form.{shortest, longest}
use Rattle.datalink.specs.Frame.{asked}
use Rattle.datalink.specs.Stages.{order_in, order_here}
use Rattle.datalink.proofs.frame.order_of.Goals as goal
use Rattle.datalink.proofs.frame.order_of.Goals.{Else-not-fits}

pub returns-then-not-fits : goal.returns-then-not-fits
unfolding asked
returns-then-not-fits c = search cases

-- a frame of a right length has its second byte
long : (c : Else-not-fits) → shortest ≤ length c.args.f.now
long c = (between_facts shortest longest _ (told_true c.fits.ensures c.if-not-fits.false)).0

pub bounds-f-0 : goal.bounds-f-0
bounds-f-0 c = omega (arith, long ((goal.at.bounds-f-0 c).Else-not-fits))

pub returns-then-f-ne-START : goal.returns-then-f-ne-START
unfolding asked
returns-then-f-ne-START c = search cases

pub ia_in-requires : goal.ia_in-requires
ia_in-requires c = long ((goal.at.ia_in-requires c).Else-not-fits)

pub returns-then-ia_in-ia : goal.returns-then-ia_in-ia
unfolding asked
returns-then-ia_in-ia c = rw (← c.ia_in.ensures) (search cases)

pub order_here-requires : goal.order_here-requires
order_here-requires c = long ((goal.at.order_here-requires c).Else-not-fits)

pub returns : goal.returns
unfolding asked order_here order_in
returns c = rw (← c.ia_in.ensures) (search cases)
