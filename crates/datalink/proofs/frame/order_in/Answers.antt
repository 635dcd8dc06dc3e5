-- `datalink::frame::order_in` meets its contract. Assumes nothing.
use Rattle.std.proofs.Common.{◌≡◌, ◌≤◌, length, ◌∙◌, arith, eqb-true}
use borrow.Author.Tests.{eqb-false}
use Rattle.wire.proofs.Cases.{told_true, told_false}
use Rattle.datalink.specs.Form.{bare_size, acknowledge_bits}
use Rattle.datalink.specs.Frame.{command_in, kind_in, num_in, address_in}
use Rattle.datalink.proofs.Frames.{order_acknowledge, order_other, form_facts}
use Rattle.datalink.proofs.frame.order_in.Goals as goal
use Rattle.datalink.proofs.frame.order_in.Goals.{Else-is_acknowledge}

pub returns-then-is_acknowledge : goal.returns-then-is_acknowledge
returns-then-is_acknowledge c = order_acknowledge _ (eqb-true _ _ (rw c.requires.0 at (told_true c.is_acknowledge.ensures c.if-is_acknowledge.true)))

other : (c : Else-is_acknowledge) → command_in c.args.f.now ≡ acknowledge_bits → ⊥
other c = eqb-false _ _ (rw c.requires.0 at (told_false c.is_acknowledge.ensures c.if-is_acknowledge.false))

-- the frame is no Acknowledge, so it has NUM and address
long : (c : Else-is_acknowledge) → bare_size ≤ length c.args.f.now
long c = omega (arith, form_facts _ (other c) c.requires.1)

pub bounds-f-3 : goal.bounds-f-3
bounds-f-3 c = omega (arith, long ((goal.at.bounds-f-3 c).Else-is_acknowledge))

pub bounds-f-4 : goal.bounds-f-4
bounds-f-4 c = omega (arith, long ((goal.at.bounds-f-4 c).Else-is_acknowledge))

pub bounds-f-2 : goal.bounds-f-2
bounds-f-2 c = omega (arith, long ((goal.at.bounds-f-2 c).Else-is_acknowledge))

pub returns : goal.returns
unfolding kind_in num_in address_in
returns c =
    c.order_at.ensures
    ∙ rw (c.kind-kind.ensures, c.two_bytes-at.ensures, c.requires.0)
    (order_other c.args.f.now (other ((goal.at.returns c).Else-is_acknowledge)))
