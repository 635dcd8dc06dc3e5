-- `lucid::frame::Head::len_for` meets its contract, command by command. Assumes nothing.
use Rattle.std.proofs.Common.{refl}
use Rattle.wire.specs.Choose.{choose}
use Rattle.wire.proofs.Cases.{yes, no, told_true, told_false}
use Rattle.lucid.specs.Frame.{len_for}
use Rattle.lucid.proofs.Commands.{gets, sets}
use Rattle.lucid.proofs.frame.Head.len_for.Goals as goal

pub returns-in-GetIo : goal.returns-in-GetIo
unfolding len_for
returns-in-GetIo c = yes _ _ _ _ (gets c.args.self.command c.in-GetIo.is) refl

pub returns-in-SetIo : goal.returns-in-SetIo
unfolding len_for
returns-in-SetIo c = let p = sets c.args.self.command c.in-SetIo.is in
    no _ _ _ _ p.0 (yes _ _ _ _ p.1 (rw (← c.size.ensures.0, ← c.mask_of.ensures, ← c.count.ensures.0)))

pub returns-in-GetParam : goal.returns-in-GetParam
unfolding len_for choose
returns-in-GetParam c = rw c.in-GetParam.is

pub returns-then-is_reset : goal.returns-then-is_reset
unfolding len_for choose
returns-then-is_reset c = let resets = told_true c.is_reset.ensures c.if-is_reset.true in rw (c.in-SetParam.is, rw c.in-SetParam.is at resets)

pub returns-else-is_reset : goal.returns-else-is_reset
unfolding len_for choose
returns-else-is_reset c = let keeps = told_false c.is_reset.ensures c.if-is_reset.false in rw (c.in-SetParam.is, rw c.in-SetParam.is at keeps)
