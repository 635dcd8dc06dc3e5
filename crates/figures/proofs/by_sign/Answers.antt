-- `figures::by_sign` meets its contract. Assumes nothing.
use Rattle.std.proofs.Common.{refl}
use Rattle.wire.proofs.Cases.{yes, no, told_true, told_false}
use Rattle.figures.proofs.by_sign.Goals as goal

pub returns-then-is_negative : goal.returns-then-is_negative
returns-then-is_negative c = yes _ _ _ _ (told_true c.is_negative.ensures c.if-is_negative.true) refl

pub returns : goal.returns
returns c = no _ _ _ _ (told_false c.is_negative.ensures c.if-is_negative.false) refl
