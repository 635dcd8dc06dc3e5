-- `figures::magnitude` meets its contract. Assumes nothing.
use Rattle.std.proofs.Common.{arith}
use Rattle.wire.proofs.Cases.{cases, yes, told_true}
use Rattle.figures.specs.Signed.{magnitude}
use Rattle.figures.proofs.Texts.{negative_at_least}
use Rattle.figures.proofs.magnitude.Goals as goal

pub overflow_add-result : goal.overflow_add-result
overflow_add-result c = omega (arith, negative_at_least _ (told_true c.is_negative.ensures c.if-is_negative.true))

pub returns-then-is_negative : goal.returns-then-is_negative
unfolding magnitude
returns-then-is_negative c = yes _ _ _ _ (told_true c.is_negative.ensures c.if-is_negative.true) (omega arith)

pub returns : goal.returns
unfolding magnitude
returns c = search cases
