-- `lucid_master::hear::hear_parameter` meets its contract, test by test. Assumes nothing.
use Rattle.std.proofs.Common.{refl, arith}
use Rattle.wire.proofs.Cases.{yes, no, told_true, told_false}
use Rattle.lucid.specs.Form.{parameter_size}
use Rattle.lucid_master.specs.Heard.{heard_parameter}
use Rattle.lucid_master.proofs.Values.{shaped_length}
use Rattle.lucid_master.proofs.hear.hear_parameter.Goals as goal

pub returns-then-not-is_shaped : goal.returns-then-not-is_shaped
unfolding heard_parameter
returns-then-not-is_shaped c = no _ _ _ _ (rw (told_false c.is_shaped.ensures c.if-not-is_shaped.true)) refl

pub quad-value-requires : goal.quad-value-requires
quad-value-requires c = let right = told_true c.is_shaped.ensures c.if-not-is_shaped.false in omega (arith, shaped_length c.args.reply.now parameter_size right)

pub returns-then-not-in_range : goal.returns-then-not-in_range
unfolding heard_parameter
returns-then-not-in_range c = let right = told_true c.is_shaped.ensures c.if-not-is_shaped.false in
    no _ _ _ _ (rw (right, ← c.quad-value.ensures, told_false c.in_range.ensures c.if-not-in_range.true)) refl

pub returns : goal.returns
unfolding heard_parameter
returns c = let right = told_true c.is_shaped.ensures c.if-not-is_shaped.false in
    rw (← c.quad-value.ensures) (yes _ _ _ _ (rw (right, told_true c.in_range.ensures c.if-not-in_range.false)) refl)
