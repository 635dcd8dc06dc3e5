-- `lucid_master::hear::hear_done` meets its contract. Assumes nothing.
use Rattle.std.proofs.Common.{refl}
use Rattle.wire.proofs.Cases.{yes, no, told_true, told_false}
use Rattle.lucid_master.specs.Heard.{heard_done}
use Rattle.lucid_master.proofs.hear.hear_done.Goals as goal

pub returns-then-not-is_shaped : goal.returns-then-not-is_shaped
unfolding heard_done
returns-then-not-is_shaped c = no _ _ _ _ (told_false c.is_shaped.ensures c.if-not-is_shaped.true) refl

pub returns : goal.returns
unfolding heard_done
returns c = yes _ _ _ _ (told_true c.is_shaped.ensures c.if-not-is_shaped.false) refl
