-- `lucid_master::read` meets its contract. Assumes nothing.
use Rattle.std.proofs.Common.{refl}
use Rattle.wire.proofs.Cases.{yes, no, told_true, told_false}
use Rattle.asking.specs.Hearing.{unless_outside}
use Rattle.lucid_master.specs.Heard.{heard}
use Rattle.lucid_master.proofs.Requests.{headed}
use Rattle.lucid_master.proofs.read.Goals as goal

pub returns-then-not-is_askable : goal.returns-then-not-is_askable
unfolding unless_outside
returns-then-not-is_askable c = no _ _ _ _ (told_false c.is_askable.ensures c.if-not-is_askable.true) refl

pub hear-requires : goal.hear-requires
hear-requires c = headed c.args.request c.args.values.now (told_true c.is_askable.ensures c.if-not-is_askable.false)

pub returns : goal.returns
unfolding unless_outside heard
returns c = yes _ _ _ _ (told_true c.is_askable.ensures c.if-not-is_askable.false) c.hear.ensures
