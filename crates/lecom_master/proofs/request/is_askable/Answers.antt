-- `lecom_master::request::is_askable` meets its contract, test by test. Assumes nothing.
use Rattle.wire.proofs.Cases.{told_true, told_false}
use Rattle.lecom_master.specs.Request.{askable}
use Rattle.lecom_master.proofs.request.is_askable.Goals as goal

pub returns-then-not-address_right : goal.returns-then-not-address_right
unfolding askable
returns-then-not-address_right c = rw (told_false c.address_right.ensures c.if-not-address_right.true)

pub returns : goal.returns
unfolding askable
returns c = rw (told_true c.address_right.ensures c.if-not-address_right.false) c.task_right.ensures
