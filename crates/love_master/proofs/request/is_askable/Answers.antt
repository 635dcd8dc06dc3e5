-- `love_master::request::is_askable` meets its contract. Assumes nothing.
use Rattle.wire.proofs.Cases.{told_false, told_true}
use Rattle.love_master.specs.Request.{askable}
use Rattle.love_master.proofs.request.is_askable.Goals as goal

pub returns-then-not-love_right : goal.returns-then-not-love_right
unfolding askable
returns-then-not-love_right c = rw (told_false c.love_right.ensures c.if-not-love_right.true)

pub returns : goal.returns
unfolding askable
returns c = rw (told_true c.love_right.ensures c.if-not-love_right.false) c.task_right.ensures
