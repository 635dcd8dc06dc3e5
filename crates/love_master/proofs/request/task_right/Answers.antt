-- `love_master::request::task_right` meets its contract. Assumes nothing.
use Rattle.love_master.specs.Request.{task_right}
use Rattle.love_master.proofs.request.task_right.Goals as goal

pub returns-in-Status : goal.returns-in-Status
unfolding task_right
returns-in-Status c = rw c.in-Status.is

pub returns-in-Read : goal.returns-in-Read
unfolding task_right
returns-in-Read c = rw c.in-Read.is

pub returns-in-Write : goal.returns-in-Write
returns-in-Write c = rw c.in-Write.is c.write_right.ensures
