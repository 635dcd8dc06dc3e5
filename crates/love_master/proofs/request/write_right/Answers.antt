-- `love_master::request::write_right` meets its contract. Assumes nothing.
use Rattle.std.proofs.Common.{rules, le-ltb, lt-ltb}
use Rattle.love_master.specs.Request.{task_right}
use Rattle.love_master.proofs.request.write_right.Goals as goal

pub returns-then-place : goal.returns-then-place
unfolding task_right
returns-then-place c = rw (le-ltb c.args.place 4 (search rules))

pub returns : goal.returns
unfolding task_right
returns c = rw (lt-ltb c.args.place 4 (search rules)) c.in_range.ensures
