-- `lecom_master::frames::put_frame` meets its contract, piece by piece. Assumes nothing.
use Rattle.std.proofs.Common.{arith}
use Rattle.card.proofs.Replies.{wrote_put}
use Rattle.lecom_master.specs.Request.{task_bytes, made}
use Rattle.lecom_master.proofs.Requests.{askable_parts, address_most_law}
use Rattle.lecom_master.proofs.frames.put_frame.Goals as goal

pub put_start-requires : goal.put_start-requires
put_start-requires c = (address_most_law _ (askable_parts _ c.requires.0).0, omega (arith, c.requires.1))

pub put_task-requires : goal.put_task-requires
put_task-requires c = ((askable_parts _ c.requires.0).1, omega (arith, c.requires.1))

pub returns : goal.returns
unfolding made
returns c =
    let front = c.put_start in
    rw (c.put_task.ensures.0, c.put_task.ensures.1) (wrote_put _ _ front.ensures (task_bytes _))
