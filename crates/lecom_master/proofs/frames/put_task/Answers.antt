-- `lecom_master::frames::put_task` meets its contract, way by way. Assumes nothing.
use Rattle.std.proofs.Common.{ℕ, ◌+◌, List, set, refl, ap, ◌∙◌, arith, length-set}
use Rattle.wire.proofs.Buffers.{put_set}
use Rattle.figures.specs.Figure.{pair_of}
use Rattle.figures.proofs.Texts.{put_before}
use Rattle.lecom.specs.Form.{stx, enq, start_at, standard_hex}
use Rattle.lecom_master.specs.Request.{task_bytes}
use Rattle.lecom_master.proofs.Requests.{read_byte, write_byte}
use Rattle.lecom_master.proofs.frames.put_task.Goals as goal

pub overflow_cast-code : goal.overflow_cast-code
overflow_cast-code c = omega (arith, read_byte _ (rw c.in-Read.is at c.requires.0))

pub put_checked-requires : goal.put_checked-requires
put_checked-requires c = (write_byte _ _ (rw c.in-Write.is at c.requires.0), simp length-set (omega (arith, c.requires.1)))

pub returns-in-Read : goal.returns-in-Read
unfolding task_bytes pair_of
returns-in-Read c =
    rw c.in-Read.is
    (refl, ap (λ (l : List ℕ). set l (start_at + standard_hex) enq) c.put_pair.ensures ∙ put_set c.args.out.now start_at (pair_of c.in-Read.code) enq (omega (arith, c.requires.1)))

pub returns-in-Write : goal.returns-in-Write
unfolding task_bytes
returns-in-Write c =
    rw c.in-Write.is (omega (arith, c.put_checked.ensures.0), c.put_checked.ensures.1 ∙ put_before c.args.out.now start_at stx _ (omega (arith, c.requires.1)))
