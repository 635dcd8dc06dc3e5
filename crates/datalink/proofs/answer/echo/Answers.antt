-- `datalink::answer::echo` meets its contract. Assumes nothing.
use Rattle.datalink.specs.Form.{frame_num_at, frame_data_at}
use Rattle.datalink.specs.Answer.{response, body_of}
use Rattle.card.proofs.Replies.{wrote_as}
use Rattle.wire.proofs.Buffers.{part_append}
use Rattle.std.proofs.Common.{◌+◌, ap, arith}
use Rattle.datalink.proofs.answer.echo.Goals as goal

pub returns : goal.returns
unfolding body_of
returns c =
    let a = c.args in
    (wrote_as _ _ (ap (response a.ia) (part_append a.f.now frame_num_at frame_data_at (frame_data_at + a.num) (omega arith) (omega arith))) c.respond-len.ensures, c.pend.ensures)
