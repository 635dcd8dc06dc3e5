-- `love::answer::put_end` meets its contract. Assumes nothing.
use Rattle.std.proofs.Common.{refl, rules}
use Rattle.wire.specs.Sum.{sum_of}
use Rattle.wire.specs.Buffer.{part}
use Rattle.wire.proofs.Buffers.{put_set}
use Rattle.figures.specs.Figure.{pair_of}
use Rattle.love.specs.Form.{ack, filter_at}
use Rattle.love.proofs.answer.put_end.Goals as goal

pub returns : goal.returns
unfolding pair_of
returns c =
    let a = c.args in
    (refl, rw (c.put_pair.ensures, c.sum-sum.ensures) (put_set a.out.now a.end (pair_of (sum_of (part a.out.now filter_at a.end))) ack (search rules)))
