-- `love::answer::put_written` meets its contract. Assumes nothing.
use Rattle.figures.specs.Figure.{pair_of}
use Rattle.card.proofs.Replies.{wrote_put}
use Rattle.love.specs.Answer.{unit_of, written_data}
use Rattle.love.proofs.Writes.{wrote_normal}
use Rattle.love.proofs.answer.put_written.Goals as goal

pub returns : goal.returns
unfolding written_data unit_of pair_of
returns c =
    let a = c.args in
    wrote_normal a.address.value a.out.now written_data (rw c.put_pair.ensures (wrote_put _ _ c.put_unit.ensures written_data)) c.put_end.ensures
