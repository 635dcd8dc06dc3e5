-- `love::answer::put_error` meets its contract. Assumes nothing.
use Rattle.std.proofs.Common.{rules}
use Rattle.figures.specs.Figure.{pair_of}
use Rattle.card.proofs.Replies.{wrote_set, wrote_put}
use Rattle.love.specs.Form.{ack}
use Rattle.love.specs.Answer.{unit_of, error_mark, error_reply}
use Rattle.love.proofs.answer.put_error.Goals as goal

pub returns : goal.returns
unfolding error_reply unit_of pair_of
returns c =
    let a = c.args in
    let out = a.out.now in
    rw c.put_pair.ensures
    (wrote_set _ out (wrote_put _ out (wrote_set _ out c.put_unit.ensures error_mark (search rules)) (pair_of a.code)) ack (search rules))
