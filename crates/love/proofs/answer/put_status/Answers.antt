-- `love::answer::put_status` meets its contract. Assumes nothing.
use Rattle.std.proofs.Common.{rules}
use Rattle.figures.specs.Figure.{zero_char, pair_of}
use Rattle.figures.specs.Decimal.{digits}
use Rattle.card.proofs.Replies.{wrote_set, wrote_put}
use Rattle.love.specs.Answer.{unit_of, status_data, figure_count}
use Rattle.love.proofs.Writes.{wrote_normal}
use Rattle.love.proofs.answer.put_status.Goals as goal

pub returns : goal.returns
unfolding status_data unit_of pair_of digits
returns c =
    let a = c.args in
    let out = a.out.now in
    wrote_normal a.address.value out (status_data a.first a.fourth a.number)
    (rw c.put_digits.ensures
    (wrote_put _ out
    (wrote_set _ out (wrote_set _ out (wrote_set _ out (wrote_set _ out c.put_unit.ensures a.first (search rules)) zero_char (search rules)) zero_char (search rules)) a.fourth (search rules))
    (digits figure_count a.number)))
    c.put_end.ensures
