-- `love::answer::put_unit` meets its contract. Assumes nothing.
use Rattle.std.proofs.Common.{◌%◌, rules}
use Rattle.figures.specs.Figure.{pair_of}
use Rattle.card.specs.Fitness.{love_hundred}
use Rattle.card.proofs.Replies.{wrote_one, wrote_set, wrote_put}
use Rattle.love.specs.Form.{stx, filter_of}
use Rattle.love.specs.Answer.{unit_of}
use Rattle.love.proofs.answer.put_unit.Goals as goal

pub returns : goal.returns
unfolding unit_of pair_of
returns c =
    let a = c.args in
    let out = a.out.now in
    rw (c.put_pair.ensures, c.filter.ensures, c.low.ensures)
    (wrote_put _ out (wrote_set _ out (wrote_one stx out (search rules)) (filter_of a.address.value) (search rules)) (pair_of (a.address.value % love_hundred)))
