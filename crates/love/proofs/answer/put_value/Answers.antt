-- `love::answer::put_value` meets its contract. Assumes nothing.
use Rattle.figures.specs.Signed.{magnitude}
use Rattle.figures.specs.Figure.{pair_of}
use Rattle.figures.specs.Decimal.{digits}
use Rattle.card.proofs.Replies.{wrote_put}
use Rattle.love.specs.Answer.{unit_of, sign_of, value_data, figure_count}
use Rattle.love.proofs.Writes.{wrote_normal}
use Rattle.love.proofs.answer.put_value.Goals as goal

pub returns : goal.returns
unfolding value_data unit_of pair_of digits
returns c =
    let a = c.args in
    wrote_normal a.address.value a.out.now (value_data a.word)
    (rw (c.put_digits.ensures, c.magnitude.ensures, c.put_pair.ensures, c.sign_of.ensures)
    (wrote_put _ _ (wrote_put _ _ c.put_unit.ensures (pair_of (sign_of a.word))) (digits figure_count (magnitude a.word))))
    c.put_end.ensures
