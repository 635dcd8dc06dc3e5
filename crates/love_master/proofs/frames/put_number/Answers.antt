-- `love_master::frames::put_number` meets its contract. Assumes nothing.
use Rattle.std.proofs.Common.{arith}
use Rattle.wire.proofs.Buffers.{put_put}
use Rattle.figures.specs.Decimal.{digits}
use Rattle.figures.specs.Figure.{pair_of}
use Rattle.figures.specs.Signed.{magnitude}
use Rattle.love.specs.Answer.{figure_count}
use Rattle.love_master.specs.Request.{sign_of}
use Rattle.love_master.proofs.frames.put_number.Goals as goal

pub returns : goal.returns
unfolding digits
returns c =
    let a = c.args in
    rw (c.put_pair.ensures, c.by_sign-sign.ensures, c.put_digits.ensures, c.magnitude.ensures)
    (put_put a.out.now a.at (digits figure_count (magnitude a.value)) (pair_of (sign_of a.value)) (omega arith))
