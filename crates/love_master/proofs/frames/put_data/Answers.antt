-- `love_master::frames::put_data` meets its contract. Assumes nothing.
use Rattle.std.proofs.Common.{◌++◌, refl, arith}
use Rattle.wire.proofs.Buffers.{put_put}
use Rattle.figures.specs.Decimal.{digits}
use Rattle.figures.specs.Figure.{pair_of}
use Rattle.figures.specs.Signed.{magnitude}
use Rattle.love.specs.Form.{data_at, read_command, write_command}
use Rattle.love.specs.Answer.{figure_count}
use Rattle.love_master.specs.Request.{half_of, sign_of, data_of}
use Rattle.love_master.proofs.frames.put_data.Goals as goal

pub returns-in-Status : goal.returns-in-Status
unfolding data_of pair_of
returns-in-Status c = rw c.in-Status.is (refl, c.put_pair.ensures)

pub returns-in-Read : goal.returns-in-Read
unfolding data_of pair_of
returns-in-Read c =
    let t = c.in-Read in
    rw t.is (
      refl,
      rw (c.put_pair-in-Read-2.ensures, c.half_of.ensures, c.put_pair-in-Read.ensures)
          (put_put c.args.out.now data_at (pair_of read_command) (pair_of (half_of t.place)) (omega arith)),
    )

pub returns-in-Write : goal.returns-in-Write
unfolding data_of pair_of digits
returns-in-Write c =
    let t = c.in-Write in
    let out = c.args.out.now in
    let command = pair_of write_command in
    let half = pair_of (half_of t.place) in
    let number = digits figure_count (magnitude t.value) ++ pair_of (sign_of t.value) in
    rw t.is (
      refl,
      rw (c.put_number.ensures, c.put_pair-in-Write-2.ensures, c.half_of-in-Write.ensures, c.put_pair-in-Write.ensures, put_put out data_at command half (omega arith))
          (put_put out data_at (command ++ half) number (omega arith)),
    )
