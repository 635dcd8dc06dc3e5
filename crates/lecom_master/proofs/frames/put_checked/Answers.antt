-- `lecom_master::frames::put_checked` meets its contract: the code, and the data behind it. Assumes nothing.
use Rattle.std.proofs.Common.{◌+◌, arith}
use Rattle.wire.specs.Buffer.{part}
use Rattle.lecom.proofs.Writes.{closed_length}
use Rattle.lecom_master.proofs.Requests.{checked_length, put_checked}
use Rattle.lecom_master.proofs.frames.put_checked.Goals as goal

pub returns : goal.returns
returns c =
    let at = c.args.at in
    let data' = c.put_data in (
      omega (arith, data'.ensures.0, closed_length (part c.put_pair.new.out at (at + 2)) c.args.value, checked_length c.args.code c.args.value),
      put_checked c.args.out.now at c.args.code c.args.value (omega arith) c.put_pair.ensures data'.ensures.1,
    )
