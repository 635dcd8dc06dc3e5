-- `lecom::frame::put_data` meets its contract, piece by piece. Assumes nothing.
use Rattle.std.proofs.Common.{◌+◌, ◌≤◌, length, arith, length-set}
use Rattle.wire.specs.Buffer.{part}
use Rattle.lecom.proofs.Writes.{closed_length, text_most, put_closed}
use Rattle.lecom.proofs.frame.put_data.Goals as goal
use Rattle.lecom.proofs.frame.put_data.Goals.{After-put_text}

-- there is room for the text, ETX and the BCC
room : (c : After-put_text) → c.args.text + c.put_text.result + 2 ≤ length c.args.out.now
room c = omega (arith, text_most _ c.put_text.ensures.0)

pub overflow_add-end : goal.overflow_add-end
overflow_add-end c = omega (arith, room ((goal.at.overflow_add-end c).After-put_text))

pub bounds-out-end : goal.bounds-out-end
bounds-out-end c = omega (arith, room ((goal.at.bounds-out-end c).After-put_text))

pub overflow_add-last : goal.overflow_add-last
overflow_add-last c = omega (arith, room ((goal.at.overflow_add-last c).After-put_text))

pub slice_bounds-bcc-end : goal.slice_bounds-bcc-end
slice_bounds-bcc-end c = simp length-set (omega (arith, room ((goal.at.slice_bounds-bcc-end c).After-put_text)))

pub bounds-out-last : goal.bounds-out-last
bounds-out-last c = simp length-set (omega (arith, room ((goal.at.bounds-out-last c).After-put_text)))

pub returns : goal.returns
returns c =
    let text = c.put_text in (
      omega (arith, text.ensures.0, closed_length (part c.args.out.now c.args.at c.args.text) c.args.value),
      put_closed c.args.out.now c.args.at c.args.text c.args.value text.result c.bcc.result _ (omega arith) text.ensures.0 text.ensures.1
          (omega (arith, room ((goal.at.returns c).After-put_text))) c.bcc.ensures,
    )
