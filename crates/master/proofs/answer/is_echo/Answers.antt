-- `master::answer::is_echo` meets its contract: a response, and in it the data of the change.
use Rattle.std.proofs.Common.{◌+◌, arith}
use Rattle.wire.proofs.Cases.{told_true, told_false}
use Rattle.wire.proofs.Buffers.{length_part}
use Rattle.datalink.specs.Form.{frame_data_at}
use Rattle.master.proofs.Frames.{responds_long, echo_shows}
use Rattle.master.proofs.Requests.{data_few}
use Rattle.master.specs.Askable.{asked_by}
use Rattle.master.proofs.answer.is_echo.Goals as goal

pub is_response-requires : goal.is_response-requires
is_response-requires c =
    let r = c.args.request in
    (r.accepted.ia, (omega (arith, c.num_of-num.ensures, data_few r), r.accepted.address))

pub returns-then-not-is_response : goal.returns-then-not-is_response
returns-then-not-is_response c =
    rw (← echo_shows (asked_by c.args.request) c.args.answer.now c.num_of-num.result c.num_of-num.ensures, told_false c.is_response.ensures c.if-not-is_response.true)

pub overflow_add-e : goal.overflow_add-e
overflow_add-e c = omega (arith, c.num_of-num.ensures, data_few c.args.request)

pub slice_bounds-is_data-end : goal.slice_bounds-is_data-end
slice_bounds-is_data-end c =
    let r = c.args.request in
    omega (arith, responds_long r.ia c.num_of-num.result r.address c.args.answer.now (told_true c.is_response.ensures c.if-not-is_response.false))

pub is_data-requires : goal.is_data-requires
is_data-requires c =
    let r = c.args.request in
    let num = c.num_of-num in
    let long = responds_long r.ia num.result r.address c.args.answer.now (told_true c.is_response.ensures c.if-not-is_response.false) in
    omega (arith, num.ensures, length_part c.args.answer.now frame_data_at (frame_data_at + num.result) (omega arith) (omega arith))

pub returns : goal.returns
returns c =
    rw (← echo_shows (asked_by c.args.request) c.args.answer.now c.num_of-num.result c.num_of-num.ensures, told_true c.is_response.ensures c.if-not-is_response.false) c.is_data.ensures
