-- `master::answer::is_response` meets its contract: the length, the head, then the LRC.
use Rattle.std.proofs.Common.{sym, arith, length-take-le}
use Rattle.wire.proofs.Cases.{told_true, told_false}
use Rattle.datalink.specs.Form.{frame_data_at}
use Rattle.master.proofs.Frames.{other_length, other_head, lrc_tells}
use Rattle.master.proofs.answer.is_response.Goals as goal

pub returns-then-answer-last : goal.returns-then-answer-last
returns-then-answer-last c =
    let a = c.args in
    other_length a.ia a.num a.address a.answer.now c.if-answer-last.true

pub slice_bounds-is_same-end : goal.slice_bounds-is_same-end
slice_bounds-is_same-end c = sym (length-take-le frame_data_at c.args.answer.now (omega arith))

pub is_same-requires : goal.is_same-requires
is_same-requires c = length-take-le frame_data_at c.args.answer.now (omega arith)

pub returns-then-not-is_same : goal.returns-then-not-is_same
returns-then-not-is_same c =
    let a = c.args in
    let other = told_false c.is_same.ensures c.if-not-is_same.true in
    other_head a.ia a.num a.address a.answer.now c.if-answer-last.false (rw c.place_in.ensures at other)

pub returns : goal.returns
returns c =
    let a = c.args in
    let head = told_true c.is_same.ensures c.if-not-is_same.false in
    lrc_tells a.ia a.num a.address a.answer.now c.if-answer-last.false c.sum.result (rw c.place_in.ensures at head) c.sum.ensures
