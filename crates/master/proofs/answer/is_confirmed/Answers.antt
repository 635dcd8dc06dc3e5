-- `master::answer::is_confirmed` meets its contract: a response, and in it everything as asked.
use Rattle.std.proofs.Common.{length, arith}
use Rattle.wire.proofs.Cases.{told_true, told_false}
use Rattle.master.proofs.Frames.{responds_long}
use Rattle.master.proofs.Requests.{named_sent, sent_few}
use Rattle.master.specs.Frames.{is_response, confirms}
use Rattle.master.proofs.answer.is_confirmed.Goals as goal

pub is_response-requires : goal.is_response-requires
is_response-requires c =
    let r = c.args.request in
    (r.accepted.ia, (sent_few r, r.accepted.address))

pub returns-then-not-is_response : goal.returns-then-not-is_response
unfolding confirms is_response
returns-then-not-is_response c = rw (named_sent c.args.request.ask, told_false c.is_response.ensures c.if-not-is_response.true)

pub slice_bounds-all_asked-end : goal.slice_bounds-all_asked-end
slice_bounds-all_asked-end c =
    let r = c.args.request in
    omega (arith, responds_long r.ia (length r.ask.sent.now) r.address c.args.answer.now (told_true c.is_response.ensures c.if-not-is_response.false))

pub returns : goal.returns
unfolding confirms is_response
returns c = rw (named_sent c.args.request.ask, told_true c.is_response.ensures c.if-not-is_response.false) c.all_asked.ensures
