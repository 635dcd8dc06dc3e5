-- `master::answer::num_of` meets its contract, kind by kind.
use Rattle.std.proofs.Common.{sym}
use Rattle.master.proofs.Frames.{pairs_length}
use Rattle.master.proofs.Requests.{paired_bits}
use Rattle.master.proofs.answer.num_of.Goals as goal

pub returns-in-Bytes : goal.returns-in-Bytes
returns-in-Bytes c = rw c.in-Bytes.is

pub returns-in-Bits : goal.returns-in-Bits
returns-in-Bits c =
    let request = c.args.request in
    let a = request.ask in
    let told = c.in-Bits.is in
    rw told (sym (pairs_length a.sent.now a.states.now (paired_bits a.kind a.sent.now a.states.now told request.accepted.pairs)))
