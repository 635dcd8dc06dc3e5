-- `master::answer::is_data` meets its contract, kind by kind.
use Rattle.std.proofs.Common.{◌∙◌}
use Rattle.master.proofs.Frames.{pairs_length}
use Rattle.master.proofs.Requests.{paired_bits}
use Rattle.master.proofs.answer.is_data.Goals as goal

pub is_same-requires : goal.is_same-requires
is_same-requires c = rw c.in-Bytes.is at c.requires

pub is_by_turns-requires : goal.is_by_turns-requires
is_by_turns-requires c =
    let request = c.args.request in
    let a = request.ask in
    let told = c.in-Bits.is in
    let e = paired_bits a.kind a.sent.now a.states.now told request.accepted.pairs in
    (e, (rw told at c.requires) ∙ pairs_length a.sent.now a.states.now e)

pub returns-in-Bytes : goal.returns-in-Bytes
returns-in-Bytes c = rw c.in-Bytes.is c.is_same.ensures

pub returns-in-Bits : goal.returns-in-Bits
returns-in-Bits c = rw c.in-Bits.is c.is_by_turns.ensures
