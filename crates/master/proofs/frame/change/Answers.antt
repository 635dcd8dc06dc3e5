-- `master::frame::change` meets its contract, kind by kind.
use Rattle.std.proofs.Common.{◌*◌, length, take, ◌≡◌, sym, ap, ◌∙◌}
use Rattle.card.proofs.Replies.{wrote_as}
use Rattle.wire.proofs.Buffers.{overlay_front}
use Rattle.master.proofs.Frames.{pairs_length, change_bytes, change_bits_law}
use Rattle.master.proofs.Requests.{sent_few, bits_few, paired_bits}
use Rattle.master.specs.Frames.{pairs}
use Rattle.master.proofs.frame.change.Goals as goal

pub write-requires : goal.write-requires
write-requires c =
    let r = c.args.request in
    let few = sent_few r in
    ((few, r.accepted.address), (few, c.requires))

pub interleave-requires : goal.interleave-requires
interleave-requires c =
    let r = c.args.request in
    let told = c.in-Bits.is in
    (paired_bits r.ask.kind r.ask.sent.now r.ask.states.now told r.accepted.pairs, bits_few r told)

pub returns-in-Bytes : goal.returns-in-Bytes
returns-in-Bytes c = wrote_as _ _ (change_bytes c.args.request c.command_of.result c.command_of.ensures c.in-Bytes.is) c.write.ensures

pub returns-in-Bits : goal.returns-in-Bits
returns-in-Bits c =
    let r = c.args.request in
    let sent = r.ask.sent.now in
    let states = r.ask.states.now in
    let l = paired_bits r.ask.kind sent states c.in-Bits.is r.accepted.pairs in
    let n = 2 * length sent in
    let d = c.interleave.new.out in
    let front = overlay_front (pairs sent states) _ n (sym (pairs_length sent states l)) in
    let p : take n d ≡ pairs sent states = ap (take n) c.interleave.ensures ∙ front in
    wrote_as _ _ (change_bits_law r c.command_of.result c.command_of.ensures (take n d) c.in-Bits.is l p) c.write-in-Bits.ensures
