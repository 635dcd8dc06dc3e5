-- `master::frame::interrogate` meets its contract.
use Rattle.std.proofs.Common.{ℕ, ◌+◌, [], sym, ap, arith}
use Rattle.datalink.specs.Form.{framed, interrogate_bits}
use Rattle.card.proofs.Replies.{wrote_as}
use Rattle.master.proofs.Requests.{named_sent, sent_few}
use Rattle.master.specs.Frames.{body, interrogate_frame}
use Rattle.master.proofs.frame.interrogate.Goals as goal

pub write-requires : goal.write-requires
write-requires c =
    let r = c.args.request in
    ((sent_few r, r.accepted.address), (omega arith, c.requires))

pub returns : goal.returns
unfolding interrogate_frame
returns c =
    let r = c.args.request in
    wrote_as _ _ (ap (λ (n : ℕ). framed (interrogate_bits + r.ia) (body n r.address [])) (sym (named_sent r.ask))) c.write.ensures
