-- `receive::quiet_in` meets its contract.
use Rattle.std.proofs.Common.{refl, ap, ◌∙◌, arith}
use Rattle.wire.proofs.Cases.{yes, no, told_true, told_false}
use Rattle.card.specs.Row.{with_count}
use Rattle.card.proofs.Replies.{did_as, did_silent, did_done_reply, same_card}
use Rattle.receive.specs.Receive.{quiet_reply}
use Rattle.receive.proofs.Parts.{part_inside, ready_facts}
use Rattle.receive.proofs.quiet_in.Goals as goal

pub returns-then-not-is_ready : goal.returns-then-not-is_ready
unfolding quiet_reply
returns-then-not-is_ready g c = did_as _ _ (no _ _ _ _ (told_false c.is_ready.ensures c.if-not-is_ready.true) refl) (did_silent 12 _)

pub set_count-requires : goal.set_count-requires
set_count-requires g c = let p = part_inside g.D.PartFrame.dialect in
    let f = ready_facts _ (told_true c.is_ready.ensures c.if-not-is_ready.false) in
    (omega (arith, (c.AT.ensures ∙ g.met.D.PartFrame.rules.stands), f.0.ports_length), omega arith)

pub returns : goal.returns
unfolding quiet_reply
returns g c = let row = c.args.ports.now in
    did_as _ _ (yes _ _ _ _ (told_true c.is_ready.ensures c.if-not-is_ready.false) refl)
    (did_done_reply (same_card refl refl (c.set_count.ensures ∙ ap (λ a. with_count a 0 row) (c.AT.ensures ∙ g.met.D.PartFrame.rules.stands))))
