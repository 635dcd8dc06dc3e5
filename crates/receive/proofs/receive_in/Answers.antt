-- `receive::receive_in` meets its contract.
use Rattle.std.proofs.Common.{refl, sym, ap, ◌∙◌, subst, ℕ, arith, le-leb}
use borrow.Author.Tests.{lt-leb}
use Rattle.wire.proofs.Cases.{yes, no, told_true, told_false}
use Rattle.card.specs.Numbers.{card_unfit, frame_buffer_short}
use Rattle.card.specs.Row.{count_at}
use Rattle.receive.specs.Parts.{longest_of}
use Rattle.receive.specs.Receive.{receive_reply}
use Rattle.receive.specs.Stages.{Held}
use Rattle.receive.proofs.Parts.{part_inside, longest_some, ready_facts}
use Rattle.receive.proofs.Replies.{took_refused, took_collected}
use Rattle.receive.proofs.receive_in.Goals as goal

pub returns-then-not-is_ready : goal.returns-then-not-is_ready
unfolding receive_reply
returns-then-not-is_ready g c = took_refused _ card_unfit _ _ _ (no _ _ _ _ (told_false c.is_ready.ensures c.if-not-is_ready.true) refl) c.untaken.ensures

pub returns-then-frame-LONGEST : goal.returns-then-frame-LONGEST
unfolding receive_reply
returns-then-frame-LONGEST g c = took_refused _ frame_buffer_short _ _ _
    (yes _ _ _ _ (told_true c.is_ready.ensures c.if-not-is_ready.false) (no _ _ _ _ (lt-leb (longest_of g.D.PartFrame.dialect) _ (rw (← g.met.D.PartFrame.rules.most, ← c.LONGEST.ensures) c.if-frame-LONGEST.true)) refl))
    c.untaken-then-frame-LONGEST.ensures

pub count-n-requires : goal.count-n-requires
count-n-requires g c = let p = part_inside g.D.PartFrame.dialect in
    let f = ready_facts _ (told_true c.is_ready.ensures c.if-not-is_ready.false) in
    omega (arith, (c.AT-at.ensures ∙ g.met.D.PartFrame.rules.stands), f.0.ports_length)

pub gather-gathered-requires : goal.gather-gathered-requires
gather-gathered-requires g c = let d = g.D.PartFrame.dialect in
    let row = c.args.ports.now in
    let f = ready_facts _ (told_true c.is_ready.ensures c.if-not-is_ready.false) in
    let n = c.count-n.ensures ∙ ap (λ a. count_at a row) (c.AT-at.ensures ∙ g.met.D.PartFrame.rules.stands) in
    ((subst (λ (i : ℕ). Held d i row) (sym n) (f.1 d), f.0.ports_length), rw (← g.met.D.PartFrame.rules.most, ← c.LONGEST.ensures) c.if-frame-LONGEST.false)

pub returns : goal.returns
unfolding receive_reply
returns g c = let d = g.D.PartFrame.dialect in
    let taken = c.gather-gathered in
    took_collected _ d _ c.args.bytes.now _ _ _ _ _ _ taken.result
    (yes _ _ _ _ (told_true c.is_ready.ensures c.if-not-is_ready.false) (yes _ _ _ _ (le-leb (longest_of d) _ (rw (← g.met.D.PartFrame.rules.most, ← c.LONGEST.ensures) c.if-frame-LONGEST.false)) refl))
    (c.AT-at.ensures ∙ g.met.D.PartFrame.rules.stands) c.count-n.ensures taken.ensures c.set_count.ensures c.done_with.ensures

pub set_count-requires : goal.set_count-requires
set_count-requires g c = let d = g.D.PartFrame.dialect in
    let p = part_inside d in
    let f = ready_facts _ (told_true c.is_ready.ensures c.if-not-is_ready.false) in
    (omega (arith, (c.AT-at.ensures ∙ g.met.D.PartFrame.rules.stands), c.gather-gathered.auto.ports, f.0.ports_length), omega (arith, c.gather-gathered.ensures.few, (longest_some d).1))
