-- `datalink::answer::acknowledge` meets its contract. Assumes nothing.
use Rattle.datalink.proofs.Frames.{Named, pending_named}
use Rattle.datalink.specs.Answer.{acknowledged, applied, applied_to}
use Rattle.card.proofs.Replies.{did_silent, did_as, same_card}
use Rattle.card.specs.Entries.{dropped}
use Rattle.card.specs.Change.{two_bytes}
use Rattle.card.specs.Layout.{kind_at, num_at, low_address_at, high_address_at, data_at}
use Rattle.card.specs.Numbers.{nothing_pending}
use Rattle.wire.proofs.Buffers.{part_rest}
use Rattle.wire.proofs.Cases.{yes, no}
use Rattle.std.proofs.Common.{get_or, refl, ◌∙◌, arith, length-drop, eq-eqb, ne_eqb}
use Rattle.datalink.proofs.answer.acknowledge.Goals as goal
use Rattle.datalink.proofs.answer.acknowledge.Goals.{Else-kind-eq-NO_CHANGE}

-- what the pending change names, once it is known that there is one
named-bytes : (c : Else-kind-eq-NO_CHANGE) → Named (get_or c.args.ports.now kind_at 0) (get_or c.args.ports.now num_at 0) (two_bytes (get_or c.args.ports.now low_address_at 0) (get_or c.args.ports.now high_address_at 0))
named-bytes c = pending_named _ c.requires.pending_fit c.if-kind-eq-NO_CHANGE.false

pub returns-then-kind-eq-NO_CHANGE : goal.returns-then-kind-eq-NO_CHANGE
unfolding acknowledged
returns-then-kind-eq-NO_CHANGE c = did_as _ _ (yes _ _ _ _ (eq-eqb _ _ c.if-kind-eq-NO_CHANGE.true) refl) (did_silent nothing_pending _)

pub overflow_sub-a : goal.overflow_sub-a
overflow_sub-a c = omega (arith, (named-bytes ((goal.at.overflow_sub-a c).Else-kind-eq-NO_CHANGE)).start, c.two_bytes-at.ensures)

pub apply-requires : goal.apply-requires
apply-requires c =
    let s = c.args in
    let w = named-bytes ((goal.at.apply-requires c).Else-kind-eq-NO_CHANGE) in
    let n = c.bytes_named-count.ensures in
    let l = length-drop data_at s.ports.now in
    rw (part_rest s.ports.now data_at) (omega (arith, c.two_bytes-at.ensures, w.start, w.end), (omega (arith, w.most), λ k. omega (arith, w.pairs k)))

pub returns : goal.returns
unfolding acknowledged applied applied_to dropped
returns c =
    let s = c.args in
    did_as _ _ (no _ _ _ _ (ne_eqb _ _ c.if-kind-eq-NO_CHANGE.false) refl)
    (record { quiet = refl; numbered = refl; left = same_card refl (c.apply.ensures ∙ rw (part_rest s.ports.now data_at, c.two_bytes-at.ensures, c.bytes_named-count.ensures)) refl })
