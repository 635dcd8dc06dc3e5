-- `card::entries::restart_card` meets its contract. Assumes nothing.
use Rattle.card.specs.Fit.{Fit}
use Rattle.card.specs.Layout.{card_of}
use Rattle.card.proofs.Replies.{did_silent, did_as, same_card}
use Rattle.card.proofs.Facts.{fit_facts}
use Rattle.card.specs.Reply.{guarded}
use Rattle.card.specs.Entries.{restart, restarted, dropped, full_demands}
use Rattle.wire.proofs.Cases.{yes, no, told_true, told_false}
use Rattle.std.proofs.Common.{refl, ap, ◌∙◌, arith}
use Rattle.card.proofs.entries.restart_card.Goals as goal
use Rattle.card.proofs.entries.restart_card.Goals.{Else-not-is_fit}

facts : (c : Else-not-is_fit) → Fit (card_of c.args.words.now c.args.memory.now c.args.ports.now)
facts c = fit_facts _ (told_true c.is_fit.ensures c.if-not-is_fit.false)

pub returns-then-not-is_fit : goal.returns-then-not-is_fit
unfolding restart guarded
returns-then-not-is_fit c = did_as _ _ (no _ _ _ _ (told_false c.is_fit.ensures c.if-not-is_fit.true) refl) (did_silent 12 _)

pub restore-requires : goal.restore-requires
restore-requires c = (facts ((goal.at.restore-requires c).Else-not-is_fit)).words_length

pub fill_demands-requires : goal.fill_demands-requires
fill_demands-requires c = omega (arith, (facts ((goal.at.fill_demands-requires c).Else-not-is_fit)).words_length)

pub fault_probes-requires : goal.fault_probes-requires
fault_probes-requires c = (facts ((goal.at.fault_probes-requires c).Else-not-is_fit)).memory_length

pub drop_parts-requires : goal.drop_parts-requires
drop_parts-requires c = (facts ((goal.at.drop_parts-requires c).Else-not-is_fit)).ports_length

pub bounds-ports-0 : goal.bounds-ports-0
bounds-ports-0 c = omega (arith, (facts ((goal.at.bounds-ports-0 c).Else-not-is_fit)).ports_length)

pub returns : goal.returns
unfolding restart guarded restarted dropped
returns c = let moved = c.fill_demands.ensures ∙ ap full_demands c.restore.ensures in
    did_as _ _ (yes _ _ _ _ (told_true c.is_fit.ensures c.if-not-is_fit.false) refl)
    (record { quiet = refl; numbered = refl; left = same_card moved c.fault_probes.ensures (ap dropped c.drop_parts.ensures) })
