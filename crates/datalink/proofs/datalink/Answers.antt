-- `datalink::datalink` meets its contract: 12, then 11, then the dialect. Assumes nothing.
use Rattle.std.proofs.Common.{◌≡◌, ◌≤◌, true, length, arith}
use Rattle.card.specs.Layout.{card_of}
use Rattle.card.specs.Fitness.{fit}
use Rattle.card.specs.Reply.{room_least}
use Rattle.card.proofs.Facts.{fit_facts}
use Rattle.card.proofs.Replies.{early_none, shell_stopped, shell_passed}
use Rattle.datalink.specs.Answer.{ia_of, datalink_reply}
use Rattle.datalink.proofs.datalink.Goals as goal
use Rattle.datalink.proofs.datalink.Goals.{Else-number-ne-ANSWERED}

pub returns-then-number-ne-ANSWERED : goal.returns-then-number-ne-ANSWERED
unfolding datalink_reply
returns-then-number-ne-ANSWERED c = shell_stopped _ _ _ _ c.stop_early-number.ensures c.if-number-ne-ANSWERED.true

-- the card is fit and the answer buffer is long enough
passed : (c : Else-number-ne-ANSWERED) → (fit (card_of c.args.words.now c.args.memory.now c.args.ports.now) ≡ true) × (room_least ≤ length c.args.out.now)
passed c = early_none _ _ _ c.stop_early-number.ensures c.if-number-ne-ANSWERED.false

pub bounds-words-0 : goal.bounds-words-0
bounds-words-0 c = omega (arith, (fit_facts _ (passed ((goal.at.bounds-words-0 c).Else-number-ne-ANSWERED)).0).words_length)

pub obey-requires : goal.obey-requires
unfolding ia_of
obey-requires c =
    let p = passed ((goal.at.obey-requires c).Else-number-ne-ANSWERED) in
    ((fit_facts _ p.0, p.1), c.order_of-order.ensures)

pub returns : goal.returns
unfolding datalink_reply ia_of
returns c =
    let p = passed ((goal.at.returns c).Else-number-ne-ANSWERED) in
    shell_passed _ _ _ _ p.0 p.1 (rw (← c.order_of-order.ensures) c.obey.ensures)
