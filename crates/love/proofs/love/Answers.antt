-- `love::love` meets its contract: 12, then 11, then the dialect. Assumes nothing.
use Rattle.std.proofs.Common.{◌≡◌, refl, sym, subst, true, ◌≤◌, arith, length}
use Rattle.card.specs.Layout.{card_of}
use Rattle.card.specs.Fitness.{fit}
use Rattle.card.specs.Reply.{room_least}
use Rattle.card.proofs.Facts.{fit_facts}
use Rattle.card.proofs.Replies.{early_none, shell_stopped, shell_passed, gave_words}
use Rattle.love.specs.Stages.{Sound}
use Rattle.love.specs.Answer.{love_reply}
use Rattle.love.proofs.Frames.{asked_sound}
use Rattle.love.proofs.love.Goals as goal
use Rattle.love.proofs.love.Goals.{Else-number-ne-ANSWERED}

-- past the shell the card is fit and the buffer long enough
module _ (c : Else-number-ne-ANSWERED) where
  passed : (fit (card_of c.args.words.now c.args.memory.now c.args.ports.now) ≡ true) × (room_least ≤ length c.args.out.now)
  passed = early_none _ _ _ c.stop_early-number.ensures c.if-number-ne-ANSWERED.false

pub returns-then-number-ne-ANSWERED : goal.returns-then-number-ne-ANSWERED
unfolding love_reply
returns-then-number-ne-ANSWERED c = shell_stopped _ _ _ _ c.stop_early-number.ensures c.if-number-ne-ANSWERED.true

pub bounds-words-2 : goal.bounds-words-2
bounds-words-2 c = omega (arith, (fit_facts _ (passed ((goal.at.bounds-words-2 c).Else-number-ne-ANSWERED)).0).words_length)

pub invariant_of-address : goal.invariant_of-address
invariant_of-address c = record { right = (fit_facts _ (passed ((goal.at.invariant_of-address c).Else-number-ne-ANSWERED)).0).love_address }

pub obey-requires : goal.obey-requires
obey-requires c =
    let p = passed ((goal.at.obey-requires c).Else-number-ne-ANSWERED) in
    let f = fit_facts _ p.0 in
    ((subst Sound (sym c.order_of-order.ensures) (asked_sound _ _), (f.words_length, refl)), (f.memory_length, p.1))

pub returns : goal.returns
unfolding love_reply
returns c =
    let p = passed ((goal.at.returns c).Else-number-ne-ANSWERED) in
    let a = c.args in
    rw (← c.order_of-order.ensures)
    (shell_passed _ _ _ _ p.0 p.1 (gave_words (card_of a.words.now a.memory.now a.ports.now) _ _ c.obey.ensures))
