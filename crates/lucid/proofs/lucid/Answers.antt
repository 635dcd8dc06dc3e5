-- `lucid::lucid` meets its contract: 12, then 11, then the dialect. Assumes nothing.
use Rattle.std.proofs.Common.{sym, subst}
use Rattle.card.specs.Layout.{card_of}
use Rattle.card.proofs.Facts.{fit_facts}
use Rattle.card.proofs.Replies.{early_none, shell_stopped, shell_passed, gave_words, gave_leaving}
use Rattle.lucid.specs.Stages.{Sound}
use Rattle.lucid.specs.Answer.{obeyed, lucid_reply}
use Rattle.lucid.proofs.Frames.{asked_sound}
use Rattle.lucid.proofs.lucid.Goals as goal

pub returns-then-number-ne-ANSWERED : goal.returns-then-number-ne-ANSWERED
unfolding lucid_reply
returns-then-number-ne-ANSWERED c = shell_stopped _ _ _ _ c.stop_early-number.ensures c.if-number-ne-ANSWERED.true

pub obey-requires : goal.obey-requires
obey-requires c = let p = early_none _ _ _ c.stop_early-number.ensures c.if-number-ne-ANSWERED.false in
    let t = fit_facts _ p.0 in
    let f = c.args.f.now in
    ((t.words_length, t.memory_length), (subst (Sound f) (sym c.in-Ok.ensures) (asked_sound f), p.1))

pub turn_down-requires : goal.turn_down-requires
turn_down-requires c = (early_none _ _ _ c.stop_early-number.ensures c.if-number-ne-ANSWERED.false).1

pub returns-in-Ok : goal.returns-in-Ok
unfolding lucid_reply
returns-in-Ok c = let p = early_none _ _ _ c.stop_early-number.ensures c.if-number-ne-ANSWERED.false in
    let a = c.args in
    rw (← c.in-Ok.ensures)
    (shell_passed _ _ _ _ p.0 p.1 (gave_words (card_of a.words.now a.memory.now a.ports.now) _ _ c.obey.ensures))

pub returns-in-Err : goal.returns-in-Err
unfolding lucid_reply obeyed
returns-in-Err c = let p = early_none _ _ _ c.stop_early-number.ensures c.if-number-ne-ANSWERED.false in
    let a = c.args in
    rw (← c.in-Err.ensures)
    (shell_passed _ _ _ _ p.0 p.1 (gave_words (card_of a.words.now a.memory.now a.ports.now) _ _ (gave_leaving _ _ _ c.turn_down.ensures)))
