-- `lecom::lecom` meets its contract: 12, then 11, then the dialect. Assumes nothing.
use Rattle.std.proofs.Common.{sym, ◌∙◌, subst, arith}
use Rattle.wire.proofs.Cases.{told_true, told_false}
use Rattle.wire.proofs.Lengths.{between_facts}
use Rattle.card.specs.Layout.{card_of}
use Rattle.card.proofs.Facts.{fit_facts}
use Rattle.card.proofs.Replies.{early_none, shell_stopped, shell_passed, gave_words, gave_leaving}
use Rattle.lecom.specs.Form.{shortest, longest}
use Rattle.lecom.specs.Stages.{Sound}
use Rattle.lecom.specs.Answer.{address_of, obeyed, lecom_reply}
use Rattle.lecom.proofs.Frames.{asked_sound, other_length}
use Rattle.lecom.proofs.Writes.{gave_quietly}
use Rattle.lecom.proofs.lecom.Goals as goal

pub returns-then-number-ne-ANSWERED : goal.returns-then-number-ne-ANSWERED
unfolding lecom_reply
returns-then-number-ne-ANSWERED c = shell_stopped _ _ _ _ c.stop_early-number.ensures c.if-number-ne-ANSWERED.true

-- a frame of another length is refused with no byte sent
pub returns-then-not-fits : goal.returns-then-not-fits
unfolding lecom_reply obeyed
returns-then-not-fits c =
    let p = early_none _ _ _ c.stop_early-number.ensures c.if-number-ne-ANSWERED.false in
    let a = c.args in
    shell_passed _ _ _ _ p.0 p.1
    (gave_words (card_of a.words.now a.memory.now a.ports.now) _ _
    (rw (← (other_length (address_of a.words.now) a.f.now (told_false c.fits.ensures c.if-not-fits.true))) (gave_quietly _ _ _)))

pub new-frame-requires : goal.new-frame-requires
new-frame-requires c = (between_facts shortest longest _ (told_true c.fits.ensures c.if-not-fits.false)).0

pub bounds-words-1 : goal.bounds-words-1
bounds-words-1 c =
    let p = early_none _ _ _ c.stop_early-number.ensures c.if-number-ne-ANSWERED.false in
    omega (arith, (fit_facts _ p.0).words_length)

-- the order, or the refusal, is sound
pub obey-requires : goal.obey-requires
obey-requires c =
    let p = early_none _ _ _ c.stop_early-number.ensures c.if-number-ne-ANSWERED.false in
    let t = fit_facts _ p.0 in
    let s = subst (Sound c.new-frame.result.bytes.now) (sym c.order_of.ensures ∙ c.in-Ok.is) (asked_sound _ _) in
    (((t.words_length, t.memory_length), p.1), s)

pub decline-requires : goal.decline-requires
decline-requires c =
    let p = early_none _ _ _ c.stop_early-number.ensures c.if-number-ne-ANSWERED.false in
    let s = subst (Sound c.new-frame.result.bytes.now) (sym c.order_of.ensures ∙ c.in-Err.is) (asked_sound _ _) in
    (s, p.1)

pub returns-in-Ok : goal.returns-in-Ok
unfolding lecom_reply address_of
returns-in-Ok c =
    let p = early_none _ _ _ c.stop_early-number.ensures c.if-number-ne-ANSWERED.false in
    let a = c.args in
    shell_passed _ _ _ _ p.0 p.1
    (gave_words (card_of a.words.now a.memory.now a.ports.now) _ _ (rw (← c.new-frame.ensures, ← c.order_of.ensures, c.in-Ok.is) c.obey.ensures))

pub returns-in-Err : goal.returns-in-Err
unfolding lecom_reply address_of obeyed
returns-in-Err c =
    let p = early_none _ _ _ c.stop_early-number.ensures c.if-number-ne-ANSWERED.false in
    let a = c.args in
    shell_passed _ _ _ _ p.0 p.1
    (gave_words (card_of a.words.now a.memory.now a.ports.now) _ _ (rw (← c.new-frame.ensures, ← c.order_of.ensures, c.in-Err.is) (gave_leaving _ _ _ c.decline.ensures)))
