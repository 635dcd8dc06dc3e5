-- `image::read_image` meets its contract, test by test. Assumes nothing.
use Rattle.std.proofs.Common.{◌≡◌, true, sym, refl, ap, ◌∙◌}
use Rattle.wire.proofs.Cases.{told_true, told_false}
use Rattle.card.specs.Numbers.{card_unfit, image_length, image_padding}
use Rattle.card.specs.Layout.{card_of}
use Rattle.card.specs.Fitness.{fit}
use Rattle.card.proofs.Facts.{fit_facts}
use Rattle.card.proofs.Replies.{did_silent, did_as, same_card}
use Rattle.image.specs.Form.{saved_form}
use Rattle.image.specs.Saved.{replaced, restored}
use Rattle.image.specs.Ranges.{entries_right}
use Rattle.image.proofs.Runs.{form_length}
use Rattle.image.proofs.Outcomes.{read_unfit, read_length_law, read_padding, read_outside, read_done}
use Rattle.image.proofs.read_image.Goals as goal
use Rattle.image.proofs.read_image.Goals.{Else-not-is_fit}

pub returns-then-not-is_fit : goal.returns-then-not-is_fit
returns-then-not-is_fit c = did_as _ _ (read_unfit _ _ (told_false c.is_fit.ensures c.if-not-is_fit.true)) (did_silent card_unfit _)

-- the card as lent is fit
fits : (c : Else-not-is_fit) → fit (card_of c.args.words.now c.args.memory.now c.args.ports.now) ≡ true
fits c = told_true c.is_fit.ensures c.if-not-is_fit.false

pub returns-then-image-ne-IMAGE : goal.returns-then-image-ne-IMAGE
returns-then-image-ne-IMAGE c = did_as _ _ (read_length_law _ _ (fits ((goal.at.returns-then-image-ne-IMAGE c).Else-not-is_fit)) c.if-image-ne-IMAGE.true) (did_silent image_length _)

pub unpack-padding-requires : goal.unpack-padding-requires
unpack-padding-requires c = (sym form_length, c.if-image-ne-IMAGE.false)

pub returns-then-padding-ne0 : goal.returns-then-padding-ne0
returns-then-padding-ne0 c = did_as _ _ (read_padding _ _ (fits ((goal.at.returns-then-padding-ne0 c).Else-not-is_fit)) c.if-image-ne-IMAGE.false (λ z. c.if-padding-ne0.true (c.unpack-padding.ensures.1 ∙ z))) (did_silent image_padding _)

pub entries_right-requires : goal.entries_right-requires
entries_right-requires c = c.unpack-padding.auto.values ∙ sym form_length

pub returns-then-not-entries_right : goal.returns-then-not-entries_right
returns-then-not-entries_right c = let unpacked = c.unpack-padding.ensures in
    did_as _ _
    (read_outside _ _ (fits ((goal.at.returns-then-not-entries_right c).Else-not-is_fit)) c.if-image-ne-IMAGE.false (sym unpacked.1 ∙ c.if-padding-ne0.false) (told_false (c.entries_right.ensures ∙ ap (entries_right saved_form) unpacked.0) c.if-not-entries_right.true))
    (did_silent card_unfit _)

pub restore-requires : goal.restore-requires
restore-requires c = ((fit_facts _ (fits ((goal.at.restore-requires c).Else-not-is_fit))).words_length, c.unpack-padding.auto.values ∙ sym form_length)

pub returns : goal.returns
unfolding restored
returns c = let unpacked = c.unpack-padding.ensures in
    let words = c.args.words.now in
    did_as _ _
    (read_done _ _ (fits ((goal.at.returns c).Else-not-is_fit)) c.if-image-ne-IMAGE.false (sym unpacked.1 ∙ c.if-padding-ne0.false) (told_true (c.entries_right.ensures ∙ ap (entries_right saved_form) unpacked.0) c.if-not-entries_right.false))
    (record { quiet = refl; numbered = refl; left = same_card (c.restore.ensures ∙ ap (replaced saved_form words) unpacked.0) refl refl })
