-- The entries that write and read the image. Document 01, "The saved image" and "Numbers returned".
use Rattle.std.specs.Prelude.{ℕ, Bool, List, length, ◌==◌}
use Rattle.wire.specs.Choose.{choose}
use Rattle.card.specs.Numbers.{answered, done, card_unfit, image_length, image_padding}
use Rattle.card.specs.Layout.{Card}
use Rattle.card.specs.Fitness.{fit}
use Rattle.card.specs.Reply.{Reply, silent, sent, shell}
use Rattle.image.specs.Form.{saved_form, image_size}
use Rattle.image.specs.Saved.{image_of, entries_of, padding_of, restored}
use Rattle.image.specs.Ranges.{entries_right}

-- writing: 12, then 11 for a buffer below 293 bytes
unfoldable pub write_image : Card → ℕ → Reply
write_image card room = shell image_size card room (sent answered (image_of card.words) card)

-- a test, and the number of its refusal
abbrev pub unless : Bool → ℕ → Card → Reply → Reply
unless test number card reply = choose test reply (silent number card)

-- "Order in reading: the card as lent (12), 13, 14, an entry of the image outside its range (12)"
unfoldable pub read_image : Card → List ℕ → Reply
read_image card img =
    unless (fit card) card_unfit card
    (unless (length img == image_size) image_length card
    (unless (padding_of img == 0) image_padding card
    (unless (entries_right saved_form (entries_of img)) card_unfit card
    (silent done (restored card img)))))
