-- "an entry of the image outside its range": the ranges of document 01, "What the card holds", but for the registers, whose range in this form
-- is the form's own.
use Rattle.std.specs.Prelude.{ℕ, Bool, true, ◌&&◌, List, [], ◌∷◌, nat_le}
use Rattle.wire.specs.Choose.{choose}
use Rattle.wire.specs.Word.{minus}
use Rattle.card.specs.Layout.{saved_registers_at}
use Rattle.card.specs.Fitness.{in_span, in_range}
use Rattle.image.specs.Form.{Entry, register_bias}
use Rattle.image.specs.Saved.{word_of}

-- the word x of an entry is in the entry's range
unfoldable pub entry_right : Entry → ℕ → Bool
entry_right e x = choose (nat_le saved_registers_at e.word) (in_span (minus register_bias) register_bias x) (in_range e.word x)

-- every entry in whose field one of the values vs stands is in its range
unfoldable pub entries_right : List Entry → List ℕ → Bool
entries_right [] vs = true
entries_right (e ∷ form) [] = true
entries_right (e ∷ form) (v ∷ vs) = entry_right e (word_of e v) && entries_right form vs
