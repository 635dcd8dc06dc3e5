-- The image of a card's words, and the words that an image gives back.
use Rattle.std.specs.Prelude.{ℕ, ◌+◌, ◌%◌, List, [], ◌∷◌, replicate, slice_index, slice_set}
use Rattle.wire.specs.Word.{word_values, minus}
use Rattle.bits.specs.Bits.{field}
use Rattle.bits.specs.Fields.{fields, put_fields}
use Rattle.card.specs.Layout.{Card, with_words}
use Rattle.image.specs.Form.{Entry, saved_form, widths, used, padding, image_size}

-- "value plus ..": what stands in the field of an entry whose word is x. A word is in two's complement, so the sum is taken modulo its values
unfoldable pub field_of : Entry → ℕ → ℕ
field_of e x = (x + e.bias) % word_values

-- the word of an entry in whose field v stands
unfoldable pub word_of : Entry → ℕ → ℕ
word_of e v = (v + minus e.bias) % word_values

-- what stands in each field
unfoldable pub values : List Entry → List ℕ → List ℕ
values [] ws = []
values (e ∷ form) ws = field_of e (slice_index ws e.word) ∷ values form ws

-- the image with what stands in the entries' fields, from place p on
abbrev pub put_entries : List Entry → List ℕ → List ℕ → ℕ → List ℕ
put_entries form ws img p = put_fields img p (widths form) (values form ws)

-- the words with those of the entries replaced
unfoldable pub replaced : List Entry → List ℕ → List ℕ → List ℕ
replaced [] ws vs = ws
replaced (e ∷ form) ws [] = ws
replaced (e ∷ form) ws (v ∷ vs) = replaced form (slice_set ws e.word (word_of e v)) vs

-- the image: the fields one after another from the first bit on; the bits after the last one are zero
unfoldable pub image_of : List ℕ → List ℕ
image_of ws = put_entries saved_form ws (replicate image_size 0) 0

-- what stands in an image's fields
unfoldable pub entries_of : List ℕ → List ℕ
entries_of img = fields img 0 (widths saved_form)

-- an image's last bits
unfoldable pub padding_of : List ℕ → ℕ
padding_of img = field img (used saved_form) padding

-- "Reading replaces these entries only"
unfoldable pub restored : Card → List ℕ → Card
restored card img = with_words card (replaced saved_form card.words (entries_of img))
