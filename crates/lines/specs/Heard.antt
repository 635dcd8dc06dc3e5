-- The line of what a master heard. docs/CONSOLE.md: "the number, 1, 3, 4 or 7; with 1 then `value` and the values in decimal (one, or one for each
-- channel), `done`, `fault`, or `refused` with the code or status in decimal where the reply carries one".
use Rattle.std.specs.Prelude.{ℕ, ◌+◌, ◌*◌, List, [], ◌∷◌, ◌++◌}
use Rattle.figures.specs.Decimal.{shortest}
use Rattle.figures.specs.Signed.{text_of, longest_text}
use Rattle.card.specs.Layout.{channels}
use Rattle.card.specs.Numbers.{done}
use Rattle.asking.specs.Hearing.{Hearing}
use Rattle.asking.specs.Hearing.Hearing.{Gives, Done, Fault, Refused, Unread}
use Rattle.lines.specs.Text.{space, told}

-- a value in decimal, after a space
unfoldable pub value_text : ℕ → List ℕ
value_text value = space ∷ text_of value

abbrev pub value_most : ℕ
value_most = 1 + longest_text

unfoldable pub values_text : List ℕ → List ℕ
values_text [] = []
values_text (value ∷ values) = value_text value ++ values_text values

-- the words, after a space each
abbrev pub value_word : List ℕ
value_word = 32 ∷ 118 ∷ 97 ∷ 108 ∷ 117 ∷ 101 ∷ []

abbrev pub done_word : List ℕ
done_word = 32 ∷ 100 ∷ 111 ∷ 110 ∷ 101 ∷ []

abbrev pub fault_word : List ℕ
fault_word = 32 ∷ 102 ∷ 97 ∷ 117 ∷ 108 ∷ 116 ∷ []

abbrev pub refused_word : List ℕ
refused_word = 32 ∷ 114 ∷ 101 ∷ 102 ∷ 117 ∷ 115 ∷ 101 ∷ 100 ∷ []

abbrev pub word_most : ℕ
word_most = 8

-- a number and a word
abbrev pub worded_most : ℕ
worded_most = longest_text + word_most

unfoldable pub given_text : List ℕ → List ℕ
given_text values = (shortest done ++ value_word) ++ values_text values

unfoldable pub heard_text : Hearing → List ℕ
heard_text (Gives values) = given_text values
heard_text Done = shortest done ++ done_word
heard_text Fault = shortest done ++ fault_word
heard_text (Refused code) = (shortest done ++ refused_word) ++ values_text code
heard_text (Unread number) = told number []

-- it takes at most so many bytes: a number, a word and four values
abbrev pub heard_most : ℕ
heard_most = worded_most + channels * value_most
