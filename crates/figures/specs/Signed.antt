-- Signed words as text. "Data: an optional minus, then at least one figure; leading zeros are allowed"; "shortest decimal" (LECOM).
use Rattle.std.specs.Prelude.{ℕ, Bool, true, false, not, List, ◌∷◌, Option, Some, None, leb, ltb, eqb, length, get_or, drop}
use Rattle.wire.specs.Choose.{choose}
use Rattle.wire.specs.Word.{minus}
use Rattle.figures.specs.Figure.{decimal, all_figures}
use Rattle.figures.specs.Decimal.{shortest, value_of}

-- the words from here on are the negative numbers
abbrev pub half : ℕ
half = 2147483648

-- ASCII: the sign before a negative number's figures
abbrev pub minus_char : ℕ
minus_char = 45

-- whether a word is a negative number
unfoldable pub is_negative : ℕ → Bool
is_negative w = leb half w

-- a word's number without its sign
unfoldable pub magnitude : ℕ → ℕ
magnitude w = choose (is_negative w) (minus w) w

-- the word of m, or of minus m: minus zero is zero
unfoldable pub with_sign : Bool → ℕ → ℕ
with_sign negative m =
    choose (not negative) m
    (choose (eqb m 0) 0
    (minus m))

-- a minus if the word is negative, then the shortest decimal of its magnitude
unfoldable pub text_of : ℕ → List ℕ
text_of w = choose (is_negative w) (minus_char ∷ shortest (magnitude w)) (shortest (magnitude w))

-- the longest text of a word: a minus and ten figures
abbrev pub longest_text : ℕ
longest_text = 11

-- at least one decimal figure and nothing else, with a value of at most bound: the word with the sign given
unfoldable pub figures_of : ℕ → Bool → List ℕ → Option ℕ
figures_of bound negative s =
    choose (eqb (length s) 0) None
    (choose (not (all_figures decimal s)) None
    (choose (ltb bound (value_of s)) None
    (Some (with_sign negative (value_of s)))))

-- an optional minus, then what `figures_of` says
unfoldable pub parsed_of : ℕ → List ℕ → Option ℕ
parsed_of bound s =
    choose (eqb (length s) 0) None
    (choose (eqb (get_or s 0 0) minus_char) (figures_of bound true (drop 1 s))
    (figures_of bound false s))
