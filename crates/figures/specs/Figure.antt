-- Figures: what a received character means, and the character of a value. "A code is two upper-case hex characters" (LECOM);
-- "0-9, A-F, a-f", "in data a to f mean A to F" (Love).
use Rattle.std.specs.Prelude.{ℕ, ◌+◌, ◌-◌, ◌*◌, ◌/◌, ◌%◌, Bool, true, ◌&&◌, List, [], ◌∷◌, Option, Some, None, leb, ltb}
use Rattle.wire.specs.Choose.{choose}
use Rattle.wire.specs.Length.{between}

-- ASCII: the first and the last character of each row of figures
abbrev pub zero_char : ℕ
zero_char = 48

abbrev pub nine_char : ℕ
nine_char = 57

abbrev pub upper_a : ℕ
upper_a = 65

abbrev pub upper_f : ℕ
upper_f = 70

abbrev pub lower_a : ℕ
lower_a = 97

abbrev pub lower_f : ℕ
lower_f = 102

-- limits: a figure below `decimal` is a decimal one, below `upper_hex` an upper-case hex one, below `hex` a hex one of either case
abbrev pub decimal : ℕ
decimal = 10

abbrev pub upper_hex : ℕ
upper_hex = 16

abbrev pub hex : ℕ
hex = 32

-- what lower case adds to a figure; a figure's value is the figure modulo `base`
abbrev pub lower : ℕ
lower = 16

abbrev pub base : ℕ
base = 16

-- the mark for a character that is no figure
abbrev pub none : ℕ
none = 32

-- the mark for two characters that are no byte
abbrev pub no_byte : ℕ
no_byte = 256

-- what a received character means as a figure: 0 to 9, A to F as 10 to 15, a to f as `lower` more, any other `none`
unfoldable pub figure_of : ℕ → ℕ
figure_of b =
    choose (between zero_char nine_char b) (b - zero_char)
    (choose (between upper_a upper_f b) (decimal + (b - upper_a))
    (choose (between lower_a lower_f b) (lower + (decimal + (b - lower_a)))
    none))

-- the upper-case character of a figure's value
unfoldable pub char_of : ℕ → ℕ
char_of v = choose (ltb v decimal) (zero_char + v) (upper_a + (v - decimal))

-- whether every character of a list is a figure below limit
unfoldable pub all_figures : ℕ → List ℕ → Bool
all_figures limit [] = true
all_figures limit (x ∷ xs) = ltb (figure_of x) limit && all_figures limit xs

-- the byte that two characters are, both of them figures below limit, or `no_byte`
unfoldable pub pair_byte : ℕ → ℕ → ℕ → ℕ
pair_byte limit high low =
    choose (leb limit (figure_of high)) no_byte
    (choose (leb limit (figure_of low)) no_byte
    (base * (figure_of high % base) + figure_of low % base))

-- a byte that was read or none, as `pair_byte` tells it
abbrev pub byte_or_none : Option ℕ → ℕ
byte_or_none None = no_byte
byte_or_none (Some b) = b

-- the two upper-case characters of a byte
unfoldable pub pair_of : ℕ → List ℕ
pair_of v = char_of (v / base) ∷ char_of (v % base) ∷ []
