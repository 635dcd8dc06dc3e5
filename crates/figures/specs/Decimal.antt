-- Decimal figures, most significant first: "shortest decimal", "zero is one 0" (LECOM), "four figures" (Love).
use Rattle.std.specs.Prelude.{ℕ, zero, suc, ◌+◌, ◌*◌, ◌/◌, ◌%◌, List, [], ◌∷◌, ◌++◌, Option, Some, None, ltb}
use Rattle.wire.specs.Choose.{choose}
use Rattle.figures.specs.Figure.{decimal, figure_of, char_of, all_figures}

-- the last k decimal figures of n, leading zeros too
unfoldable pub digits : ℕ → ℕ → List ℕ
digits zero n = []
digits (suc k) n = digits k (n / decimal) ++ (char_of (n % decimal) ∷ [])

-- how many figures n has without leading zeros, as long as it takes no more than `turns` divisions by ten
unfoldable pub size_within : ℕ → ℕ → ℕ
size_within zero n = 1
size_within (suc turns) n = choose (ltb n decimal) 1 (suc (size_within turns (n / decimal)))

-- how many figures the shortest decimal of n has: zero has one
unfoldable pub size_of : ℕ → ℕ
size_of n = size_within n n

-- the shortest decimal of n
unfoldable pub shortest : ℕ → List ℕ
shortest n = digits (size_of n) n

-- the value of the figures that are left, after those of the value v
unfoldable pub value_from : ℕ → List ℕ → ℕ
value_from v [] = v
value_from v (x ∷ xs) = value_from (v * decimal + figure_of x) xs

-- the value of a run of decimal figures
unfoldable pub value_of : List ℕ → ℕ
value_of s = value_from 0 s

-- the mark for characters that are no decimal number
abbrev pub no_value : ℕ
no_value = 18446744073709551615

-- what the characters that are left are read as, after figures of the value v: `no_value` if one of them is no decimal figure
unfoldable pub read_from : ℕ → List ℕ → ℕ
read_from v s = choose (all_figures decimal s) (value_from v s) no_value

-- what a run of characters is read as
unfoldable pub read_of : List ℕ → ℕ
read_of s = read_from 0 s

-- a value that was read or none, as `read_of` tells it
abbrev pub value_or_none : Option ℕ → ℕ
value_or_none None = no_value
value_or_none (Some v) = v

-- the longest run that is read: "1 to 12 data characters" (LECOM)
abbrev pub longest_value : ℕ
longest_value = 12
