-- An unknown code, for the functions that judge: what a unit makes of a read of its characters, and the same by the characters alone.
use Rattle.std.specs.Prelude.{ℕ, ◌+◌, Bool, true, false, ◌&&◌, ◌||◌, not, List, eqb, get_or}
use Rattle.wire.specs.Choose.{choose}
use Rattle.figures.specs.Figure.{no_byte}
use Rattle.lecom.specs.Form.{extended_mark, standard_at, subcode_at, named_by, known}
use Rattle.lecom.specs.Frame.{is_write, pair_in, quad_in, asked}
use Rattle.lecom_master.specs.Heard.{read_of, is_unknown}

-- the unit at an address refuses a read of these code characters for its code
abbrev pub code_refused : ℕ → List ℕ → Bool
code_refused address code = not (is_write (read_of address code)) && is_unknown (asked address (read_of address code))

-- two characters are a standard code that names nothing
unfoldable pub standard_unknown : List ℕ → Bool
standard_unknown code = choose (eqb (pair_in code 0) no_byte) false (not (known (named_by (pair_in code 0))))

-- seven characters are an extended code that names nothing; "a subcode other than 00 is an unknown code"
unfoldable pub extended_unknown : List ℕ → Bool
extended_unknown code =
    choose (eqb (get_or code 0 0) extended_mark)
    (choose (eqb (pair_in code 1) no_byte || (eqb (pair_in code (1 + standard_at)) no_byte || eqb (pair_in code (1 + subcode_at)) no_byte)) false
    (choose (eqb (pair_in code (1 + subcode_at)) 0) (not (known (named_by (quad_in code 1)))) true))
    false
