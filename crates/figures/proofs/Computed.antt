-- To unfold `computed` is to unfold every definition of this crate's written meanings, for examples and runs that are computed. Assumes nothing.
use Prim.{Unit, tt}
use Rattle.figures.specs.Figure.{figure_of, char_of, all_figures, pair_byte, pair_of}
use Rattle.figures.specs.Decimal.{digits, size_within, size_of, shortest, value_from, value_of, read_from, read_of}
use Rattle.figures.specs.Signed.{is_negative, magnitude, with_sign, text_of, figures_of, parsed_of}

unfoldable pub computed : Unit {0}
unfolding figure_of char_of all_figures pair_byte pair_of digits size_within size_of shortest value_from value_of read_from read_of is_negative magnitude with_sign text_of figures_of parsed_of
computed = tt
