-- `figures::alphabet` meets its contract: the rule is computed over its sixteen entries. Assumes nothing.
use Rattle.wire.specs.Choose.{choose}
use Rattle.figures.specs.Figure.{base, char_of}
use Rattle.figures.proofs.Sheets.{tabled}
use Rattle.figures.proofs.alphabet.Goals as goal

pub returns : goal.returns
unfolding char_of choose
returns c = tabled char_of base _ tt
