-- `figures::sheet::take` gives the sheet: the rule is computed over the 256 entries of the source. Assumes nothing.
use Rattle.wire.specs.Choose.{choose}
use Rattle.wire.specs.Length.{between}
use Rattle.wire.specs.Sum.{byte_values}
use Rattle.figures.specs.Figure.{figure_of}
use Rattle.figures.proofs.Sheets.{tabled}
use Rattle.figures.proofs.sheet.take.Goals as goal

pub invariant_of-result : goal.invariant_of-result
unfolding figure_of between choose
invariant_of-result c = record { right = tabled figure_of byte_values _ tt }
