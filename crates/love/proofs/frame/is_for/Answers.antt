-- `love::frame::is_for` meets its contract. Assumes nothing.
use Rattle.love.specs.Frame.{for_unit}
use Rattle.love.proofs.frame.is_for.Goals as goal

pub returns : goal.returns
unfolding for_unit
returns c = rw (← c.requires.1, c.filter.ensures, c.low.ensures)
