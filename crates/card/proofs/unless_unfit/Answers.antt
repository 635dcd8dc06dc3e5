-- `card::unless_unfit` meets its contract, test by test. Assumes nothing.
use Rattle.wire.proofs.Cases.{cases}
use Rattle.card.proofs.unless_unfit.Goals as goal

pub returns-then-is_fit : goal.returns-then-is_fit
returns-then-is_fit c = search cases

pub returns : goal.returns
returns c = search cases
