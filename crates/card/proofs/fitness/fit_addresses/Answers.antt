-- `card::fitness::fit_addresses` meets its contract: the tests are those of the definition. Assumes nothing.
use Rattle.card.specs.Scans.{fit_addresses}
use Rattle.card.proofs.fitness.fit_addresses.Goals as goal

pub returns : goal.returns
unfolding fit_addresses
returns c = rw (← c.love_right-love_fit.ensures, ← c.lecom_right-lecom_fit.ensures)
