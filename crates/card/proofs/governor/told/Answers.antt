-- `card::governor::told` meets its contract, case by case of the reading. Assumes nothing.
use Rattle.std.proofs.Common.{sym, ap, ◌∙◌, rules}
use Rattle.card.specs.Governor.{told_of}
use Rattle.card.proofs.Probes.{temperatures, read_below}
use Rattle.card.proofs.governor.told.Goals as goal

pub returns-in_default : goal.returns-in_default
unfolding told_of
returns-in_default c = rw (← c.read_code.ensures, c.in_default.is)

pub degrees-requires : goal.degrees-requires
degrees-requires c = read_below c.args.code (search rules) (ap temperatures (sym c.read_code.ensures ∙ c.in-Temperature.is))

pub returns : goal.returns
unfolding told_of
returns c = rw (← c.read_code.ensures, c.in-Temperature.is, c.degrees.ensures)
