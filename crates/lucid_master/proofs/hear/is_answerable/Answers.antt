-- `lucid_master::hear::is_answerable` meets its contract, type by type. Assumes nothing.
use Rattle.std.proofs.Common.{subst, eq-eqb, ne_eqb}
use Rattle.wire.specs.Choose.{choose}
use Rattle.wire.proofs.Cases.{yes, no}
use Rattle.lucid.specs.Value.{Types}
use Rattle.lucid_master.specs.Heard.{answerable}
use Rattle.lucid_master.proofs.hear.is_answerable.Goals as goal

pub returns-in-Demand : goal.returns-in-Demand
unfolding answerable
returns-in-Demand c = let e = subst (Types c.args.value_type) c.in-Demand.is c.from.ensures in search (yes, no, eq-eqb, ne_eqb)

pub returns-in-Tenths : goal.returns-in-Tenths
unfolding answerable choose
returns-in-Tenths c = let e = subst (Types c.args.value_type) c.in-Tenths.is c.from.ensures in rw e c.is_temperature.ensures

pub returns-in-Hundredths : goal.returns-in-Hundredths
unfolding answerable
returns-in-Hundredths c = let e = subst (Types c.args.value_type) c.in-Hundredths.is c.from.ensures in search (yes, no, eq-eqb, ne_eqb)
