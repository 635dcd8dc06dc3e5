-- `lucid::form::Lucid::size` meets its contract, type by type. Assumes nothing.
use Rattle.wire.specs.Choose.{choose}
use Rattle.lucid.specs.Form.{size_of}
use Rattle.lucid.specs.Value.{Types}
use Rattle.std.proofs.Common.{rules, refl, eq-eqb, ne_eqb, subst}
use Rattle.wire.proofs.Cases.{yes, no}
use Rattle.lucid.proofs.form.Lucid.size.Goals as goal

pub returns-in-Demand : goal.returns-in-Demand
unfolding size_of
returns-in-Demand c = let e = subst (Types c.args.value_type) c.in-Demand.is c.from.ensures in (search (yes, no, eq-eqb, ne_eqb), search rules)

pub returns-in-Tenths : goal.returns-in-Tenths
unfolding size_of choose
returns-in-Tenths c = let e = subst (Types c.args.value_type) c.in-Tenths.is c.from.ensures in (rw e refl, search rules)

pub returns-in-Hundredths : goal.returns-in-Hundredths
unfolding size_of
returns-in-Hundredths c = let e = subst (Types c.args.value_type) c.in-Hundredths.is c.from.ensures in (search (yes, no, eq-eqb, ne_eqb), search rules)
