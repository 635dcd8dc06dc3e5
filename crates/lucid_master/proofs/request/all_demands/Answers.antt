-- `lucid_master::request::all_demands` meets its contract. Assumes nothing.
use Rattle.std.proofs.Common.{nat_le, ◌∙◌, rules, tests}
use Rattle.std.proofs.lemmas.Iterator.{YieldsList-from_slice}
use Rattle.std.proofs.lemmas.Iterator.Search.{all_from_yields_List}
use Rattle.card.specs.Fitness.{demand_most}
use Rattle.lucid_master.proofs.Demands.{demands_all}
use Rattle.lucid_master.proofs.request.all_demands.Goals as goal

pub returns : goal.returns
returns c = all_from_yields_List (λ value. nat_le value demand_most) _ _ c.all.result c.all.ensures.ran (YieldsList-from_slice c.args.values.now cc) (λ x b q k. search (rules, tests)) ∙ demands_all c.args.values.now
