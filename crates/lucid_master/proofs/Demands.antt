-- Demands in a list of values, and their bytes in a frame. Assumes nothing.
use Rattle.std.proofs.Common.{◌≡◌, ℕ, ◌*◌, List, [], ◌∷◌, length, nat_le, refl, arith}
use Rattle.std.specs.List.{list_all}
use Rattle.card.specs.Fitness.{demand_most}
use Rattle.lucid.specs.Form.{demand_size, little}
use Rattle.lucid_master.specs.Request.{all_demands, demand_bytes}

-- as a test of each
pub demands_all : (values : List ℕ) → list_all (λ value. nat_le value demand_most) values ≡ all_demands values
unfolding all_demands
demands_all [] = refl
demands_all (value ∷ values) = rw (demands_all values)

-- two bytes each
pub length_demands : (values : List ℕ) → length (demand_bytes values) ≡ demand_size * length values
unfolding demand_bytes little
length_demands [] = refl
length_demands (value ∷ values) = omega (arith, length_demands values)
