-- The types of a value, by their numbers.
use Rattle.std.specs.Prelude.{ℕ, ◌≡◌}
use Rattle.lucid.specs.Form.{demand, tenths, hundredths}
use Rattle.lucid.specs.declared.form.ValueType.{ValueType}
use Rattle.lucid.specs.declared.form.ValueType.TheVariants.{Demand, Tenths, Hundredths}

abbrev pub type_of : ValueType → ℕ
type_of Demand = demand
type_of Tenths = tenths
type_of Hundredths = hundredths

-- a number stands for a type: 10h, 40h, else 41h, as `size_of` and `value_of` tell them apart
abbrev pub Types : ℕ → ValueType → Type 0
Types number Demand = number ≡ demand
Types number Tenths = number ≡ tenths
Types number Hundredths = (number ≡ demand → ⊥) × (number ≡ tenths → ⊥)
