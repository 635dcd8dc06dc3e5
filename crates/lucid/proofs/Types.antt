-- The types of a value by their numbers: what a number stands for means what the number means. Assumes nothing.
use Rattle.std.proofs.Common.{ℕ, List, ◌≡◌, false, ◌⊎◌, inl, inr, refl, sym, ap, ne_eqb, eqb, arith}
use Rattle.wire.specs.Choose.{choose}
use Rattle.card.specs.declared.probe.Reading.{Reading}
use Rattle.card.specs.declared.probe.Reading.TheVariants.{Temperature, Fault}
use Rattle.lucid.specs.Form.{demand, tenths}
use Rattle.lucid.specs.Answer.{value_of, reading_in, temperature_in}
use Rattle.lucid.specs.Value.{type_of, Types}
use Rattle.lucid.specs.declared.form.ValueType.{ValueType}
use Rattle.lucid.specs.declared.form.ValueType.TheVariants.{Demand, Tenths, Hundredths}

pub no_tenths : (t : ValueType) → (t ≡ Tenths → ⊥) → eqb (type_of t) tenths ≡ false
no_tenths Demand h = refl
no_tenths Tenths h = absurd (h refl)
no_tenths Hundredths h = refl

pub of_probe : (t : ValueType) → (t ≡ Tenths) ⊎ (t ≡ Hundredths) → type_of t ≡ demand → ⊥
of_probe Demand (inl e) h = let z : demand ≡ tenths = ap type_of e in omega (arith, z)
of_probe Demand (inr e) h = let z : demand ≡ 65 = ap type_of e in omega (arith, z)
of_probe Tenths e h = omega (arith, h)
of_probe Hundredths e h = omega (arith, h)

-- the values in a type are those by its number
module _ (ws memory : List ℕ) (number : ℕ) where
  reading_typed : (number ≡ tenths → ⊥) → (r : Reading) → reading_in (type_of Hundredths) r ≡ reading_in number r
  unfolding reading_in temperature_in choose
  reading_typed h (Temperature t) = rw (ne_eqb number tenths h)
  reading_typed h Fault = refl

  pub value_typed : (t : ValueType) → Types number t → value_of ws memory (type_of t) ≡ value_of ws memory number
  unfolding value_of choose
  value_typed Demand e = ap (value_of ws memory) (sym e)
  value_typed Tenths e = ap (value_of ws memory) (sym e)
  value_typed Hundredths (d, h) = λ i channel. other channel i
    where
      other : (channel : ℕ) → value_of ws memory (type_of Hundredths) channel ≡ value_of ws memory number channel
      other channel = rw (ne_eqb number demand d) (reading_typed h _)
