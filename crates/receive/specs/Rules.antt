-- The rules of a dialect's type are those of its dialect.
use Rattle.std.specs.Prelude.{ℕ, ◌≡◌, Bool, List, refl}
use Rattle.receiver.specs.Step.{Step}
use Rattle.card.specs.Layout.{datalink_part_at, lecom_part_at, love_part_at, lucid_part_at}
use Rattle.receive.specs.Parts.{step_of, longest_of, held_by, part_at}
use Rattle.receive.specs.declared.Dialect.{Dialect}
use Rattle.receive.specs.declared.Dialect.TheVariants.{Datalink, Lecom, Love, Lucid}

pub record IsOf (d : Dialect) (step : Step) (held : List ℕ → Bool) (longest at : ℕ) : Type 0 where
  pub steps : step ≡ step_of d
  pub holds : held ≡ held_by d
  pub most : longest ≡ longest_of d
  pub stands : at ≡ part_at d

pub of_datalink : IsOf Datalink (step_of Datalink) (held_by Datalink) (longest_of Datalink) datalink_part_at
of_datalink = record { steps = refl; holds = refl; most = refl; stands = refl }

pub of_lecom : IsOf Lecom (step_of Lecom) (held_by Lecom) (longest_of Lecom) lecom_part_at
of_lecom = record { steps = refl; holds = refl; most = refl; stands = refl }

pub of_love : IsOf Love (step_of Love) (held_by Love) (longest_of Love) love_part_at
of_love = record { steps = refl; holds = refl; most = refl; stands = refl }

pub of_lucid : IsOf Lucid (step_of Lucid) (held_by Lucid) (longest_of Lucid) lucid_part_at
of_lucid = record { steps = refl; holds = refl; most = refl; stands = refl }
