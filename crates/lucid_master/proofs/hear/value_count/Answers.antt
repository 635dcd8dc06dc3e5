-- `lucid_master::hear::value_count` meets its contract. Assumes nothing.
use Rattle.std.proofs.Common.{◌≡◌, ℕ, refl, arith}
use Rattle.lucid_master.specs.declared.request.Command.{Command}
use Rattle.lucid_master.specs.declared.request.Command.TheVariants.{GetIo, GetIoGroup, SetIo, SetIoGroup, GetParam, SetParam, Reset}
use Rattle.lucid_master.specs.Stages.{value_count}
use Rattle.lucid_master.proofs.hear.value_count.Goals as goal

pub returns-in-GetIoGroup : goal.returns-in-GetIoGroup
unfolding value_count
returns-in-GetIoGroup c = rw c.in-GetIoGroup.is c.count.ensures

-- any other asks for one
one : (command : Command) (p1 : ℕ) → (command ≡ GetIoGroup → ⊥) → 1 ≡ value_count command p1
unfolding value_count
one GetIo p1 n = refl
one GetIoGroup p1 n = absurd (n refl)
one SetIo p1 n = refl
one SetIoGroup p1 n = refl
one GetParam p1 n = refl
one SetParam p1 n = refl
one Reset p1 n = refl

pub returns-in_default : goal.returns-in_default
returns-in_default c = (one _ _ c.in_default.not-GetIoGroup, omega arith)
