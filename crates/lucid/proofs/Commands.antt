-- The commands by their numbers: which are get, set and on parameters, and that every one is known. Assumes nothing.
use Rattle.std.proofs.Common.{◌≡◌, true, false, ◌⊎◌, inl, inr, refl}
use Rattle.lucid.specs.Frame.{is_get, is_set, opc_known}
use Rattle.lucid.specs.Command.{opc_of}
use Rattle.lucid.specs.declared.frame.Command.{Command}
use Rattle.lucid.specs.declared.frame.Command.TheVariants.{GetIo, GetIoGroup, SetIo, SetIoGroup, SetParam, GetParam}

pub known : (command : Command) → opc_known (opc_of command) ≡ true
known GetIo = refl
known GetIoGroup = refl
known SetIo = refl
known SetIoGroup = refl
known SetParam = refl
known GetParam = refl

module _ (command : Command) where
  pub gets : (command ≡ GetIo) ⊎ (command ≡ GetIoGroup) → is_get (opc_of command) ≡ true
  gets (inl e) = rw e
  gets (inr e) = rw e

  pub sets : (command ≡ SetIo) ⊎ (command ≡ SetIoGroup) → (is_get (opc_of command) ≡ false) × (is_set (opc_of command) ≡ true)
  sets (inl e) = rw e (refl, refl)
  sets (inr e) = rw e (refl, refl)

  pub parameters : (command ≡ SetParam) ⊎ (command ≡ GetParam) → (is_get (opc_of command) ≡ false) × (is_set (opc_of command) ≡ false)
  parameters (inl e) = rw e (refl, refl)
  parameters (inr e) = rw e (refl, refl)
