-- The commands by their bits: every one is known, and other bits ask for no change. Assumes nothing.
use Rattle.std.proofs.Common.{◌≡◌, ℕ, true, false, refl, eqb}
use Rattle.wire.specs.Choose.{choose}
use Rattle.wire.proofs.Tests.{neither}
use Rattle.card.specs.Change.{no_change}
use Rattle.datalink.specs.Form.{interrogate_bits, change_command_bits, acknowledge_bits}
use Rattle.datalink.specs.Frame.{command_known, kind_of}
use Rattle.datalink.specs.Command.{bits_of}
use Rattle.datalink.specs.declared.frame.Command.{Command}
use Rattle.datalink.specs.declared.frame.Command.TheVariants.{Interrogate, Change, ChangeBits, Acknowledge}

pub known : (command : Command) → command_known (bits_of command) ≡ true
unfolding command_known
known Interrogate = refl
known Change = refl
known ChangeBits = refl
known Acknowledge = refl

-- bits that are no command's ask for no change
pub no_kind : (bits : ℕ) → command_known bits ≡ false → no_change ≡ kind_of bits
unfolding command_known kind_of choose
no_kind bits e =
    let p = neither (eqb bits acknowledge_bits) _ e in
    let q = neither (eqb bits interrogate_bits) _ p.1 in
    let r = neither (eqb bits change_command_bits) _ q.1 in
    rw (r.0, r.1)
