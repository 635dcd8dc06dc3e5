-- The commands of document 01, "Datalink", by their bits.
use Rattle.std.specs.Prelude.{ℕ, ◌≡◌, false, Result, Ok, Err}
use Rattle.card.specs.Numbers.{command_unknown}
use Rattle.datalink.specs.Form.{interrogate_bits, change_command_bits, change_bits_bits, acknowledge_bits}
use Rattle.datalink.specs.Frame.{command_known}
use Rattle.datalink.specs.declared.frame.Command.{Command}
use Rattle.datalink.specs.declared.frame.Command.TheVariants.{Interrogate, Change, ChangeBits, Acknowledge}
use Rattle.datalink.specs.declared.frame.Silent.{Silent}

abbrev pub bits_of : Command → ℕ
bits_of Interrogate = interrogate_bits
bits_of Change = change_command_bits
bits_of ChangeBits = change_bits_bits
bits_of Acknowledge = acknowledge_bits

-- bits are a command's, or are refused: "command (5)"
abbrev pub Commands : ℕ → Result Command Silent → Type 0
Commands bits (Ok command) = bits_of command ≡ bits
Commands bits (Err refusal) = (command_known bits ≡ false) × (refusal ≡ record { 0 = command_unknown })
