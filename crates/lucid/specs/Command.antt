-- The commands of document 01's OPC, by their numbers.
use Rattle.std.specs.Prelude.{ℕ, ◌≡◌, false, Result, Ok, Err}
use Rattle.card.specs.Numbers.{command_unknown}
use Rattle.lucid.specs.Form.{get_io, get_io_group, set_io, set_io_group, set_param, get_param, no_support}
use Rattle.lucid.specs.Frame.{opc_known}
use Rattle.lucid.specs.declared.frame.Command.{Command}
use Rattle.lucid.specs.declared.frame.Command.TheVariants.{GetIo, GetIoGroup, SetIo, SetIoGroup, SetParam, GetParam}
use Rattle.lucid.specs.declared.frame.Refusal.{Refusal}
use Rattle.lucid.specs.declared.frame.Refusal.TheVariants.{Refused}

abbrev pub opc_of : Command → ℕ
opc_of GetIo = get_io
opc_of GetIoGroup = get_io_group
opc_of SetIo = set_io
opc_of SetIoGroup = set_io_group
opc_of SetParam = set_param
opc_of GetParam = get_param

-- a number is a command's, or is refused: "OPC (5, A0h)"
abbrev pub Commands : ℕ → Result Command Refusal → Type 0
Commands opc (Ok command) = opc_of command ≡ opc
Commands opc (Err refusal) = (opc_known opc ≡ false) × (refusal ≡ Refused command_unknown no_support)
