-- The numbers that C sees tell the cases apart: a phase, a kind, a LucidControl command and what a master hears come back from their numbers,
-- and a phase's number says what the phase does. Assumes nothing.
use Rattle.std.proofs.Common.{◌≡◌, refl}
use Rattle.wire.specs.Choose.{choose}
use Rattle.master.specs.Step.{says_of}
use Rattle.master.specs.declared.Phase.{Phase}
use Rattle.master.specs.declared.Phase.TheVariants.{New, Changing, Acknowledging, Reading, EndedDone, EndedUnknown}
use Rattle.master.specs.declared.request.Kind.{Kind}
use Rattle.master.specs.declared.request.Kind.TheVariants.{Bytes, Bits}
use Rattle.lucid_master.specs.declared.request.Command.{Command}
use Rattle.lucid_master.specs.declared.request.Command.TheVariants.{GetIo, GetIoGroup, SetIo, SetIoGroup, GetParam, SetParam, Reset}
use Rattle.asking.specs.Hearing.{Hearing, number_of, values_of}
use Rattle.asking.specs.Hearing.Hearing.{Gives, Done, Fault, Refused, Unread}
use Rattle.firmware.specs.Requests.{command_code_of, command_of}
use Rattle.firmware.specs.Hearing.{case_of, hearing_in_c}
use Rattle.firmware.specs.Phases.{code_of, phase_of, says_in_c, kind_code_of, kind_of}

pub phase_back : (p : Phase) → phase_of (code_of p) ≡ p
unfolding phase_of choose
phase_back New = refl
phase_back Changing = refl
phase_back Acknowledging = refl
phase_back Reading = refl
phase_back EndedDone = refl
phase_back EndedUnknown = refl

pub says_back : (p : Phase) → says_in_c (code_of p) ≡ says_of p
unfolding says_in_c choose
says_back New = refl
says_back Changing = refl
says_back Acknowledging = refl
says_back Reading = refl
says_back EndedDone = refl
says_back EndedUnknown = refl

pub kind_back : (k : Kind) → kind_of (kind_code_of k) ≡ k
unfolding kind_of choose
kind_back Bytes = refl
kind_back Bits = refl

pub command_back : (k : Command) → command_of (command_code_of k) ≡ k
unfolding command_of choose
command_back GetIo = refl
command_back GetIoGroup = refl
command_back SetIo = refl
command_back SetIoGroup = refl
command_back GetParam = refl
command_back SetParam = refl
command_back Reset = refl

pub hearing_back : (h : Hearing) → hearing_in_c (number_of h) (case_of h) (values_of h) ≡ h
unfolding hearing_in_c choose
hearing_back (Gives values) = refl
hearing_back Done = refl
hearing_back Fault = refl
hearing_back (Refused code) = refl
hearing_back (Unread number) = refl
