-- The exchange as C runs it: the master is nk_step, whose state is the number of a phase, read as include/nakshvilor.h says.
use Rattle.std.specs.Prelude.{ℕ}
use Rattle.master.specs.declared.Phase.TheVariants.{New}
use Rattle.firmware.specs.Phases.{code_of, says_in_c, step_in_c}
use Rattle.calls.specs.Calls.{reply_of}
use Rattle.exchange.specs.Line.{Build}

abbrev pub in_c : Build ℕ
in_c = record { new = code_of New; says = says_in_c; step = step_in_c; card = reply_of }
