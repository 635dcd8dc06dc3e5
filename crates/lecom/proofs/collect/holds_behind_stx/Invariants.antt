-- `lecom::collect::holds_behind_stx` meets its contract. The invariant: the bytes from i on decide. Assumes nothing.
use Rattle.std.proofs.Common.{◌≡◌, drop}
use Rattle.lecom.specs.Receiver.{held_behind_stx}
use Rattle.lecom.proofs.collect.holds_behind_stx.Given as goal

abbrev pub invariant-loop-i : goal.invariant-loop-i
invariant-loop-i l = held_behind_stx l.bytes ≡ held_behind_stx (drop l.i l.bytes)
