-- `console::input::Input::take` meets its contract. Assumes nothing.
use Rattle.std.proofs.Common.{arith}
use Rattle.console.proofs.Joins.{come_joined}
use Rattle.console.proofs.input.Input.take.Goals as goal
use Rattle.console.proofs.input.Input.take.Goals.{in-Some, in_default}

pub invariant_of-self-clause-short : goal.invariant_of-self-clause-short
invariant_of-self-clause-short c = elim c.match-self.branch [ in-Some w ↦ rw w.self-is (come_joined w.join-self.ensures) | in_default w ↦ rw (w.self-is, w.in_default.is) (omega arith) ]

pub invariant_of-self-else-stop-self-clause-short : goal.invariant_of-self-else-stop-self-clause-short
invariant_of-self-else-stop-self-clause-short c = elim c.match-self.branch [ in-Some w ↦ rw w.self-is (come_joined w.join-self.ensures) | in_default w ↦ rw (w.self-is, w.in_default.is) (omega arith) ]
