-- The loop of `receive::gather`: what the bytes so far have left.
use Rattle.std.proofs.Common.{◌-◌, length}
use Rattle.receive.proofs.Gathering.{Turn}
use Rattle.receive.proofs.gather.Given as goal

abbrev pub invariant-loop-i : goal.invariant-loop-i
invariant-loop-i g l = Turn g.D.PartFrame.dialect l.n l.initial.ports l.bytes l.initial.frame l.ports l.frame l.count l.i

abbrev pub decreases-loop-i : goal.decreases-loop-i
decreases-loop-i g l = length l.bytes - l.i
