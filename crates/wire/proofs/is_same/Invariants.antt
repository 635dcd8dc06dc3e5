-- `wire::is_same` meets its contract. The invariant: ok tells of the first i bytes. Assumes nothing.
use Rattle.std.proofs.Common.{◌≡◌, ◌&&◌, drop}
use Rattle.wire.specs.Buffer.{same}
use Rattle.wire.proofs.is_same.Given as goal

abbrev pub invariant-loop-i : goal.invariant-loop-i
invariant-loop-i l = same l.a l.b ≡ (l.ok && same (drop l.i l.a) (drop l.i l.b))
