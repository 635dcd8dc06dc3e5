-- The loop of `master::answer::is_by_turns`: ok tells of the first i masks and states.
use Rattle.std.proofs.Common.{◌≡◌, ◌&&◌, ◌*◌, drop}
use Rattle.wire.specs.Buffer.{same}
use Rattle.master.specs.Frames.{pairs}
use Rattle.master.proofs.answer.is_by_turns.Given as goal

abbrev pub invariant-loop-i : goal.invariant-loop-i
invariant-loop-i l = same l.shown (pairs l.masks l.states) ≡ (l.ok && same (drop (2 * l.i) l.shown) (pairs (drop l.i l.masks) (drop l.i l.states)))
