-- The loop of `master::answer::all_asked`: ok tells of the first i bytes.
use Rattle.std.proofs.Common.{◌≡◌}
use Rattle.master.specs.Frames.{all_asked}
use Rattle.master.specs.Request.{ask_in}
use Rattle.master.proofs.answer.all_asked.Given as goal

abbrev pub invariant-loop-i : goal.invariant-loop-i
invariant-loop-i l = l.ok ≡ all_asked (ask_in l.ask) l.read l.i
