-- The loop of `datalink::answer::apply`: the first i bytes of the change are applied.
use Rattle.datalink.specs.Answer.{changed}
use Rattle.std.proofs.Common.{◌≡◌}
use Rattle.datalink.proofs.answer.apply.Given as goal

abbrev pub invariant-loop-i : goal.invariant-loop-i
invariant-loop-i l = l.memory ≡ changed l.kind l.a l.sent l.i l.initial.memory
