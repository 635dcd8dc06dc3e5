-- The loop of `lines::usage::tell_expected`: a character of the list takes 16 of the answer at most.
use Rattle.std.proofs.Common.{◌≡◌, ◌-◌, ◌*◌, ◌≤◌, length}
use Rattle.lines.proofs.usage.tell_expected.Given as goal

abbrev pub invariant-loop-usage : goal.invariant-loop-usage
invariant-loop-usage l = (l.answer.len ≤ 16 * l.usages.at) × (l.usages.list.now ≡ l.initial.usages.list.now)

abbrev pub decreases-loop-usage : goal.decreases-loop-usage
decreases-loop-usage l = length l.initial.usages.list.now - l.usages.at
