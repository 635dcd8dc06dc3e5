-- `card::fitness::all_in` meets its contract. The invariant: the test of the whole is what was found so far and the test of the rest. Assumes nothing.
use Rattle.card.specs.Scans.{all_in}
use Rattle.std.proofs.Common.{◌≡◌, not, ◌&&◌, drop}
use Rattle.card.proofs.fitness.all_in.Given as goal

abbrev pub invariant-loop-x : goal.invariant-loop-x
invariant-loop-x l = all_in l.lo l.hi l.s ≡ (not l.bad && all_in l.lo l.hi (drop l.x-index l.s))
