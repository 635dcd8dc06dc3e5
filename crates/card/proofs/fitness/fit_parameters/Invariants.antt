-- `card::fitness::fit_parameters` meets its contract. The invariant: the test of the whole is what was found so far and the test of the rest. Assumes nothing.
use Rattle.card.specs.Scans.{fit_parameters}
use Rattle.std.proofs.Common.{◌≡◌, ◌&&◌}
use Rattle.std.specs.Slice.Iter.{chunks_exact_rest, chunks_exact_size}
use Rattle.card.proofs.fitness.fit_parameters.Given as goal

abbrev pub invariant-loop-pair : goal.invariant-loop-pair
invariant-loop-pair l = (chunks_exact_size l.pair-iterator ≡ 2) × (fit_parameters l.s ≡ (l.ok && fit_parameters (chunks_exact_rest l.pair-iterator)))
