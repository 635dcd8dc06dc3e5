-- `card::fitness::fit_parameters` meets its contract. The invariant: the test of the whole is what was found so far and the test of the rest. Assumes nothing.
use Rattle.wire.proofs.Tests.{and_true_right}
use Rattle.card.proofs.Scans.{parameters_next, parameters_none}
use Rattle.std.proofs.Common.{sym, ◌∙◌, arith}
use Rattle.std.specs.Slice.Iter.{chunks_exact_rest}
use Rattle.card.proofs.fitness.fit_parameters.Goals as goal

pub loop-pair-preserved : goal.loop-pair-preserved
loop-pair-preserved c = let l = c.loop-pair in
    let step = c.in-Some.ensures.steps in (
      step.0 ∙ l.invariant.0,
      l.invariant.1 ∙ rw step.1.0 (parameters_next c.in-Some.pair.now _ l.ok _ _ (step.1.1 ∙ l.invariant.0) c.in_span-cycle.ensures c.in_span-floor.ensures),
    )

pub returns : goal.returns
returns c = let l = c.loop-pair in
    sym (l.invariant.1 ∙ rw (parameters_none (chunks_exact_rest l.pair-iterator) (omega (arith, c.in-None.ensures.steps.1.0, l.invariant.0))) (and_true_right l.ok))
