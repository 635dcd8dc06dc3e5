-- `card::fitness::is_fit` meets its contract: the lengths first, then the pending change, then the words. Assumes nothing.
use Rattle.wire.proofs.Tests.{and_false_right, and_true_right}
use Rattle.wire.proofs.Cases.{told_true, told_false}
use Rattle.card.specs.Fitness.{fit}
use Rattle.std.proofs.Common.{eq-eqb, ne_eqb}
use Rattle.card.proofs.fitness.is_fit.Goals as goal

pub returns-then-words-ne-WORDS : goal.returns-then-words-ne-WORDS
unfolding fit
returns-then-words-ne-WORDS c = simp (ne_eqb _ _ c.if-words-ne-WORDS.true)

pub returns-then-memory-ne-MEMORY : goal.returns-then-memory-ne-MEMORY
unfolding fit
returns-then-memory-ne-MEMORY c = simp (eq-eqb _ _ c.if-words-ne-WORDS.false, ne_eqb _ _ c.if-memory-ne-MEMORY.true)

pub returns-then-ports-ne-ROW : goal.returns-then-ports-ne-ROW
unfolding fit
returns-then-ports-ne-ROW c = simp (eq-eqb _ _ c.if-words-ne-WORDS.false, eq-eqb _ _ c.if-memory-ne-MEMORY.false, ne_eqb _ _ c.if-ports-ne-ROW.true)

pub returns-then-not-fit_pending : goal.returns-then-not-fit_pending
unfolding fit
returns-then-not-fit_pending c = simp (eq-eqb _ _ c.if-words-ne-WORDS.false, eq-eqb _ _ c.if-memory-ne-MEMORY.false, eq-eqb _ _ c.if-ports-ne-ROW.false, told_false c.fit_pending.ensures c.if-not-fit_pending.true, and_false_right)

pub returns : goal.returns
unfolding fit
returns c = simp (eq-eqb _ _ c.if-words-ne-WORDS.false, eq-eqb _ _ c.if-memory-ne-MEMORY.false, eq-eqb _ _ c.if-ports-ne-ROW.false, told_true c.fit_pending.ensures c.if-not-fit_pending.false, and_true_right)
    c.fit_words.ensures
