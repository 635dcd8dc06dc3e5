-- `card::fitness::in_range` meets its contract, test by test. Assumes nothing.
use Rattle.std.proofs.Common.{◌∙◌, arith, eq-eqb}
use Rattle.wire.proofs.Cases.{cases, yes}
use Rattle.card.specs.Fitness.{in_range}
use Rattle.card.proofs.Ranges.{at_demand, at_cycle, at_floor, at_register}
use Rattle.card.proofs.fitness.in_range.Goals as goal

pub returns-then-word-eq-IA : goal.returns-then-word-eq-IA
unfolding in_range
returns-then-word-eq-IA c = search (yes, eq-eqb)

pub returns-then-word-eq-LECOM_ADDRESS : goal.returns-then-word-eq-LECOM_ADDRESS
unfolding in_range
returns-then-word-eq-LECOM_ADDRESS c = search cases

pub returns-then-word-eq-LOVE_ADDRESS : goal.returns-then-word-eq-LOVE_ADDRESS
unfolding in_range
returns-then-word-eq-LOVE_ADDRESS c = search cases

pub returns-then-word-lt-DEMANDS : goal.returns-then-word-lt-DEMANDS
unfolding in_range
returns-then-word-lt-DEMANDS c = search cases

pub returns-then-word-lt-PARAMETERS : goal.returns-then-word-lt-PARAMETERS
returns-then-word-lt-PARAMETERS c = c.in_span-then-word-lt-PARAMETERS.ensures ∙ at_demand _ _ (omega arith) (omega arith)

pub returns-then-word-ge-BUFFER : goal.returns-then-word-ge-BUFFER
returns-then-word-ge-BUFFER c = c.in_span-then-word-ge-BUFFER.ensures ∙ at_register _ _ (omega arith)

pub returns-then-word-eq0 : goal.returns-then-word-eq0
returns-then-word-eq0 c = c.in_span-then-word-eq0.ensures ∙ at_cycle _ _ (omega arith) (omega arith) c.if-word-eq0.true

pub returns : goal.returns
returns c = c.in_span-2.ensures ∙ at_floor _ _ (omega arith) (omega arith) c.if-word-eq0.false
