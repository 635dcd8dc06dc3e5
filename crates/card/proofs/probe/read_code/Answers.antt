-- `card::probe::read_code` meets its contract, test by test. Assumes nothing.
use Rattle.std.proofs.Common.{ℕ, ap, arith, ne_eqb}
use Rattle.card.specs.declared.probe.Reading.TheVariants.{Temperature}
use Rattle.wire.proofs.Cases.{cases, no}
use Rattle.card.specs.Probe.{reading_of, tenths_of}
use Rattle.card.proofs.probe.read_code.Goals as goal

pub returns-then-code-eq-FAULT_CODE : goal.returns-then-code-eq-FAULT_CODE
unfolding reading_of
returns-then-code-eq-FAULT_CODE c = search cases

pub returns : goal.returns
unfolding reading_of tenths_of
returns c = no _ _ _ _ (ne_eqb _ _ c.if-code-eq-FAULT_CODE.false) (ap (λ (w : ℕ). Temperature (record { 0 = w })) (omega arith))
