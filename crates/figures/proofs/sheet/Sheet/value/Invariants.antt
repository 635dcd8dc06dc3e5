-- `Sheet::value` meets its contract. The invariant: what is read is what is read of the rest after v, a number of as many figures as
-- have been passed. Assumes nothing.
use Rattle.std.proofs.Common.{◌≡◌, ◌<◌, ◌^◌, drop}
use Rattle.figures.specs.Decimal.{read_from, read_of}
use Rattle.figures.proofs.sheet.Sheet.value.Given as goal

abbrev pub invariant-loop-c : goal.invariant-loop-c
invariant-loop-c l = (l.v < 10 ^ l.c-index) × (read_of l.s ≡ read_from l.v (drop l.c-index l.s))
