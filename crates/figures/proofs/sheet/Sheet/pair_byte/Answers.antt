-- `Sheet::pair_byte` meets its contract. Assumes nothing.
use Rattle.std.proofs.Common.{refl}
use Rattle.std.proofs.lemmas.Bool.{lt-leb}
use Rattle.wire.proofs.Cases.{cases, no}
use Rattle.figures.specs.Figure.{pair_byte}
use Rattle.figures.proofs.sheet.Sheet.pair_byte.Goals as goal

pub returns-then-limit-h : goal.returns-then-limit-h
unfolding pair_byte
returns-then-limit-h c = rw (pair_byte, ← c.figure-h.ensures) (search cases)

pub returns-then-limit-l : goal.returns-then-limit-l
unfolding pair_byte
returns-then-limit-l c = rw (pair_byte, ← c.figure-h.ensures, ← c.figure-l.ensures) (search cases)

pub returns : goal.returns
unfolding pair_byte
returns c = rw (pair_byte, ← c.figure-h.ensures, ← c.figure-l.ensures) (no _ _ _ _ (lt-leb _ _ c.if-limit-h.false) (no _ _ _ _ (lt-leb _ _ c.if-limit-l.false) refl))
