-- `lucid::answer::default_of` meets its contract. Assumes nothing.
use Rattle.std.proofs.Common.{eq-eqb, ne_eqb}
use Rattle.lucid.specs.Answer.{default_of}
use Rattle.wire.proofs.Cases.{yes, no}
use Rattle.lucid.proofs.answer.default_of.Goals as goal

pub returns-then-place-eq0 : goal.returns-then-place-eq0
unfolding default_of
returns-then-place-eq0 c = search (yes, eq-eqb)

pub returns : goal.returns
unfolding default_of
returns c = search (no, ne_eqb)
