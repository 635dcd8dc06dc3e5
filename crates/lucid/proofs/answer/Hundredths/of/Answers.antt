-- `lucid::answer::Hundredths::of` meets its contract. Assumes nothing.
use Rattle.lucid.specs.Answer.{hundredths_of}
use Rattle.lucid.proofs.answer.Hundredths.of.Goals as goal

pub returns : goal.returns
unfolding hundredths_of
returns c = rw c.word-tenths.ensures
