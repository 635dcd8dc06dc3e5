-- `lucid::answer::reset` meets its contract. Assumes nothing.
use Rattle.lucid.specs.Answer.{reset}
use Rattle.lucid.proofs.answer.reset.Goals as goal

pub returns : goal.returns
unfolding reset
returns c = rw (← c.default_of.ensures) c.store.ensures
