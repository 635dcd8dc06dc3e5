-- `lucid::answer::store` meets its contract. Assumes nothing.
use Rattle.lucid.specs.Answer.{stored}
use Rattle.wire.proofs.Cases.{yes, no}
use Rattle.lucid.proofs.answer.store.Goals as goal

pub returns-then-saved : goal.returns-then-saved
unfolding stored
returns-then-saved c = search (yes, no)

pub returns-else-saved : goal.returns-else-saved
unfolding stored
returns-else-saved c = search (yes, no)
