-- `lucid::answer::obey` meets its contract, order by order. Assumes nothing.
use Rattle.card.proofs.Replies.{gave_leaving}
use Rattle.lucid.specs.Answer.{obeyed}
use Rattle.lucid.proofs.Types.{value_typed}
use Rattle.lucid.proofs.answer.obey.Goals as goal

pub returns-in-GetIo : goal.returns-in-GetIo
unfolding obeyed
returns-in-GetIo c = let a = c.args in
    rw (c.in-GetIo.is, ← value_typed a.words.now a.memory.now _ _ c.from.ensures) (gave_leaving _ _ _ c.read_channels.ensures)

pub returns-in-SetIo : goal.returns-in-SetIo
unfolding obeyed
returns-in-SetIo c = rw (c.in-SetIo.is, ← c.set_demands.ensures) (gave_leaving _ _ _ c.tell.ensures)

pub returns-in-GetParam : goal.returns-in-GetParam
unfolding obeyed
returns-in-GetParam c = rw c.in-GetParam.is (gave_leaving _ _ _ c.read_parameter.ensures)

pub returns-in-SetParam : goal.returns-in-SetParam
unfolding obeyed
returns-in-SetParam c = rw (c.in-SetParam.is, ← c.store.ensures) (gave_leaving _ _ _ c.tell-in-SetParam.ensures)

pub returns-in-Reset : goal.returns-in-Reset
unfolding obeyed
returns-in-Reset c = rw (c.in-Reset.is, ← c.reset.ensures) (gave_leaving _ _ _ c.tell-in-Reset.ensures)
