-- `card::done_with` meets its contract. Assumes nothing.
use Rattle.wire.proofs.Cases.{cases}
use Rattle.card.specs.Reply.{done_with}
use Rattle.card.proofs.done_with.Goals as goal

pub returns-then-len-eq0 : goal.returns-then-len-eq0
unfolding done_with
returns-then-len-eq0 c = search cases

pub returns : goal.returns
unfolding done_with
returns c = search cases
