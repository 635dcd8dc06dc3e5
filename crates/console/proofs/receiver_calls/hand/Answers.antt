-- `console::receiver_calls::hand` meets its contract. Assumes nothing.
use Rattle.console.proofs.Answers.{answer_fits}
use Rattle.console.proofs.Receipts.{takes_few}
use Rattle.console.proofs.receiver_calls.hand.Goals as goal

pub returns-clause-given : goal.returns-clause-given
returns-clause-given c = let took = c.receive.ensures in
    (rw took.counted (takes_few _ _ _ _), answer_fits took.gave)
