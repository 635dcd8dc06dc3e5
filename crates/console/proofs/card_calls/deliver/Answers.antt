-- `console::card_calls::deliver` meets its contract. Assumes nothing.
use Rattle.console.proofs.Answers.{answers}
use Rattle.console.proofs.card_calls.deliver.Goals as goal

pub returns-in-Datalink : goal.returns-in-Datalink
returns-in-Datalink c = search answers

pub returns-in-Lecom : goal.returns-in-Lecom
returns-in-Lecom c = search answers

pub returns-in-Love : goal.returns-in-Love
returns-in-Love c = search answers

pub returns-in-Lucid : goal.returns-in-Lucid
returns-in-Lucid c = search answers
