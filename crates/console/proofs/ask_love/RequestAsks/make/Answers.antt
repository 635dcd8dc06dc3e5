-- `console::ask_love::RequestAsks::make` meets its contract. Assumes nothing.
use Rattle.console.proofs.Answers.{made_fits}
use Rattle.console.proofs.ask_love.RequestAsks.make.Goals as goal

pub returns : goal.returns
returns c = made_fits c.make.ensures
