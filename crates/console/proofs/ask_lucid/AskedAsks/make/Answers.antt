-- `console::ask_lucid::AskedAsks::make` meets its contract. Assumes nothing.
use Rattle.console.proofs.Answers.{made_fits}
use Rattle.console.proofs.ask_lucid.AskedAsks.make.Goals as goal

pub returns : goal.returns
returns c = made_fits c.make.ensures
