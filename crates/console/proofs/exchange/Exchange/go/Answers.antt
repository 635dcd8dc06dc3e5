-- `console::exchange::Exchange::go` meets its contract. Assumes nothing.
use Rattle.console.proofs.Answers.{frame_fits}
use Rattle.console.proofs.exchange.Exchange.go.Goals as goal

pub returns : goal.returns
returns c = frame_fits c.step.ensures
