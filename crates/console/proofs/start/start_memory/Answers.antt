-- `console::start::start_memory` meets its contract: the first bytes filled, the others as they were. Assumes nothing.
use Rattle.console.proofs.start.start_memory.Goals as goal

pub returns : goal.returns
returns c = rw (c.fill.ensures.after (λ y e. e), c.requires)
