-- `console::card_calls::tell_governor` meets its contract. Assumes nothing.
use Rattle.std.proofs.Common.{rules}
use Rattle.console.proofs.Answers.{governor_real}
use Rattle.console.proofs.card_calls.tell_governor.Goals as goal

pub tell_reading-requires : goal.tell_reading-requires
tell_reading-requires c = (search rules, (rw c.governor_reading-told.ensures.case (governor_real _ _), search rules))
