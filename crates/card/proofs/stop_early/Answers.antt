-- `card::stop_early` meets its contract: 12, then 11, then neither. Assumes nothing.
use Rattle.std.proofs.Common.{le-leb}
use Rattle.std.proofs.lemmas.Bool.{lt-leb}
use Rattle.wire.specs.Choose.{choose}
use Rattle.card.specs.Reply.{early}
use Rattle.card.proofs.stop_early.Goals as goal

pub returns-then-room-least : goal.returns-then-room-least
unfolding early choose
returns-then-room-least c = rw (lt-leb _ _ c.if-room-least.true) c.unless_unfit.ensures

pub returns : goal.returns
unfolding early choose
returns c = rw (le-leb _ _ c.if-room-least.false) c.unless_unfit-2.ensures
