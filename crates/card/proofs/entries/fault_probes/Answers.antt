-- `card::entries::fault_probes` meets its contract: the first bytes filled are one `put`. Assumes nothing.
use Rattle.wire.specs.Buffer.{put}
use Rattle.card.specs.Layout.{channels}
use Rattle.card.specs.Entries.{faulted}
use Rattle.std.proofs.Common.{arith, length-take-le}
use Rattle.card.proofs.entries.fault_probes.Goals as goal

pub returns : goal.returns
unfolding faulted put
returns c = rw (c.fill.ensures.after (λ y e. e), length-take-le channels c.args.memory.now (omega arith))
