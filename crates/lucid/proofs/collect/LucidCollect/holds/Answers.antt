-- `lucid::collect::LucidCollect::holds` meets its contract. Assumes nothing.
use Rattle.wire.proofs.Cases.{cases}
use Rattle.lucid.proofs.Receiver.{held_stages}
use Rattle.lucid.proofs.collect.LucidCollect.holds.Goals as goal

pub returns-then-n-lt-SHORTEST : goal.returns-then-n-lt-SHORTEST
returns-then-n-lt-SHORTEST c = simp held_stages (search cases)

pub returns : goal.returns
returns c = simp (held_stages, ← c.size.ensures.0) (search cases)
