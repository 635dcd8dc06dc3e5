-- `lucid::answer::turn_down` meets its contract. Assumes nothing.
use Rattle.std.proofs.Common.{refl}
use Rattle.card.proofs.Replies.{wrote_none}
use Rattle.lucid.proofs.answer.turn_down.Goals as goal

pub returns-in-Silent : goal.returns-in-Silent
returns-in-Silent c = rw c.in-Silent.is (record { numbered = refl; wrote = wrote_none _ })
