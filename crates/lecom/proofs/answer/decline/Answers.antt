-- `lecom::answer::decline` meets its contract, by the kind of refusal. Assumes nothing.
use Rattle.std.proofs.Common.{refl}
use Rattle.card.proofs.Replies.{wrote_none}
use Rattle.lecom.proofs.answer.decline.Goals as goal

pub returns-in-Silent : goal.returns-in-Silent
returns-in-Silent c = rw c.in-Silent.is (record { numbered = refl; wrote = wrote_none _ })
