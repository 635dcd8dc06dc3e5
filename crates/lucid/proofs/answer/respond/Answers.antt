-- `lucid::answer::respond` meets its contract: the head is stored, the bytes of values copied after it. Assumes nothing.
use Rattle.std.proofs.Common.{length, refl, arith}
use Rattle.lucid.proofs.Writes.{wrote_told}
use Rattle.lucid.proofs.answer.respond.Goals as goal

pub returns : goal.returns
returns c = let a = c.args in
    rw c.copy.ensures (wrote_told a.number a.status a.values.now a.out.now (length a.values.now) (omega arith) refl)
