-- `lucid::collect::LucidCollect::place` meets its contract. Assumes nothing.
use Rattle.std.proofs.Common.{arith, rules}
use Rattle.lucid.proofs.Receiver.{head_goes, len_ends, len_goes, later_ends, later_goes}
use Rattle.lucid.proofs.collect.LucidCollect.place.Goals as goal

pub returns-then-n-lt-SHORTEST : goal.returns-then-n-lt-SHORTEST
returns-then-n-lt-SHORTEST c = search (head_goes, rules)

pub returns-then-b-eq0 : goal.returns-then-b-eq0
returns-then-b-eq0 c = search (len_ends, rules)

pub returns-then-n-eq-LEN : goal.returns-then-n-eq-LEN
returns-then-n-eq-LEN c = search (len_goes, rules)

pub returns-then-size-n : goal.returns-then-size-n
returns-then-size-n c = let s = c.size.ensures in
    later_ends _ _ (omega arith) c.requires (rw (← s.0) s.1) (rw (← s.0) c.if-size-n.true)

pub returns : goal.returns
returns c = let s = c.size.ensures in
    later_goes _ _ (omega arith) c.requires (rw (← s.0) s.1) (rw (← s.0) c.if-size-n.false)
