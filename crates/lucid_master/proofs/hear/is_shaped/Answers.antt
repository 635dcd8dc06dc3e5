-- `lucid_master::hear::is_shaped` meets its contract. Assumes nothing.
use Rattle.std.proofs.Common.{eq-eqb, ne_eqb}
use Rattle.lucid_master.specs.Heard.{shaped}
use Rattle.lucid_master.proofs.hear.is_shaped.Goals as goal

pub returns-then-reply-n : goal.returns-then-reply-n
unfolding shaped
returns-then-reply-n c = rw (ne_eqb _ _ c.if-reply-n.true)

pub returns : goal.returns
unfolding shaped
returns c = rw (eq-eqb _ _ c.if-reply-n.false)
