-- `lucid_master::frames::put_addressed` meets its contract. Assumes nothing.
use Rattle.card.proofs.Replies.{wrote_put}
use Rattle.lucid.specs.Form.{address_size, little}
use Rattle.lucid_master.proofs.frames.put_addressed.Goals as goal

pub returns : goal.returns
unfolding little
returns c = let a = c.args in
    rw c.put_pair.ensures (wrote_put _ a.out.now c.put_head.ensures (little address_size a.address))
