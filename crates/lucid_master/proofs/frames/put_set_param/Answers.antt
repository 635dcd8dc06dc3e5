-- `lucid_master::frames::put_set_param` meets its contract. Assumes nothing.
use Rattle.std.proofs.Common.{◌∙◌}
use Rattle.card.proofs.Replies.{wrote_put}
use Rattle.lucid.specs.Form.{address_size, parameter_size, little}
use Rattle.lucid.proofs.Writes.{word_little}
use Rattle.lucid_master.specs.Request.{data_of}
use Rattle.lucid_master.proofs.frames.put_set_param.Goals as goal

pub returns : goal.returns
unfolding data_of little
returns c = let a = c.args in
    let named = wrote_put _ a.out.now c.put_head.ensures (little address_size a.address) in
    rw (c.copy.ensures, c.to_le_bytes.ensures ∙ word_little a.value, c.put_pair.ensures) (wrote_put _ a.out.now named (little parameter_size a.value))
