-- `lucid_master::frames::put_set` meets its contract. Assumes nothing.
use Rattle.std.proofs.Common.{◌≡◌, ◌*◌, length, arith}
use Rattle.card.proofs.Replies.{wrote_put}
use Rattle.lucid.specs.Form.{demand_size}
use Rattle.lucid_master.specs.Request.{demand_bytes}
use Rattle.lucid_master.proofs.Demands.{length_demands}
use Rattle.lucid_master.proofs.frames.put_set.Goals as goal

pub returns : goal.returns
returns c = let a = c.args in
    let values = a.values.now in
    let e : length values * demand_size ≡ length (demand_bytes values) = omega (arith, length_demands values) in
    rw (c.put_demands.ensures, e) (wrote_put _ a.out.now (rw e at c.put_head.ensures) (demand_bytes values))
