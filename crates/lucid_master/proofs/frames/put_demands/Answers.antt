-- `lucid_master::frames::put_demands` meets its contract. The invariant: the demands still to be put from here make what all of them make. Assumes nothing.
use Rattle.std.proofs.Common.{◌≡◌, ℕ, suc, ◌+◌, ◌*◌, List, drop, get_or, sym, ap, ◌∙◌, add-one, arith, drop-cons}
use Rattle.std.proofs.Math.ListN.{drop_of_length-le}
use Rattle.wire.specs.Buffer.{put}
use Rattle.wire.proofs.Buffers.{put_none, put_put}
use Rattle.lucid.specs.Form.{data_at, demand_size, little}
use Rattle.lucid_master.specs.Request.{demand_bytes}
use Rattle.lucid_master.proofs.frames.put_demands.Goals as goal

pub loop-i-preserved : goal.loop-i-preserved
unfolding demand_bytes little
loop-i-preserved c = let l = c.loop-i in
    let values = c.args.values.now in
    let at = data_at + demand_size * l.i in
    let rest = demand_bytes (drop (suc l.i) values) in
    let next = ap (λ (s : List ℕ). put l.out at (demand_bytes s)) (sym (drop-cons values l.i 0 c.loop-i-test.true)) in
    let behind = put_put l.out at (little demand_size (get_or values l.i 0)) rest (omega (arith, l.invariant.kept)) in
    let place : data_at + demand_size * suc l.i ≡ at + demand_size = omega arith in
    record {
      kept = c.put_pair.auto.out ∙ l.invariant.kept;
      made = rw (c.put_pair.ensures, add-one, place) (behind ∙ next ∙ l.invariant.made);
    }

pub returns : goal.returns
unfolding demand_bytes
returns c = let l = c.loop-i in
    let at = data_at + demand_size * l.i in
    let none = drop_of_length-le c.args.values.now c.loop-i-test.false in
    sym (put_none l.out at) ∙ ap (λ (s : List ℕ). put l.out at (demand_bytes s)) (sym none) ∙ l.invariant.made
