-- `love_master::frames::put_frame` meets its contract. Assumes nothing.
use Rattle.std.proofs.Common.{◌≡◌, ℕ, ◌+◌, List, ◌∷◌, length, arith}
use Rattle.wire.specs.Buffer.{put}
use Rattle.figures.specs.Figure.{pair_of}
use Rattle.card.specs.Reply.{Wrote}
use Rattle.love.specs.Form.{stx, filter_of, data_at}
use Rattle.love.specs.Answer.{unit_of}
use Rattle.love_master.specs.declared.request.Request.{Request}
use Rattle.love_master.specs.Request.{data_of, body}
use Rattle.love_master.proofs.Makes.{data_most_law, wrote_behind, wrote_made}
use Rattle.love_master.proofs.frames.put_frame.Goals as goal

-- STX, filter, address and data as they were written
written : (q : Request) (out : List ℕ) {end : ℕ} {mid last : List ℕ} → Wrote (stx ∷ unit_of q.address) out data_at mid
    → (end ≡ data_at + length (data_of q.task)) × (last ≡ put mid data_at (data_of q.task)) → Wrote (stx ∷ filter_of q.address ∷ body q) out end last
unfolding body unit_of pair_of
written q out w d = wrote_behind _ _ (data_of q.task) w d

pub slice_bounds-sum-end : goal.slice_bounds-sum-end
slice_bounds-sum-end c = omega (arith, data_most_law c.args.request.task)

pub put_pair-requires : goal.put_pair-requires
put_pair-requires c = omega (arith, data_most_law c.args.request.task)

pub overflow_add-out : goal.overflow_add-out
overflow_add-out c = omega (arith, data_most_law c.args.request.task)

pub bounds-out-end : goal.bounds-out-end
bounds-out-end c = omega (arith, data_most_law c.args.request.task)

pub overflow_add-result : goal.overflow_add-result
overflow_add-result c = omega (arith, data_most_law c.args.request.task)

pub returns : goal.returns
returns c =
    let a = c.args in
    rw (c.put_pair.ensures, c.sum-sum.ensures)
    (wrote_made a.request a.out.now (written a.request a.out.now (rw c.unit.ensures at c.put_unit.ensures) c.put_data-end.ensures) (omega (arith, data_most_law a.request.task)))
