-- Laws of specs/Request.antt: a frame as it is made, part after part. Assumes nothing.
use Rattle.std.proofs.Common.{◌≡◌, ℕ, ◌+◌, ◌-◌, ◌<◌, ◌≤◌, List, ◌∷◌, ◌++◌, length, drop, set, append_assoc, arith, length-append}
use lib.Seq.{take-append_seam}
use Rattle.wire.specs.Buffer.{put, overlay, part}
use Rattle.wire.specs.Sum.{sum_of}
use Rattle.figures.specs.Figure.{pair_of}
use Rattle.figures.specs.Decimal.{digits}
use Rattle.card.specs.Reply.{Wrote}
use Rattle.card.proofs.Replies.{wrote_as, wrote_set, wrote_put}
use Rattle.love.specs.Form.{stx, etx, address_at, write_length, filter_of}
use Rattle.love_master.specs.declared.request.Task.{Task}
use Rattle.love_master.specs.declared.request.Task.TheVariants.{Status, Read, Write}
use Rattle.love_master.specs.declared.request.Request.{Request}
use Rattle.love_master.specs.Request.{data_of, body, made, made_longest}

-- no data are longer than a write's
pub data_most_law : (task : Task) → length (data_of task) ≤ write_length
unfolding data_of pair_of digits
data_most_law Status = omega arith
data_most_law (Read place) = omega arith
data_most_law (Write place value) = omega arith

pub made_most_law : (q : Request) → length (made q) ≤ made_longest
unfolding made body pair_of
made_most_law q = simp length-append (omega (arith, data_most_law q.task))

-- a list that was put behind what was written
pub wrote_behind : (bytes out d : List ℕ) {n end : ℕ} {mid last : List ℕ} → Wrote bytes out n mid → (end ≡ n + length d) × (last ≡ put mid n d) → Wrote (bytes ++ d) out end last
wrote_behind bytes out d w e = rw (e.0, e.1) (wrote_put bytes out w d)

-- what stands from the address on is what the checksum adds; then checksum and ETX
pub wrote_made : (q : Request) (out : List ℕ) {end : ℕ} {before : List ℕ} → Wrote (stx ∷ filter_of q.address ∷ body q) out end before → end + 2 < length out
    → Wrote (made q) out (end + 3) (set (put before end (pair_of (sum_of (part before address_at end)))) (end + 2) etx)
unfolding made pair_of overlay
wrote_made q out {end} {before} w h =
    let b = body q in
    let n : end - 2 ≡ length b = omega (arith, w.measured) in
    let s : part before address_at end ≡ b = rw (n, w.written) (take-append_seam b (drop (length (stx ∷ filter_of q.address ∷ b)) out)) in
    let t : end + 2 + 1 ≡ end + 3 = omega arith in
    rw (s, ← t)
    (wrote_as _ (made q) (simp append_assoc)
    (wrote_set _ out (wrote_put _ out w (pair_of (sum_of b))) etx h))
