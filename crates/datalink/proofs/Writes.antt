-- The answer as it is written, and the pending change as it is stored. Assumes nothing.
use Rattle.std.proofs.Common.{◌≡◌, ℕ, ◌+◌, ◌%◌, ◌≤◌, List, [], ◌∷◌, ◌++◌, length, set, ap, ◌∙◌, arith, length-append}
use Rattle.wire.specs.Buffer.{put, overlay}
use Rattle.wire.specs.Sum.{byte_values, sum_of}
use Rattle.wire.proofs.Buffers.{overlay_sets, overlay_put}
use Rattle.wire.proofs.Sums.{sum_parts}
use Rattle.card.specs.Layout.{kind_at, num_at}
use Rattle.card.specs.Reply.{Wrote}
use Rattle.card.proofs.Replies.{wrote_one, wrote_set, wrote_put}
use Rattle.datalink.specs.Form.{start, second_at, frame_num_at, beside_body, framed}

pub framed_length : (second : ℕ) (body : List ℕ) → length (framed second body) ≡ length body + beside_body
unfolding framed
framed_length second body = simp length-append (omega arith)

-- the kind and then the body of a change stored at the front
pub pend_overlay : (kind : ℕ) (body p : List ℕ) → 1 + length body ≤ length p → put (set p kind_at kind) num_at body ≡ overlay (kind ∷ body) p
pend_overlay kind body p h = ap (λ (l : List ℕ). put l num_at body) (overlay_sets (kind ∷ []) p (omega arith)) ∙ overlay_put (kind ∷ []) body p

-- a frame that grows at its end: 7Eh, its second byte, head and bytes, and the LRC, which was summed on the way
module _ (second : ℕ) (head bytes out first then : List ℕ) (room : length head + length bytes + beside_body ≤ length out)
    (copied : first ≡ put (set (set out 0 start) second_at second) frame_num_at head)
    (added : then ≡ put first (frame_num_at + length head) bytes) where
  before_lrc : Wrote (start ∷ second ∷ (head ++ bytes)) out (frame_num_at + length head + length bytes) then
  before_lrc =
      let two = wrote_set (start ∷ []) out (wrote_one start out (omega arith)) second (omega arith) in
      rw (added, copied) (wrote_put (start ∷ second ∷ head) out (wrote_put (start ∷ second ∷ []) out two head) bytes)

  pub frame_written : (headed lrc : ℕ) → headed ≡ (second + sum_of head) % byte_values → lrc ≡ (headed + sum_of bytes) % byte_values
      → set then (frame_num_at + length head + length bytes) lrc ≡ overlay (framed second (head ++ bytes)) out
  unfolding framed
  frame_written headed lrc h summed =
      let body = second ∷ (head ++ bytes) in
      let right : lrc ≡ sum_of body = summed ∙ ap (λ (x : ℕ). (x + sum_of bytes) % byte_values) h ∙ sum_parts second head bytes in
      rw right (wrote_set (start ∷ body) out before_lrc (sum_of body) (omega (arith, length-append head bytes))).written
