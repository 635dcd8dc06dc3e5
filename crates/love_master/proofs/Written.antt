-- An answer or a frame that was written into a scratch is its front. Assumes nothing.
use Rattle.std.proofs.Common.{◌≡◌, ℕ, ◌≤◌, List, length, take, drop, sym, arith, length-take-le}
use lib.Seq.{take-append_seam}
use Rattle.wire.specs.Buffer.{overlay}
use Rattle.card.specs.Reply.{Wrote}

module _ (bytes out : List ℕ) {len : ℕ} {last : List ℕ} (w : Wrote bytes out len last) where
  pub front : take len last ≡ bytes
  unfolding overlay
  front = rw (w.measured, w.written) (take-append_seam bytes (drop (length bytes) out))

  pub within : length bytes ≤ length last → len ≤ length last
  within h = omega (arith, w.measured)

  pub counted : length bytes ≤ length last → len ≡ length (take len last)
  counted h = sym (length-take-le len last (within h))
