-- Laws of specs/Answer.antt: a reply as it is written, part after part. Assumes nothing.
use Rattle.std.proofs.Common.{◌≡◌, List, [], ◌∷◌, ◌++◌, ℕ, ◌+◌, ◌-◌, arith, length}
use Rattle.wire.specs.Choose.{choose}
use Rattle.wire.specs.Buffer.{put, part}
use Rattle.wire.specs.Sum.{sum_of}
use Rattle.wire.proofs.Buffers.{overlay_rest}
use Rattle.figures.specs.Figure.{zero_char, pair_of}
use Rattle.figures.specs.Signed.{is_negative, magnitude}
use Rattle.card.specs.declared.probe.Tenths.{Tenths}
use Rattle.card.specs.declared.probe.Reading.{Reading}
use Rattle.card.specs.declared.probe.Reading.TheVariants.{Temperature, Fault}
use Rattle.card.specs.Reply.{Wrote}
use Rattle.card.proofs.Replies.{wrote_put}
use Rattle.love.specs.Form.{stx, ack, filter_at, tail}
use Rattle.love.specs.Answer.{unit_of, normal_reply, fine_char, fault_char, negative_char, status_data, probe_data}

-- what stands after STX is what the checksum goes over; then checksum and ACK are put
pub wrote_normal : (address : ℕ) (out characters : List ℕ) {end len : ℕ} {before last : List ℕ} → Wrote (stx ∷ (unit_of address ++ characters)) out end before
    → (len ≡ end + tail) × (last ≡ put before end (pair_of (sum_of (part before filter_at end)) ++ (ack ∷ []))) → Wrote (normal_reply address characters) out len last
unfolding normal_reply pair_of
wrote_normal address out characters {end} {len} {before} {last} w p =
    let body = unit_of address ++ characters in
    let n : end - 1 ≡ length body = omega (arith, w.measured) in
    let s : part before filter_at end ≡ body = rw (n, w.written) (overlay_rest stx body out) in
    rw (p.0, p.1, s) (wrote_put (stx ∷ body) out w (pair_of (sum_of body) ++ (ack ∷ [])))

-- what 00 is answered at a fault, and at a temperature
module _ (reading : Reading) where
  pub status_fault : reading ≡ Fault → status_data fault_char zero_char 0 ≡ probe_data reading
  unfolding probe_data
  status_fault e = rw e

  pub status_temperature : (tenths : Tenths) → reading ≡ Temperature tenths → status_data fine_char (choose (is_negative tenths.0) negative_char zero_char) (magnitude tenths.0) ≡ probe_data reading
  unfolding probe_data
  status_temperature tenths e = rw e
