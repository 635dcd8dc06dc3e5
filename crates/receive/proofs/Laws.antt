-- A refusal changes nothing; a done call changes the part frame alone: memory, words and the pending change stay. Assumes nothing.
use Rattle.std.proofs.Common.{◌≡◌, refl, ◌∙◌, List, [], ℕ, ◌≤◌, arith, leb, eqb, length, take}
use Rattle.wire.proofs.Cases.{by_choice}
use Rattle.receiver.proofs.Stored.{stored_length, stored_front}
use Rattle.card.specs.Numbers.{done, foreign_address, card_unfit, frame_buffer_short}
use Rattle.card.specs.Layout.{Card, pending_size}
use Rattle.card.specs.Reply.{Reply, Keeps, silent, done_reply, done_with}
use Rattle.card.proofs.Rows.{length_with_count, front_count}
use Rattle.receive.specs.Parts.{step_of, longest_of, part_at, bytes_at, part_of}
use Rattle.receive.specs.Receive.{Receipt, collected_row, collected, ready, receive_reply, quiet_reply}
use Rattle.receive.specs.declared.Dialect.{Dialect}
use Rattle.receive.proofs.Parts.{part_behind}

-- what a call leaves of the card: words and memory, the row's length, and the pending change
pub record PartAlone (card card' : Card) : Type 0 where
  pub words : card'.words ≡ card.words
  pub memory : card'.memory ≡ card.memory
  pub long : length card'.ports ≡ length card.ports
  pub pending : take pending_size card'.ports ≡ take pending_size card.ports

-- what holds of a reply that leaves the card, and of one that is done and leaves the part frame alone
module _ (card : Card) (P : Reply → Type 0) (refusal : (number : ℕ) → foreign_address ≤ number → P (silent number card))
    (work : (bytes : List ℕ) (card' : Card) → PartAlone card card' → P (done_reply bytes card')) where
  pub quiet_either : (d : Dialect) → P (quiet_reply d card)
  unfolding quiet_reply
  quiet_either d =
      by_choice P (ready card) _ _
      (λ _. work [] _ (record { words = refl; memory = refl; long = length_with_count (part_at d) 0 card.ports; pending = front_count pending_size (part_at d) 0 card.ports (part_behind d) }))
      (λ _. refusal card_unfit (omega arith))

  pub receive_either : (d : Dialect) (room : ℕ) (bytes : List ℕ) → P (receive_reply d card room bytes).reply
  unfolding receive_reply collected collected_row
  receive_either d room bytes =
      by_choice (λ (r : Receipt). P r.reply) (ready card) _ _
      (λ _. by_choice (λ (r : Receipt). P r.reply) (leb (longest_of d) room) _ _
      (λ _. work _ _ (record {
        words = refl;
        memory = refl;
        long = length_with_count (part_at d) _ _ ∙ stored_length (step_of d) (bytes_at d) bytes (part_of d card.ports) card.ports;
        pending = front_count pending_size (part_at d) _ _ (part_behind d) ∙ stored_front (step_of d) (bytes_at d) pending_size (omega (arith, part_behind d)) bytes (part_of d card.ports) card.ports;
      }))
      (λ _. refusal frame_buffer_short (omega arith)))
      (λ _. refusal card_unfit (omega arith))

-- a done call gives 0 or 1
done_low : (len : ℕ) → done_with len ≤ done
unfolding done_with
done_low len = by_choice (λ (n : ℕ). n ≤ done) (eqb len 0) _ _ (λ _. omega arith) (λ _. omega arith)

keeps_done : (card : Card) (bytes : List ℕ) (card' : Card) → PartAlone card card' → Keeps card (done_reply bytes card')
keeps_done card bytes card' a = record { kept = λ h. let z : ⊥ = omega (arith, done_low (length bytes)) in absurd z }

-- "Numbers above 14 .. change no table"
pub receive_keeps : (card : Card) (d : Dialect) (room : ℕ) (bytes : List ℕ) → Keeps card (receive_reply d card room bytes).reply
receive_keeps card d room bytes = receive_either card (Keeps card) (λ number h. record { kept = λ _. refl }) (keeps_done card) d room bytes

pub quiet_keeps : (card : Card) (d : Dialect) → Keeps card (quiet_reply d card)
quiet_keeps card d = quiet_either card (Keeps card) (λ number h. record { kept = λ _. refl }) (keeps_done card) d
