-- The receivers' entries. Document 02, M-100.
use Rattle.std.specs.Prelude.{ℕ, ◌≡◌, Bool, ◌&&◌, List, [], ◌∷◌, leb, length}
use Rattle.wire.specs.Choose.{choose}
use Rattle.receiver.specs.Line.{collect}
use Rattle.receiver.specs.Store.{stored}
use Rattle.card.specs.Numbers.{card_unfit, frame_buffer_short}
use Rattle.card.specs.Layout.{Card, with_ports}
use Rattle.card.specs.Row.{with_count}
use Rattle.card.specs.Fitness.{fit}
use Rattle.card.specs.Reply.{Reply, Gave, silent, done_reply}
use Rattle.receive.specs.Parts.{step_of, longest_of, part_at, bytes_at, part_of, all_within}
use Rattle.receive.specs.declared.Dialect.{Dialect}
use Rattle.receive.specs.declared.Received.{Received}

-- what a call gives: how many bytes it took, and the number, the frame that it hands over and the card as it then stands
pub record Receipt : Type 0 where
  pub taken : ℕ
  pub reply : Reply

-- a refusal takes no byte
abbrev pub untaken : ℕ → Card → Receipt
untaken number card = record { taken = 0; reply = silent number card }

-- the frame that a call hands over, none is []
abbrev pub frame_in : List (List ℕ) → List ℕ
frame_in [] = []
frame_in (f ∷ frames) = f

-- the row after a call: its bytes stored, and the count of the part frame that is left
unfoldable pub collected_row : Dialect → List ℕ → List ℕ → List ℕ
collected_row d bytes row =
    with_count (part_at d) (length (collect (step_of d) (part_of d row) bytes).part) (stored (step_of d) (bytes_at d) (part_of d row) bytes row)

-- the bytes go to the dialect's receiver one by one
unfoldable pub collected : Dialect → Card → List ℕ → Receipt
collected d card bytes =
    let c = collect (step_of d) (part_of d card.ports) bytes in
    record { taken = c.taken; reply = done_reply (frame_in c.handed) (with_ports card (collected_row d bytes card.ports)) }

-- "after 12 (here also any receiver state outside these rules)"
unfoldable pub ready : Card → Bool
ready card = fit card && all_within card.ports

-- bytes reach the dialect's receiver, with a frame buffer of room bytes: "16 if its frame buffer is below the dialect's longest, after 12 .. and before everything else"
unfoldable pub receive_reply : Dialect → Card → ℕ → List ℕ → Receipt
receive_reply d card room bytes =
    choose (ready card) (choose (leb (longest_of d) room) (collected d card bytes) (untaken frame_buffer_short card)) (untaken card_unfit card)

-- the dialect's receiver is told of a quiet line: "Quiet or a restart drops a part frame"
unfoldable pub quiet_reply : Dialect → Card → Reply
quiet_reply d card = choose (ready card) (done_reply [] (with_ports card (with_count (part_at d) 0 card.ports))) (silent card_unfit card)

-- the entry took the bytes: how many, and its reply
pub record Took (receipt : Receipt) (out : List ℕ) (r : Received) (card' : Card) (out' : List ℕ) : Type 0 where
  pub counted : r.taken ≡ receipt.taken
  pub gave : Gave receipt.reply out (record { number = r.number; len = r.len }) card' out'
