-- What a receiver's call gave: how many bytes it took, and its line. Assumes nothing.
use Rattle.std.proofs.Common.{◌≡◌, ℕ, ◌<◌, ◌≤◌, leb, List, [], ◌∷◌, ◌++◌, length, arith}
use Rattle.wire.proofs.Cases.{cases, by_choice}
use Rattle.receiver.proofs.Calls.{takes}
use Rattle.figures.specs.Decimal.{shortest}
use Rattle.card.specs.Numbers.{done}
use Rattle.card.specs.Layout.{Card}
use Rattle.receive.specs.declared.Dialect.{Dialect}
use Rattle.receive.specs.Parts.{step_of, longest_of, part_of}
use Rattle.receive.specs.Receive.{Receipt, ready, collected, receive_reply}
use Rattle.lines.specs.Text.{space, spaced, told}
use Rattle.console.specs.Received.{received}

-- a receiver takes no more bytes than are lent
pub takes_few : (d : Dialect) (card : Card) (room : ℕ) (bytes : List ℕ) → (receive_reply d card room bytes).taken ≤ length bytes
unfolding receive_reply collected
takes_few d card room bytes =
    by_choice (λ (r : Receipt). r.taken ≤ length bytes) (ready card) _ _
    (λ _. by_choice (λ (r : Receipt). r.taken ≤ length bytes) (leb (longest_of d) room) _ _ (λ _. (takes (step_of d) bytes (part_of d card.ports)).0) (λ _. omega arith))
    (λ _. omega arith)

-- the line of a receiver's call, refused and done
pub received_refused : (number taken : ℕ) (bytes : List ℕ) → done < number → told number [] ≡ received number taken bytes
unfolding received
received_refused number taken bytes h = search cases

pub received_done : (number taken : ℕ) (bytes : List ℕ) → number ≤ done → ((shortest number ++ (space ∷ [])) ++ shortest taken) ++ spaced bytes ≡ received number taken bytes
unfolding received
received_done number taken bytes h = search cases
