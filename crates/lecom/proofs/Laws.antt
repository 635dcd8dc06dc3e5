-- A refusal changes no table, whatever LECOM frame the card gets. Assumes nothing.
use Rattle.std.proofs.Common.{Result, Ok, Err, ℕ, ◌≤◌, Bool, List, [], ◌∷◌, refl, arith}
use Rattle.wire.proofs.Cases.{by_choice}
use Rattle.card.specs.Layout.{Card}
use Rattle.card.specs.Reply.{Keeps, on_words, room_least, Answer}
use Rattle.card.proofs.Replies.{shell_keeps}
use Rattle.lecom.specs.Form.{ack}
use Rattle.lecom.specs.Frame.{collective, asked}
use Rattle.lecom.specs.Answer.{done_by, obeyed, address_of, lecom_reply}
use Rattle.lecom.specs.declared.frame.Order.{Order}
use Rattle.lecom.specs.declared.frame.Order.TheVariants.{Read, Write}
use Rattle.lecom.specs.declared.frame.Refusal.{Refusal}
use Rattle.lecom.specs.declared.frame.Refusal.TheVariants.{Silent, Refused}

-- a frame that is done has number 0 or 1
done_number : (quiet : Bool) (bytes : List ℕ) → (done_by quiet bytes).number ≤ 1
unfolding done_by
done_number quiet bytes = by_choice (λ (a : Answer). a.number ≤ 1) quiet _ _ (λ _. omega arith) (λ _. omega arith)

obeyed_keeps : (card : Card) (f : List ℕ) (o : Result Order Refusal) → Keeps card (on_words card (obeyed card.words card.memory f o))
unfolding obeyed
obeyed_keeps card f (Err (Silent number)) = record { kept = λ _. refl }
obeyed_keeps card f (Err (Refused number)) = record { kept = λ _. refl }
obeyed_keeps card f (Ok (Read named)) = record { kept = λ _. refl }
obeyed_keeps card f (Ok (Write named value)) = record { kept = λ h. let z : ⊥ = omega (arith, h, done_number (collective f) (ack ∷ [])) in absurd z }

-- "Numbers 2 to 14 change no table"
pub keeps : (card : Card) (room : ℕ) (f : List ℕ) → Keeps card (lecom_reply card room f)
unfolding lecom_reply
keeps card room f = shell_keeps room_least card room _ (obeyed_keeps card f (asked (address_of card.words) f))
