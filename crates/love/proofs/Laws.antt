-- A refusal changes no table, whatever Love frame the card gets. Assumes nothing.
use Rattle.std.proofs.Common.{refl, List, ℕ, arith, Result, Ok, Err}
use Rattle.card.specs.Layout.{Card}
use Rattle.card.specs.Reply.{on_words, room_least, Keeps}
use Rattle.card.proofs.Replies.{shell_keeps}
use Rattle.love.specs.Frame.{asked}
use Rattle.love.specs.Answer.{address_of, obeyed, love_reply}
use Rattle.love.specs.declared.frame.Order.{Order}
use Rattle.love.specs.declared.frame.Order.TheVariants.{Probe, Read, Write}
use Rattle.love.specs.declared.frame.Refusal.{Refusal}
use Rattle.love.specs.declared.frame.Refusal.TheVariants.{Silent, Refused}

obeyed_keeps : (card : Card) (order : Result Order Refusal) → Keeps card (on_words card (obeyed card.words card.memory order))
unfolding obeyed
obeyed_keeps card (Err (Silent number)) = record { kept = λ _. refl }
obeyed_keeps card (Err (Refused number code)) = record { kept = λ _. refl }
obeyed_keeps card (Ok Probe) = record { kept = λ _. refl }
obeyed_keeps card (Ok (Read k)) = record { kept = λ _. refl }
obeyed_keeps card (Ok (Write k word)) = record { kept = λ h. let z : ⊥ = omega arith in absurd z }

-- "Numbers 2 to 14 change no table"
pub keeps : (card : Card) (room : ℕ) (f : List ℕ) → Keeps card (love_reply card room f)
unfolding love_reply
keeps card room f = shell_keeps room_least card room _ (obeyed_keeps card (asked (address_of card.words) f))
