-- A refusal changes no table, whatever Datalink frame the card gets. Assumes nothing.
use Rattle.std.proofs.Common.{ℕ, eqb, List, get_or, refl, arith, Result, Ok, Err}
use Rattle.wire.proofs.Cases.{by_choice}
use Rattle.card.specs.Numbers.{nothing_pending}
use Rattle.card.specs.Layout.{Card, kind_at}
use Rattle.card.specs.Change.{no_change}
use Rattle.card.specs.Reply.{Keeps, room_least}
use Rattle.card.proofs.Replies.{keeps_silent, shell_keeps}
use Rattle.datalink.specs.Frame.{asked}
use Rattle.datalink.specs.Answer.{ia_of, interrogated, echoed, acknowledged, obeyed, datalink_reply}
use Rattle.datalink.specs.declared.frame.Order.{Order}
use Rattle.datalink.specs.declared.frame.Order.TheVariants.{Interrogate, Change, Acknowledge}
use Rattle.datalink.specs.declared.frame.Silent.{Silent}

obeyed_keeps : (card : Card) (f : List ℕ) (o : Result Order Silent) → Keeps card (obeyed card f o)
unfolding obeyed interrogated echoed acknowledged
obeyed_keeps card f (Err refusal) = keeps_silent refusal.0 card
obeyed_keeps card f (Ok (Interrogate at n)) = record { kept = λ h. refl }
obeyed_keeps card f (Ok (Change kind num)) = record { kept = λ h. let z : ⊥ = omega arith in absurd z }
obeyed_keeps card f (Ok Acknowledge) =
    by_choice (Keeps card) (eqb (get_or card.ports kind_at 0) no_change) _ _ (λ _. keeps_silent nothing_pending card)
    (λ _. record { kept = λ h. let z : ⊥ = omega arith in absurd z })

pub keeps : (card : Card) (room : ℕ) (f : List ℕ) → Keeps card (datalink_reply card room f)
unfolding datalink_reply
keeps card room f = shell_keeps room_least card room _ (obeyed_keeps card f (asked (ia_of card) f))
