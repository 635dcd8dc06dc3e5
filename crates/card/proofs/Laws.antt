-- A refusal changes no table: setting a code, restart, the governor. Assumes nothing.
use Rattle.std.proofs.Common.{ℕ, ltb, refl, arith}
use Rattle.wire.proofs.Cases.{by_choice}
use Rattle.card.specs.Numbers.{range_unknown}
use Rattle.card.specs.Layout.{Card, channels}
use Rattle.card.specs.Entries.{set_code, restart}
use Rattle.card.specs.Governor.{governor_reply}
use Rattle.card.specs.Reply.{Keeps}
use Rattle.card.proofs.Replies.{keeps_silent, guarded_keeps}

pub set_code_keeps : (card : Card) (channel code : ℕ) → Keeps card (set_code card channel code)
unfolding set_code
set_code_keeps card channel code =
    guarded_keeps card _
    (by_choice (Keeps card) (ltb channel channels) _ _ (λ _. record { kept = λ h. let z : ⊥ = omega arith in absurd z }) (λ _. keeps_silent range_unknown card))

pub restart_keeps : (card : Card) → Keeps card (restart card)
unfolding restart
restart_keeps card = guarded_keeps card _ (record { kept = λ h. let z : ⊥ = omega arith in absurd z })

pub governor_keeps : (card : Card) (channel : ℕ) → Keeps card (governor_reply card channel)
governor_keeps card channel = record { kept = λ _. refl }
