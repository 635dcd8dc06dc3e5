-- What the governor is told: its case has the number and the values of the paper's list, and comes back from them. Assumes nothing.
use Rattle.std.proofs.Common.{◌≡◌, ℕ, ◌≤◌, Bool, true, false, eqb, ltb, get_or, refl, ap, ◌∙◌, arith}
use Rattle.std.proofs.lemmas.Bool.{eqb-false}
use Rattle.wire.specs.Choose.{choose}
use Rattle.wire.proofs.Cases.{by_choice}
use Rattle.card.specs.Numbers.{range_unknown, card_unfit}
use Rattle.card.specs.Layout.{Card, channels}
use Rattle.card.specs.Fitness.{fit}
use Rattle.card.specs.Probe.{fault_code, reading_of}
use Rattle.card.specs.Governor.{degrees_of, told_by, told_of, governor_of, number_of, values_of, case_of, answer_by, unless, governor_answer, GovernorTold}
use Rattle.card.specs.Reply.{Answer}
use Rattle.card.specs.declared.probe.Reading.{Reading}
use Rattle.card.specs.declared.probe.Reading.TheVariants.{Temperature, Fault as Failed}
use Rattle.card.specs.declared.governor.Governor.{Governor}
use Rattle.card.specs.declared.governor.Governor.TheVariants.{Degrees, Fault, Refused}
use Rattle.card.proofs.Floats.{degrees_pattern}

-- a case has this number and these values
record Numbered (g : Governor) (a : Answer) : Type 0 where
  pub numbers : number_of g ≡ a.number
  pub values : values_of g ≡ a.bytes

told_numbered : (r : Reading) (code : ℕ) → Numbered (told_by r code) (answer_by r code)
told_numbered (Temperature tenths) code = record { numbers = refl; values = refl }
told_numbered Failed code = record { numbers = refl; values = refl }

governor_numbered : (card : Card) (channel : ℕ) → Numbered (governor_of card channel) (governor_answer card channel)
unfolding governor_of governor_answer told_of choose
governor_numbered card channel = by (fit card) (ltb channel channels)
  where
    by : (t u : Bool)
        → Numbered (choose t (choose u (told_of (get_or card.memory channel 0)) (Refused range_unknown)) (Refused card_unfit))
        (unless t card_unfit (unless u range_unknown (answer_by (reading_of (get_or card.memory channel 0)) (get_or card.memory channel 0))))
    by true true = told_numbered (reading_of (get_or card.memory channel 0)) (get_or card.memory channel 0)
    by true false = record { numbers = refl; values = refl }
    by false u = record { numbers = refl; values = refl }

-- the entry's contract, once the case is known
pub governor_told : {card : Card} {channel : ℕ} {r : Governor} → r ≡ governor_of card channel → GovernorTold card channel r card
governor_told {card} {channel} e =
    let n = governor_numbered card channel in
    record { case = e; numbered = ap number_of e ∙ n.numbers; valued = ap values_of e ∙ n.values; left = refl }

-- what holds of each case that occurs holds of what the governor is told
pub governor_cases : (P : Governor → Type 0) (card : Card) (channel : ℕ)
    → ((get_or card.memory channel 0 ≡ fault_code → ⊥) → P (Degrees (degrees_of (get_or card.memory channel 0)))) → P Fault → P (Refused range_unknown) → P (Refused card_unfit) → P (governor_of card channel)
unfolding governor_of told_of reading_of
governor_cases P card channel degrees fault range unfit =
    let code = get_or card.memory channel 0 in
    by_choice P (fit card) _ _
    (λ _. by_choice P (ltb channel channels) _ _
    (λ _. by_choice (λ (r : Reading). P (told_by r code)) (eqb code fault_code) _ _ (λ _. fault) (λ e. degrees (eqb-false code fault_code e)))
    (λ _. range))
    (λ _. unfit)

-- the case comes back from its number and values: they tell the cases apart, and refused is never 0 or 9. "One byte each": a code is at most 255
pub governor_back : (card : Card) (channel : ℕ) → get_or card.memory channel 0 ≤ fault_code → case_of (number_of (governor_of card channel)) (values_of (governor_of card channel)) ≡ governor_of card channel
unfolding case_of choose
governor_back card channel h =
    governor_cases (λ (g : Governor). case_of (number_of g) (values_of g) ≡ g) card channel
    (λ n. ap Degrees (degrees_pattern (get_or card.memory channel 0) (omega (arith, h, n))))
    refl
    refl
    refl
