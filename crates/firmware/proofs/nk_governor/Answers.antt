-- `firmware::nk_governor` meets its contract: what is told of a channel, told on. Assumes nothing.
use Rattle.std.specs.Prelude.{Float}
use Rattle.std.proofs.Common.{◌≡◌, ℕ, refl, ap, ◌∙◌}
use Rattle.wire.specs.Choose.{choose}
use Rattle.card.specs.Layout.{Card}
use Rattle.card.specs.Governor.{number_of, values_of, GovernorTold}
use Rattle.card.specs.declared.governor.Governor.{Governor}
use Rattle.card.proofs.Governed.{governor_cases}
use Rattle.firmware.specs.Lent.{degrees_in, values_in, HandedReading}
use Rattle.firmware.proofs.nk_governor.Goals as goal

-- number and float have the values of the case
abbrev Kept : Float → Governor → Type 0
Kept before told = values_in (number_of told) (degrees_in told before) ≡ values_of told

values-kept : {card card' : Card} {channel : ℕ} {told : Governor} (before : Float) → GovernorTold card channel told card' → Kept before told
unfolding values_in choose
values-kept {card} {channel} before g = rw g.case (governor_cases (Kept before) card channel (λ _. refl) refl refl refl)

handed : {card card' : Card} {channel : ℕ} {told : Governor} {before after : Float} {number : ℕ} → GovernorTold card channel told card'
    → (number ≡ number_of told) × (after ≡ degrees_in told before) → HandedReading card channel before number card' after
handed {before = before} g t =
    record {
      numbered = t.0 ∙ g.numbered;
      valued = rw (t.0, t.1) (values-kept before g ∙ g.valued);
      stored = t.1 ∙ ap (λ (x : Governor). degrees_in x before) g.case;
      left = g.left;
    }

pub returns : goal.returns
returns c = handed c.governor_reading.ensures c.tell.ensures
