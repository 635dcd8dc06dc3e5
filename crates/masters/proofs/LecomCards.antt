-- For every value that a LECOM read may be answered by there is a card at that address that holds it. Assumes nothing.
use Rattle.std.proofs.Common.{◌≡◌, ℕ, ◌+◌, ◌<◌, true, List, [], ◌∷◌, length, set, sym, ap, ◌∙◌, arith, length-set, get_or-set_other, get_or-set_same, eqb-true, Option, Some, None}
use Rattle.wire.specs.Choose.{choose}
use Rattle.card.specs.Entries.{with_code}
use Rattle.card.specs.Layout.{Card, with_words, lecom_address_at, operational_at, registers, channels, word_count}
use Rattle.card.specs.Fitness.{in_range, lecom_right}
use Rattle.card.specs.Probe.{fault_code, tenths_of, reading_of}
use Rattle.card.specs.Start.{start_words, start_memory, start_card}
use Rattle.card.proofs.Probes.{temperature_read}
use Rattle.card.proofs.Ranges.{at_register}
use Rattle.lecom.specs.Form.{named_by}
use Rattle.lecom.specs.Stages.{Has}
use Rattle.lecom.specs.Answer.{address_of}
use Rattle.lecom.specs.declared.form.Named.{Named}
use Rattle.lecom.specs.declared.form.Named.TheVariants.{Register, Probe, Activate, Store}
use Rattle.lecom.proofs.Frames.{named_has}
use Rattle.lecom.proofs.Values.{Ranged}
use Rattle.asking.specs.Hearing.Hearing.{Gives}
use Rattle.asking.specs.Claims.{Real}
use Rattle.asking.proofs.Cards.{start_real, real_set, real_code}
use Rattle.asking.proofs.Temperatures.{tenths_coded}
use Rattle.lecom_master.specs.Heard.{answerable}
use Rattle.lecom_master.proofs.Requests.{unit_most}
use Rattle.masters.specs.Lecom.{heard_reading, held_by}

-- a card at an address
pub record Placed (address : ℕ) (card : Card) : Type 0 where
  pub real : Real card
  pub there : address_of card.words ≡ address

module _ (address : ℕ) (own : lecom_right address ≡ true) where
  -- the start card at another address
  abbrev moved : List ℕ
  moved = set start_words lecom_address_at address

  abbrev pub some_card : Card
  some_card = with_words start_card moved

  moved_length : length moved ≡ word_count
  moved_length = length-set start_words lecom_address_at address

  pub some_placed : Placed address some_card
  unfolding address_of in_range choose
  some_placed =
      record {
        real = real_set start_card lecom_address_at address start_real (omega (arith, unit_most address own)) own;
        there = get_or-set_same start_words lecom_address_at address 0 (omega arith);
      }

  -- with a register's operational copy
  module _ (k value : ℕ) (small : k < registers) (ranged : Ranged value) where
    abbrev register_card : Card
    register_card = with_words some_card (set moved (operational_at + k) value)

    register_placed : Placed address register_card
    unfolding address_of
    register_placed =
        record {
          real = real_set some_card (operational_at + k) value some_placed.real ranged.word (sym (at_register (operational_at + k) value (omega arith)) ∙ ranged.within);
          there = get_or-set_other moved (operational_at + k) lecom_address_at value 0 (λ e. omega arith) ∙ some_placed.there;
        }

    register_held : held_by register_card (Some (Register k)) ≡ Gives (value ∷ [])
    unfolding held_by
    register_held = ap (λ (x : ℕ). Gives (x ∷ [])) (get_or-set_same moved (operational_at + k) value 0 (omega (arith, moved_length)))

  -- with a probe's code
  probe_placed : (channel code : ℕ) → code < fault_code → Placed address (with_code some_card channel code)
  unfolding with_code
  probe_placed channel code h = record { real = real_code some_card channel code some_placed.real (omega arith); there = some_placed.there }

  probe_held : (channel code : ℕ) → channel < channels → code < fault_code → held_by (with_code some_card channel code) (Some (Probe channel)) ≡ Gives (tenths_of code ∷ [])
  unfolding held_by with_code heard_reading
  probe_held channel code b h = ap (λ (x : ℕ). heard_reading (reading_of x)) (get_or-set_same start_memory channel code 0 (omega arith)) ∙ ap heard_reading (temperature_read code h).taken

  -- a card that holds what is named so
  pub record Holder (n : Option Named) (value : ℕ) : Type 0 where
    pub card : Card
    pub placed : Placed address card
    pub held : held_by card n ≡ Gives (value ∷ [])

  holder : (n : Option Named) (value : ℕ) → Has n → answerable n value ≡ true → Ranged value → Holder n value
  unfolding answerable held_by tenths_of
  holder (Some (Register k)) value small can ranged = record { card = register_card k value small ranged; placed = register_placed k value small ranged; held = register_held k value small ranged }
  holder (Some (Probe channel)) value small can ranged =
      let c = tenths_coded value ranged.word can in
      let e : tenths_of c.code ≡ value = omega (arith, c.gives) in
      record { card = with_code some_card channel c.code; placed = probe_placed channel c.code c.below; held = probe_held channel c.code small c.below ∙ ap (λ (x : ℕ). Gives (x ∷ [])) e }
  holder (Some Activate) value small can ranged = record { card = some_card; placed = some_placed; held = ap (λ (x : ℕ). Gives (x ∷ [])) (sym (eqb-true value 0 can)) }
  holder (Some Store) value small can ranged = record { card = some_card; placed = some_placed; held = ap (λ (x : ℕ). Gives (x ∷ [])) (sym (eqb-true value 0 can)) }
  holder None value small can ranged = let z : ◌≡◌ {A = ℕ} 0 1 = cc in let w : ⊥ = omega (arith, z) in absurd w

  pub held_somewhere : (code value : ℕ) → answerable (named_by code) value ≡ true → Ranged value → Holder (named_by code) value
  held_somewhere code value can ranged = holder (named_by code) value (named_has code) can ranged
