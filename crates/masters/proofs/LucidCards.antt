-- LucidControl: a card that holds words of a type, for any that an answer may have. Assumes nothing.
use Rattle.std.proofs.Common.{◌≡◌, ℕ, zero, suc, ◌+◌, ◌/◌, ◌%◌, ◌<◌, ◌≤◌, true, false, eqb, List, [], ◌∷◌, length, set, sym, refl, ap, ◌∙◌, arith, get_or-set_other, get_or-set_same, le-leb, leb-true}
use Rattle.wire.specs.Choose.{choose}
use Rattle.wire.specs.Word.{word_values}
use Rattle.wire.proofs.Cases.{by_choice}
use Rattle.card.specs.Layout.{Card, with_words, channels, demands_at}
use Rattle.card.specs.Fitness.{in_span, in_range, demand_most}
use Rattle.card.specs.Probe.{fault_code, tenths_of}
use Rattle.card.specs.Entries.{with_code}
use Rattle.card.specs.Start.{start_card}
use Rattle.card.proofs.Facts.{fit_facts}
use Rattle.card.proofs.Ranges.{at_demand}
use Rattle.card.proofs.Probes.{temperature_read}
use Rattle.lucid.specs.Form.{channels_from, demand, tenths, hundredths}
use Rattle.lucid.specs.Answer.{Held, joined, group, hundredths_of}
use Rattle.lucid.proofs.Laws.{group_same}
use Rattle.asking.specs.Claims.{Real}
use Rattle.asking.proofs.Cards.{start_real, real_set, real_code}
use Rattle.asking.proofs.Temperatures.{tenths_coded, hundredths_coded}
use Rattle.lucid_master.specs.Request.{type_known}
use Rattle.lucid_master.specs.Heard.{answerable}
use Rattle.lucid_master.proofs.Requests.{by_type}
use Rattle.masters.specs.Lucid.{temperature_word, reading_word, word_in}
use Rattle.masters.proofs.LucidValues.{Sayable, tenths_word}

-- a way to make a channel hold a word, and no other channel another
record Setting (valueType word : ℕ) : Type 0 where
  put : Card → ℕ → Card
  real : (card : Card) (channel : ℕ) → Real card → channel < channels → Real (put card channel)
  here : (card : Card) (channel : ℕ) → Real card → channel < channels → word_in (put card channel) valueType channel ≡ Held (word ∷ [])
  there : (card : Card) (channel other : ℕ) → (channel ≡ other → ⊥) → word_in (put card channel) valueType other ≡ word_in card valueType other

-- a demand is in its range
demand_right : (channel word : ℕ) → channel < channels → word ≤ demand_most → in_range (demands_at + channel) word ≡ true
unfolding in_span choose
demand_right channel word h most =
    sym (at_demand (demands_at + channel) word (omega arith) (omega arith)) ∙ rw (le-leb 0 word (omega arith), le-leb word demand_most most)

-- set on a card
set_demand : (word : ℕ) → word < word_values → answerable demand word ≡ true → Setting demand word
unfolding word_in answerable choose
set_demand word w h =
    record {
      put = λ card channel. with_words card (set card.words (demands_at + channel) word);
      real = λ card channel r l. real_set card (demands_at + channel) word r w (demand_right channel word l (leb-true word demand_most h));
      here = λ card channel r l.
          let f = fit_facts card r.fits in
          ap (λ (x : ℕ). Held (x ∷ [])) (get_or-set_same card.words (demands_at + channel) word 0 (omega (arith, f.words_length)));
      there = λ card channel other n.
          ap (λ (x : ℕ). Held (x ∷ [])) (get_or-set_other card.words (demands_at + channel) (demands_at + other) word 0 (λ e. n (omega arith)));
    }

-- a probe's code, in a type that is not 10h
set_code : (valueType word code : ℕ) → eqb valueType demand ≡ false → code < fault_code → temperature_word valueType (record { 0 = tenths_of code }) ≡ word → Setting valueType word
unfolding word_in reading_word with_code choose
set_code valueType word code d below e =
    record {
      put = λ card channel. with_code card channel code;
      real = λ card channel r l. real_code card channel code r (omega arith);
      here = λ card channel r l.
          let f = fit_facts card r.fits in
          rw (d, get_or-set_same card.memory channel code 0 (omega (arith, f.memory_length)), (temperature_read code below).taken) (ap (λ (x : ℕ). Held (x ∷ [])) e);
      there = λ card channel other n. rw (d, get_or-set_other card.memory channel other code 0 (λ e. n (sym e)));
    }

-- a word of any type
setting : (valueType word : ℕ) → type_known valueType ≡ true → answerable valueType word ≡ true → word < word_values → Setting valueType word
unfolding answerable temperature_word hundredths_of choose
setting valueType word known h w =
    by_type (λ t. answerable t word ≡ true → Setting t word)
    (λ a. set_demand word w a)
    (λ a. let k = tenths_coded word w a in set_code tenths word k.code refl k.below (omega (arith, k.gives, tenths_word k.code)))
    (λ a. let k = hundredths_coded word w a in set_code hundredths word k.code refl k.below k.gives)
    valueType known h

-- a card that holds these words of these channels
pub record Holding (valueType : ℕ) (ks words : List ℕ) : Type 0 where
  pub card : Card
  pub real : Real card
  pub holds : group (word_in card valueType) ks ≡ Held words

-- a channel more
hold_more : (valueType n k mask : ℕ) → type_known valueType ≡ true → k < channels → (words : List ℕ) → length words ≡ suc (length (channels_from n (suc k) mask)) → Sayable valueType words
    → ((rest : List ℕ) → length rest ≡ length (channels_from n (suc k) mask) → Sayable valueType rest → Holding valueType (channels_from n (suc k) mask) rest)
    → Holding valueType (k ∷ channels_from n (suc k) mask) words
unfolding group joined
hold_more valueType n k mask known h [] l s inner = let z : ⊥ = omega arith in absurd z
hold_more valueType n k mask known h (word ∷ words) l s inner =
    let ks = channels_from n (suc k) mask in
    let i = inner words (omega arith) s.1 in
    let t = setting valueType word known s.0.0 s.0.1 in
    let card = t.put i.card k in
    let others : group (word_in card valueType) ks ≡ group (word_in i.card valueType) ks =
    group_same (word_in card valueType) (word_in i.card valueType) n (suc k) mask (λ channel _ _. t.there i.card k (suc k + channel) (λ e. omega arith)) in
    record { card = card; real = t.real i.card k i.real h; holds = rw (t.here i.card k i.real h, others, i.holds) }

-- the channels of a mask
pub holding : (valueType n k mask : ℕ) → type_known valueType ≡ true → k + n ≤ channels → (words : List ℕ) → length words ≡ length (channels_from n k mask) → Sayable valueType words
    → Holding valueType (channels_from n k mask) words
unfolding channels_from group
holding valueType zero k mask known h [] l s = record { card = start_card; real = start_real; holds = refl }
holding valueType zero k mask known h (word ∷ words) l s = let z : ⊥ = omega arith in absurd z
holding valueType (suc n) k mask known h words l s =
    let inner = holding valueType n (suc k) (mask / 2) known (omega arith) in
    by_choice (λ (ks : List ℕ). length words ≡ length ks → Sayable valueType words → Holding valueType ks words) (eqb (mask % 2) 1) _ _
    (λ _ m t. hold_more valueType n k (mask / 2) known (omega arith) words m t inner)
    (λ _. inner words)
    l s
