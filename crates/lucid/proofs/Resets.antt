-- What document 02, M-103, says of a reset holds of every fit card. Assumes nothing.
use Rattle.std.proofs.Common.{Result, Err, ℕ, ◌+◌, ◌*◌, ◌≤◌, ◌<◌, ◌≡◌, refl, ◌∙◌, ap, Bool, true, false, inl, inr, List, [], ◌∷◌, arith, lt-ltb, le-ltb, le-leb, eq-eqb, ne_eqb, eqb-true, bit_and, eqb, length, set}
use Rattle.wire.specs.Choose.{choose}
use Rattle.wire.specs.Length.{between}
use Rattle.wire.proofs.Computed as wire
use Rattle.wire.proofs.Sweep.{by_four}
use Rattle.card.specs.Layout.{Card, with_words, channels, parameters_at, saved_parameters_at}
use Rattle.card.specs.Fitness.{fit}
use Rattle.card.specs.Reply.{sent, on_words, room_least}
use Rattle.lucid.specs.Form.{longest, length_right, data_at, set_param, number_at}
use Rattle.lucid.specs.Frame.{is_reset, option_right, len_for, address_in, asked}
use Rattle.lucid.specs.Stages.{command_asked, parameter_asked}
use Rattle.lucid.specs.Answer.{obeyed, lucid_reply}
use Rattle.lucid.specs.Resets.{Resetting, OneReset}
use Rattle.lucid.specs.declared.frame.Order.{Order}
use Rattle.lucid.specs.declared.frame.Refusal.{Refusal}
use Rattle.lucid.specs.declared.frame.Refusal.TheVariants.{Refused}
use Rattle.lucid.proofs.Computed as lucid
use Rattle.lucid.proofs.Laws.{replied}
use Rattle.lucid.proofs.Passing.{asked_framed}

-- both options are right, and reset
resetting_right : (option : ℕ) → Resetting option → option_right set_param option ≡ true
resetting_right option (inl e) = rw e
resetting_right option (inr e) = rw e

resetting : (option : ℕ) → Resetting option → is_reset set_param option ≡ true
resetting option (inl e) = rw e
resetting option (inr e) = rw e

-- and no option with another bit is right
other_wrong : (option : ℕ) → (bit_and option 0x7E ≡ 0 → ⊥) → option_right set_param option ≡ false
other_wrong option n = by (eqb option 0) refl
  where
    by : (t : Bool) → eqb option 0 ≡ t → option_right set_param option ≡ false
    by true e = absurd (n (rw (eqb-true option 0 e)))
    by false e = rw (e, ne_eqb (bit_and option 0x7E) 0 n)

-- the tests of LEN, slice and channel, in their order
module _ (p1 option len : ℕ) (bytes : List ℕ) (few : length bytes < 256) where
  abbrev f : List ℕ
  f = 0xA0 ∷ p1 ∷ option ∷ len ∷ bytes

  long : length_right (length f) ≡ true
  unfolding between
  long = rw (le-leb 4 (length f) (omega arith), le-leb (length f) longest (omega arith))

  slice_asked : (length bytes ≡ len → ⊥) → asked f ≡ Err (Refused 3 0xB0)
  unfolding asked choose
  slice_asked n = rw (long, ne_eqb (length f) (data_at + len) (λ e. n (omega arith)))

  channel_asked : length bytes ≡ len → channels ≤ p1 → asked f ≡ Err (Refused 6 0xB8)
  unfolding asked choose
  channel_asked e h = rw (long, eq-eqb (length f) (data_at + len) (omega arith), le-ltb p1 channels h)

  option_asked_law : length bytes ≡ len → p1 < channels → option_right set_param option ≡ false → asked f ≡ Err (Refused 7 0xB4)
  unfolding asked choose
  option_asked_law e h wrong = rw (long, eq-eqb (length f) (data_at + len) (omega arith), lt-ltb p1 channels h, wrong)

  length_asked : length bytes ≡ len → p1 < channels → option_right set_param option ≡ true → is_reset set_param option ≡ true → (len ≡ 2 → ⊥) → asked f ≡ Err (Refused 3 0xB0)
  unfolding asked len_for choose
  length_asked e h right resets n = rw (long, eq-eqb (length f) (data_at + len) (omega arith), lt-ltb p1 channels h, right, resets, ne_eqb len 2 n)

-- the address
module _ (p1 option low high : ℕ) where
  address_named : address_in (0xA0 ∷ p1 ∷ option ∷ 2 ∷ low ∷ high ∷ []) ≡ low + 256 * high
  unfolding number_at
  address_named = omega arith

  address_asked : p1 < channels → option_right set_param option ≡ true → is_reset set_param option ≡ true → (low + 256 * high ≡ 0x1110 → ⊥) → (low + 256 * high ≡ 0x1120 → ⊥)
      → asked (0xA0 ∷ p1 ∷ option ∷ 2 ∷ low ∷ high ∷ []) ≡ Err (Refused 6 0xBA)
  unfolding command_asked parameter_asked len_for choose
  address_asked h right resets n m =
      asked_framed set_param p1 option (low ∷ high ∷ []) (omega arith) refl (lt-ltb p1 channels h) refl refl refl right (rw resets)
      ∙ rw (address_named, ne_eqb (low + 256 * high) 0x1110 n, ne_eqb (low + 256 * high) 0x1120 m)

module _ (card : Card) (room channel : ℕ) (fits : fit card ≡ true) (enough : room_least ≤ room) (within : channel < channels) where
  -- a frame that leaves these words, channel by channel
  abbrev Leaves : (ℕ → List ℕ) → (ℕ → List ℕ) → ℕ → Type 0
  Leaves f words k = on_words card (obeyed card.words card.memory (f k) (asked (f k))) ≡ sent 0 (0x00 ∷ 0 ∷ []) (with_words card (words k))

  carried_out : (f words : ℕ → List ℕ) → Leaves f words 0 → Leaves f words 1 → Leaves f words 2 → Leaves f words 3
      → lucid_reply card room (f channel) ≡ sent 0 (0x00 ∷ 0 ∷ []) (with_words card (words channel))
  carried_out f words a b c d = replied card room (f channel) fits enough ∙ by_four (Leaves f words) a b c d channel within

  -- a frame that is refused
  refused : (f : List ℕ) (number status : ℕ) → asked f ≡ Err (Refused number status) → lucid_reply card room f ≡ sent number (status ∷ 0 ∷ []) card
  unfolding obeyed
  refused f number status e = replied card room f fits enough ∙ ap (λ (order : Result Order Refusal). on_words card (obeyed card.words card.memory f order)) e

  pub one_reset : OneReset lucid_reply card room channel
  unfolding wire.computed lucid.computed
  one_reset =
      record {
        cycle = carried_out (λ k. 0xA0 ∷ k ∷ 0x01 ∷ 2 ∷ 0x10 ∷ 0x11 ∷ []) (λ k. set card.words (parameters_at + 2 * k) 1000000) refl refl refl refl;
        cycle_saved =
            carried_out (λ k. 0xA0 ∷ k ∷ 0x81 ∷ 2 ∷ 0x10 ∷ 0x11 ∷ [])
            (λ k. set (set card.words (parameters_at + 2 * k) 1000000) (saved_parameters_at + 2 * k) 1000000) refl refl refl refl;
        floor = carried_out (λ k. 0xA0 ∷ k ∷ 0x01 ∷ 2 ∷ 0x20 ∷ 0x11 ∷ []) (λ k. set card.words (parameters_at + 2 * k + 1) 0) refl refl refl refl;
        floor_saved =
            carried_out (λ k. 0xA0 ∷ k ∷ 0x81 ∷ 2 ∷ 0x20 ∷ 0x11 ∷ [])
            (λ k. set (set card.words (parameters_at + 2 * k + 1) 0) (saved_parameters_at + 2 * k + 1) 0) refl refl refl refl;
        other_slice = λ option r len bytes few n. refused (0xA0 ∷ channel ∷ option ∷ len ∷ bytes) 3 0xB0 (slice_asked channel option len bytes few n);
        other_channel = λ option r p1 h bytes few. refused (0xA0 ∷ p1 ∷ option ∷ length bytes ∷ bytes) 6 0xB8 (channel_asked p1 option (length bytes) bytes few refl h);
        other_option = λ option n bytes few.
            refused (0xA0 ∷ channel ∷ option ∷ length bytes ∷ bytes) 7 0xB4 (option_asked_law channel option (length bytes) bytes few refl within (other_wrong option n));
        other_length = λ option r bytes few n.
            refused (0xA0 ∷ channel ∷ option ∷ length bytes ∷ bytes) 3 0xB0
            (length_asked channel option (length bytes) bytes few refl within (resetting_right option r) (resetting option r) n);
        other_address = λ option r low high n m.
            refused (0xA0 ∷ channel ∷ option ∷ 2 ∷ low ∷ high ∷ []) 6 0xBA
            (address_asked channel option low high within (resetting_right option r) (resetting option r) n m);
      }
