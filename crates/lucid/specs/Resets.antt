-- What document 02, M-103, says of a reset, by frames, numbers and bytes: a claim about any meaning of the entry, on a card, with a room and
-- a channel. `lucid_reply` meets it on every fit card (proofs/Resets.antt), and for each part a wrong meaning does not (proofs/Refuted.antt).
use Rattle.std.specs.Prelude.{ℕ, ◌+◌, ◌*◌, ◌≤◌, ◌<◌, ◌≡◌, ◌⊎◌, List, [], ◌∷◌, length, set}
use Rattle.std.specs.Int.Bits.{bit_and}
use Rattle.card.specs.Layout.{Card, with_words, channels, parameters_at, saved_parameters_at}
use Rattle.card.specs.Reply.{Reply, sent}

-- the options of a reset, without and with the saved copy
abbrev pub Resetting : ℕ → Type 0
Resetting option = (option ≡ 0x01) ⊎ (option ≡ 0x81)

pub record OneReset (reply : Card → ℕ → List ℕ → Reply) (card : Card) (room channel : ℕ) : Type 0 where
  -- "option 01h .. resets that one parameter; with 80h its saved copy too", and no other entry of any table
  pub cycle : reply card room (0xA0 ∷ channel ∷ 0x01 ∷ 2 ∷ 0x10 ∷ 0x11 ∷ [])
      ≡ sent 0 (0x00 ∷ 0 ∷ []) (with_words card (set card.words (parameters_at + 2 * channel) 1000000))
  pub cycle_saved : reply card room (0xA0 ∷ channel ∷ 0x81 ∷ 2 ∷ 0x10 ∷ 0x11 ∷ [])
      ≡ sent 0 (0x00 ∷ 0 ∷ []) (with_words card (set (set card.words (parameters_at + 2 * channel) 1000000) (saved_parameters_at + 2 * channel) 1000000))
  pub floor : reply card room (0xA0 ∷ channel ∷ 0x01 ∷ 2 ∷ 0x20 ∷ 0x11 ∷ [])
      ≡ sent 0 (0x00 ∷ 0 ∷ []) (with_words card (set card.words (parameters_at + 2 * channel + 1) 0))
  pub floor_saved : reply card room (0xA0 ∷ channel ∷ 0x81 ∷ 2 ∷ 0x20 ∷ 0x11 ∷ [])
      ≡ sent 0 (0x00 ∷ 0 ∷ []) (with_words card (set (set card.words (parameters_at + 2 * channel + 1) 0) (saved_parameters_at + 2 * channel + 1) 0))
  -- "in the old order": LEN against the slice, channel, option
  pub other_slice : (option : ℕ) → Resetting option → (len : ℕ) (bytes : List ℕ) → length bytes < 256 → (length bytes ≡ len → ⊥)
      → reply card room (0xA0 ∷ channel ∷ option ∷ len ∷ bytes) ≡ sent 3 (0xB0 ∷ 0 ∷ []) card
  pub other_channel : (option : ℕ) → Resetting option → (p1 : ℕ) → channels ≤ p1 → (bytes : List ℕ) → length bytes < 256
      → reply card room (0xA0 ∷ p1 ∷ option ∷ length bytes ∷ bytes) ≡ sent 6 (0xB8 ∷ 0 ∷ []) card
  pub other_option : (option : ℕ) → (bit_and option 0x7E ≡ 0 → ⊥) → (bytes : List ℕ) → length bytes < 256
      → reply card room (0xA0 ∷ channel ∷ option ∷ length bytes ∷ bytes) ≡ sent 7 (0xB4 ∷ 0 ∷ []) card
  -- "LEN other than 2 with option 01h is 3, B0h", whatever the address; "an unknown address is 6, BAh"
  pub other_length : (option : ℕ) → Resetting option → (bytes : List ℕ) → length bytes < 256 → (length bytes ≡ 2 → ⊥)
      → reply card room (0xA0 ∷ channel ∷ option ∷ length bytes ∷ bytes) ≡ sent 3 (0xB0 ∷ 0 ∷ []) card
  pub other_address : (option : ℕ) → Resetting option → (low high : ℕ) → (low + 256 * high ≡ 0x1110 → ⊥) → (low + 256 * high ≡ 0x1120 → ⊥)
      → reply card room (0xA0 ∷ channel ∷ option ∷ 2 ∷ low ∷ high ∷ []) ≡ sent 6 (0xBA ∷ 0 ∷ []) card
