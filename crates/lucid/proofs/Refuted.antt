-- `OneReset` says something: for each part a wrong meaning that breaks it. Assumes nothing.
use Rattle.std.proofs.Common.{ℕ, ◌+◌, ◌≡◌, refl, ap, true, inl, List, [], ◌∷◌, arith, get_or, set}
use borrow.Author.Tests.{eqb-false}
use Rattle.wire.specs.Buffer.{same}
use Rattle.wire.specs.Choose.{choose}
use Rattle.wire.proofs.Computed as wire
use Rattle.card.specs.Layout.{Card, with_words, parameters_at, saved_parameters_at}
use Rattle.card.specs.Fitness.{fit}
use Rattle.card.specs.Reply.{Reply, sent, room_least}
use Rattle.card.specs.Start.{start_words, start_card}
use Rattle.card.proofs.Computed as card
use Rattle.lucid.specs.Answer.{lucid_reply}
use Rattle.lucid.specs.Resets.{OneReset}

-- the site's card: 1110h and 1120h of channel 1, and their saved copies
abbrev cycle_at : ℕ
cycle_at = parameters_at + 2

abbrev floor_at : ℕ
floor_at = parameters_at + 3

abbrev saved_cycle_at : ℕ
saved_cycle_at = saved_parameters_at + 2

abbrev saved_floor_at : ℕ
saved_floor_at = saved_parameters_at + 3

abbrev site_words : List ℕ
site_words = set (set (set (set start_words cycle_at 1000) floor_at 6) saved_cycle_at 1000) saved_floor_at 6

abbrev site : Card
site = with_words start_card site_words

-- a fit card, for which `lucid_reply` meets the claim
pub site_fit : fit site ≡ true
unfolding wire.computed card.computed
site_fit = refl

-- a meaning that answers one frame otherwise
abbrev wrongly : List ℕ → Reply → Card → ℕ → List ℕ → Reply
wrongly frame reply card room f = choose (same f frame) reply (lucid_reply card room f)

-- and as done, with these words
abbrev leaves : List ℕ → List ℕ → Card → ℕ → List ℕ → Reply
leaves frame words = wrongly frame (sent 0 (0x00 ∷ 0 ∷ []) (with_words site words))

-- a reply's number, and a word of the card that it leaves
abbrev number_of : Reply → ℕ
number_of reply = reply.number

abbrev word_at : ℕ → Reply → ℕ
word_at k reply = get_or reply.card.words k 0

-- both parameters reset, as document 01 had it
pub refute_both : OneReset (leaves (0xA0 ∷ 1 ∷ 0x01 ∷ 2 ∷ 0x10 ∷ 0x11 ∷ []) (set (set site_words cycle_at 1000000) floor_at 0)) site room_least 1 → ⊥
unfolding same choose
refute_both o = eqb-false 0 6 refl (ap (word_at floor_at) o.cycle)

-- 81h keeps the saved copy
pub refute_kept : OneReset (leaves (0xA0 ∷ 1 ∷ 0x81 ∷ 2 ∷ 0x10 ∷ 0x11 ∷ []) (set site_words cycle_at 1000000)) site room_least 1 → ⊥
unfolding same choose
refute_kept o = eqb-false 1000 1000000 refl (ap (word_at saved_cycle_at) o.cycle_saved)

-- 01h resets the saved copy too
pub refute_saved : OneReset (leaves (0xA0 ∷ 1 ∷ 0x01 ∷ 2 ∷ 0x20 ∷ 0x11 ∷ []) (set (set site_words floor_at 0) saved_floor_at 0)) site room_least 1 → ⊥
unfolding same choose
refute_saved o = eqb-false 0 6 refl (ap (word_at saved_floor_at) o.floor)

-- the other parameter reset
pub refute_other : OneReset (leaves (0xA0 ∷ 1 ∷ 0x81 ∷ 2 ∷ 0x20 ∷ 0x11 ∷ []) (set (set site_words cycle_at 1000000) saved_cycle_at 1000000)) site room_least 1 → ⊥
unfolding same choose
refute_other o = eqb-false 6 0 refl (ap (word_at floor_at) o.floor_saved)

-- a slice that is longer than LEN taken
pub refute_slice : OneReset (leaves (0xA0 ∷ 1 ∷ 0x01 ∷ 2 ∷ 0x10 ∷ 0x11 ∷ 0 ∷ []) site_words) site room_least 1 → ⊥
unfolding same choose
refute_slice o = eqb-false 0 3 refl (ap number_of (o.other_slice 0x01 (inl refl) 2 (0x10 ∷ 0x11 ∷ 0 ∷ []) (omega arith) (λ e. omega arith)))

-- channel 4 taken
pub refute_channel : OneReset (leaves (0xA0 ∷ 4 ∷ 0x01 ∷ 2 ∷ 0x10 ∷ 0x11 ∷ []) site_words) site room_least 1 → ⊥
unfolding same choose
refute_channel o = eqb-false 0 6 refl (ap number_of (o.other_channel 0x01 (inl refl) 4 (omega arith) (0x10 ∷ 0x11 ∷ []) (omega arith)))

-- option 03h taken
pub refute_option : OneReset (leaves (0xA0 ∷ 1 ∷ 0x03 ∷ 2 ∷ 0x10 ∷ 0x11 ∷ []) site_words) site room_least 1 → ⊥
unfolding same choose
refute_option o = eqb-false 0 7 refl (ap number_of (o.other_option 0x03 (λ e. omega arith) (0x10 ∷ 0x11 ∷ []) (omega arith)))

-- LEN 0 still taken
pub refute_length : OneReset (leaves (0xA0 ∷ 1 ∷ 0x01 ∷ 0 ∷ []) site_words) site room_least 1 → ⊥
unfolding same choose
refute_length o = eqb-false 0 3 refl (ap number_of (o.other_length 0x01 (inl refl) [] (omega arith) (λ e. omega arith)))

-- an unknown address refused, and 1110h reset all the same
pub refute_address : OneReset (wrongly (0xA0 ∷ 1 ∷ 0x01 ∷ 2 ∷ 0x30 ∷ 0x11 ∷ []) (sent 6 (0xBA ∷ 0 ∷ []) (with_words site (set site_words cycle_at 1000000)))) site room_least 1 → ⊥
unfolding same choose
refute_address o = eqb-false 1000000 1000 refl (ap (word_at cycle_at) (o.other_address 0x01 (inl refl) 0x30 0x11 (λ e. omega arith) (λ e. omega arith)))
