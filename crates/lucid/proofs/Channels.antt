-- The channels that a mask names. Assumes nothing.
use Rattle.std.proofs.Common.{◌≡◌, refl, sym, ◌∙◌, List, [], ◌∷◌, true, false, ℕ, zero, suc, ◌+◌, ◌-◌, ◌/◌, ◌%◌, ◌^◌, ◌≤◌, ◌<◌, add-zero, count_ones, add-one, arith, eqb-true, eqb, length}
use Rattle.std.specs.Int.Bits.{bit_and}
use Rattle.std.specs.Int.Count.{ones}
use Rattle.std.proofs.lemmas.Nat.{shr-shr, and_mask}
use Rattle.wire.proofs.Sweep.{swept}
use borrow.Author.Tests.{eqb-false}
use Rattle.wire.proofs.Cases.{by_choice, yes, no}
use Rattle.card.specs.Layout.{channels}
use Prim.{tt}
use Rattle.lucid.specs.Form.{mask_most, channels_from, channels_of}
use Rattle.lucid.specs.Answer.{named}

-- one bit more
length_next : (n k mask : ℕ) → length (channels_from (suc n) k mask) ≡ mask % 2 + length (channels_from n (suc k) (mask / 2))
unfolding channels_from
length_next n k mask =
    by_choice (λ (l : List ℕ). length l ≡ mask % 2 + length (channels_from n (suc k) (mask / 2))) (eqb (mask % 2) 1) _ _
    (λ e. omega (arith, eqb-true (mask % 2) 1 e))
    (λ e. let h = eqb-false (mask % 2) 1 e in omega arith)

sum_of_four : (a b d e k l m n : ℕ) → k ≡ a + l → l ≡ b + m → m ≡ d + n → n ≡ e → k ≡ a + b + d + e
sum_of_four a b d e k l m n h i j o = omega arith

-- how many they are
pub count_channels : (mask : ℕ) → length (channels_of mask) ≡ mask % 2 + mask / 2 % 2 + mask / 4 % 2 + mask / 8 % 2
unfolding channels_from
count_channels mask =
    let quarter : mask / 2 / 2 ≡ mask / 4 = omega arith in
    let eighth : mask / 4 / 2 ≡ mask / 8 = omega arith in
    sum_of_four (mask % 2) (mask / 2 % 2) (mask / 4 % 2) (mask / 8 % 2) _ (length (channels_from 3 1 (mask / 2))) (length (channels_from 2 2 (mask / 4))) (length (channels_from 1 3 (mask / 8)))
    (length_next 3 0 mask)
    (length_next 2 1 (mask / 2) ∙ rw quarter)
    (length_next 1 2 (mask / 4) ∙ rw eighth)
    (length_next 0 3 (mask / 8) ∙ add-zero (mask / 8 % 2))

-- the ones among the four low bits
ones_of_four : (m : ℕ) → m < 16 → count_ones m ≡ m % 2 + m / 2 % 2 + m / 4 % 2 + m / 8 % 2
unfolding ones
ones_of_four m h = eqb-true _ _ (swept (λ k. eqb (count_ones k) (k % 2 + k / 2 % 2 + k / 4 % 2 + k / 8 % 2)) 16 tt m h)

pub count_ones_channels : (mask : ℕ) → (count_ones (bit_and mask mask_most) ≡ length (channels_of mask)) × (count_ones (bit_and mask mask_most) ≤ channels)
count_ones_channels mask =
    let low : bit_and mask mask_most ≡ mask % 16 = and_mask mask 4 in
    let ones = ones_of_four (mask % 16) (omega arith) in
    let bits : count_ones (mask % 16) ≡ mask % 2 + mask / 2 % 2 + mask / 4 % 2 + mask / 8 % 2 = omega arith in
    rw low (bits ∙ sym (count_channels mask), omega arith)

-- the channel's bit by a shift
pub named_bit : (channel mask : ℕ) → named channel mask ≡ eqb (mask / 2 ^ channel % 2) 1
unfolding named
named_bit zero mask = let e : mask / 1 ≡ mask = omega arith in rw e
named_bit (suc channel) mask = let e : 1 + channel ≡ suc channel = omega arith in named_bit channel (mask / 2) ∙ rw (shr-shr mask 1 channel, e)

-- the channels still to come, from a channel on
abbrev pub channels_left : ℕ → ℕ → List ℕ
channels_left channel mask = channels_from (channels - channel) channel (mask / 2 ^ channel)

module _ (channel mask : ℕ) (h : channel < channels) where
  one_fewer : channels - channel ≡ suc (channels - (channel + 1))
  one_fewer = omega arith

  -- the channel is named
  pub channels_named : named channel mask ≡ true → channels_left channel mask ≡ channel ∷ channels_left (channel + 1) mask
  unfolding channels_from
  channels_named e = rw (one_fewer, ← shr-shr mask channel 1, add-one) (sym (yes _ _ _ _ (sym (named_bit channel mask) ∙ e) refl))

  -- it is not
  pub channels_passed : named channel mask ≡ false → channels_left channel mask ≡ channels_left (channel + 1) mask
  unfolding channels_from
  channels_passed e = rw (one_fewer, ← shr-shr mask channel 1, add-one) (sym (no _ _ _ _ (sym (named_bit channel mask) ∙ e) refl))

-- all are still to come before the first
pub channels_first : (mask : ℕ) → channels_left 0 mask ≡ channels_of mask
channels_first mask = let e : mask / 1 ≡ mask = omega arith in rw e

-- none is left after the last
pub channels_done : (channel mask : ℕ) → channels ≤ channel → channels_left channel mask ≡ []
unfolding channels_from
channels_done channel mask h = let e : channels - channel ≡ 0 = omega arith in rw e
