-- The answer as it is written: status and LEN before its data, a number's bytes, and the values of a group, which grow channel by channel until
-- one failed probe refuses them all. Assumes nothing.
use Rattle.std.proofs.Common.{◌≡◌, refl, sym, ap, ◌∙◌, true, false, List, [], ◌∷◌, ◌++◌, append_assoc, append-nil, ℕ, zero, suc, ◌+◌, ◌/◌, ◌≤◌, ◌<◌, arith, eq-eqb, ne_eqb, length, get_or, take, drop, set, length-append, take_at, length-take-le}
use Rattle.std.specs.Int.{w32, to_le_bytes}
use Rattle.wire.specs.Buffer.{put}
use Rattle.wire.proofs.Cases.{yes, no, by_choice}
use Rattle.card.specs.Layout.{channels, demands_at}
use Rattle.card.specs.Probe.{reading_of}
use Rattle.card.specs.Reply.{Told}
use Rattle.card.proofs.Replies.{wrote_one, wrote_set, wrote_put}
use Rattle.card.specs.declared.probe.Tenths.{Tenths}
use Rattle.card.specs.declared.probe.Reading.TheVariants.{Temperature, Fault}
use Rattle.lucid.specs.Form.{demand, demand_size, tenths_size, hundredths_size, little}
use Rattle.lucid.specs.Answer.{Values, Held, Failed, joined, group, temperature_in, hundredths_of, reading_in, value_of, told, named}
use Rattle.lucid.proofs.Channels.{channels_left, channels_named, channels_passed, channels_done}

-- status, LEN and the data, one after another
pub wrote_told : (number status : ℕ) (bytes out : List ℕ) (len : ℕ) → 2 ≤ length out → len ≡ length bytes → Told (told number status bytes) out number (2 + len) (put (set (set out 0 status) 1 len) 2 bytes)
wrote_told number status bytes out len h e =
    record { numbered = refl; wrote = rw e (wrote_put (status ∷ length bytes ∷ []) out (wrote_set (status ∷ []) out (wrote_one status out (omega arith)) (length bytes) (omega arith)) bytes) }

pub length_little : (n x : ℕ) → length (little n x) ≡ n
unfolding little
length_little zero x = refl
length_little (suc n) x = ap suc (length_little n (x / 256))

-- a word's bytes, and its low two
pub word_little : (x : ℕ) → to_le_bytes w32 x ≡ little 4 x
unfolding little
word_little x =
    let third : x / 256 / 256 ≡ x / 65536 = omega arith in
    let fourth : x / 65536 / 256 ≡ x / 16777216 = omega arith in
    rw (third, fourth)

pub pair_little : (x : ℕ) → take 2 (to_le_bytes w32 x) ≡ little 2 x
unfolding little
pair_little x = refl

-- bytes put behind those held
pub put_held : (n : ℕ) (buffer bytes : List ℕ) → n + length bytes ≤ length buffer → take (n + length bytes) (put buffer n bytes) ≡ take n buffer ++ bytes
unfolding put
put_held n buffer bytes h =
    let l : length (take n buffer ++ bytes) ≡ n + length bytes = length-append (take n buffer) bytes ∙ ap (λ (k : ℕ). k + length bytes) (length-take-le n buffer (omega arith)) in
    rw (← append_assoc (take n buffer) bytes (drop (n + length bytes) buffer)) (take_at (take n buffer ++ bytes) (drop (n + length bytes) buffer) (n + length bytes) l)

pub joined_none : (g : Values) → joined (Held []) g ≡ g
unfolding joined
joined_none (Held b) = refl
joined_none Failed = refl

joined_more : (a b : List ℕ) (g : Values) → joined (Held (a ++ b)) g ≡ joined (Held a) (joined (Held b) g)
unfolding joined
joined_more a b (Held d) = ap Held (append_assoc a b d)
joined_more a b Failed = refl

module _ (value : ℕ → Values) (channel mask : ℕ) (h : channel < channels) where
  -- a channel that is named, and its value put after those held
  pub group_grew : (held bytes : List ℕ) → named channel mask ≡ true → value channel ≡ Held bytes
      → joined (Held (held ++ bytes)) (group value (channels_left (channel + 1) mask)) ≡ joined (Held held) (group value (channels_left channel mask))
  unfolding group
  group_grew held bytes e i = rw (channels_named channel mask h e, i) (joined_more held bytes (group value (channels_left (channel + 1) mask)))

  -- one that is not named
  pub group_passed : (held : List ℕ) → named channel mask ≡ false
      → joined (Held held) (group value (channels_left (channel + 1) mask)) ≡ joined (Held held) (group value (channels_left channel mask))
  group_passed held e = rw (channels_passed channel mask h e)

  -- one whose probe failed
  pub group_failed : (held : List ℕ) → named channel mask ≡ true → value channel ≡ Failed → joined (Held held) (group value (channels_left channel mask)) ≡ Failed
  unfolding group joined
  group_failed held e i = rw (channels_named channel mask h e, i)

-- after the last channel
pub group_done : (value : ℕ → Values) (channel mask : ℕ) (held : List ℕ) → channels ≤ channel → joined (Held held) (group value (channels_left channel mask)) ≡ Held held
unfolding group joined
group_done value channel mask held h = rw (channels_done channel mask h) (ap Held (append-nil held))

module _ (ws memory : List ℕ) (valueType channel : ℕ) where
  pub value_demand : valueType ≡ demand → value_of ws memory valueType channel ≡ Held (little demand_size (get_or ws (demands_at + channel) 0))
  unfolding value_of
  value_demand e = sym (yes _ _ _ _ (eq-eqb valueType demand e) refl)

  pub value_probe : (t : Tenths) → (valueType ≡ demand → ⊥) → reading_of (get_or memory channel 0) ≡ Temperature t → value_of ws memory valueType channel ≡ Held (temperature_in valueType t)
  unfolding value_of reading_in
  value_probe t n e = sym (no _ _ _ _ (ne_eqb valueType demand n) (ap (reading_in valueType) (sym e)))

  pub value_fault : (valueType ≡ demand → ⊥) → reading_of (get_or memory channel 0) ≡ Fault → value_of ws memory valueType channel ≡ Failed
  unfolding value_of reading_in
  value_fault n e = sym (no _ _ _ _ (ne_eqb valueType demand n) (ap (reading_in valueType) (sym e)))

-- a temperature takes four bytes at most
pub length_temperature : (valueType : ℕ) (t : Tenths) → length (temperature_in valueType t) ≤ hundredths_size
unfolding temperature_in
length_temperature valueType t =
    by_choice (λ (b : List ℕ). length b ≤ hundredths_size) _ _ _ (λ _. omega (arith, length_little tenths_size t.0)) (λ _. omega (arith, length_little hundredths_size (hundredths_of t).0))
