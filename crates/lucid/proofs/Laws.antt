-- What holds of every LucidControl reply: a refusal changes no table; a failed probe is answered by the fault reply, a group's too; the
-- reply depends on the probes asked for alone. Assumes nothing.
use Rattle.std.proofs.Common.{Result, Ok, Err, ◌≡◌, refl, ap, Bool, true, false, not, List, [], ◌∷◌, ℕ, zero, suc, ◌+◌, ◌*◌, ◌/◌, ◌%◌, ◌^◌, ◌≤◌, ◌<◌, add-zero, zero-add, not-suc-le-zero, le_of_suc-le-suc, arith, le-leb, eqb, eqb→eq, get_or}
use borrow.Author.Tests.{eqb-false, not-true}
use Rattle.wire.proofs.Tests.{and_true}
use Rattle.wire.specs.Choose.{choose}
use Rattle.wire.proofs.Cases.{by_choice}
use Rattle.wire.specs.Word.{minus, word_values}
use Rattle.card.specs.Numbers.{probe_fault}
use Rattle.card.specs.Layout.{Card, channels}
use Rattle.card.specs.Fitness.{fit}
use Rattle.card.specs.Probe.{fault_code, reading_of, tenths_of}
use Rattle.card.specs.Reply.{WordsReply, on_words, sent, shell, room_least, Keeps, leaving}
use Rattle.card.specs.declared.probe.Reading.TheVariants.{Fault}
use Rattle.card.proofs.Replies.{shell_keeps}
use Rattle.wire.proofs.Sweep.{at, by_four}
use Rattle.lucid.specs.Form.{channels_from, channels_of, demand}
use Rattle.lucid.specs.Frame.{asked}
use Rattle.lucid.specs.Answer.{Values, Held, Failed, joined, group, hundredths_of, value_of, read, faulted, obeyed, lucid_reply, named, reads_probe, asks_probe}
use Rattle.lucid.specs.declared.frame.Order.{Order}
use Rattle.lucid.specs.declared.frame.Order.TheVariants.{GetIo, SetIo, GetParam, SetParam, Reset}
use Rattle.lucid.specs.declared.frame.Refusal.{Refusal}
use Rattle.lucid.proofs.Writes.{value_fault}

obeyed_keeps : (card : Card) (f : List ℕ) (order : Result Order Refusal) → Keeps card (on_words card (obeyed card.words card.memory f order))
unfolding obeyed
obeyed_keeps card f (Err refusal) = record { kept = λ _. refl }
obeyed_keeps card f (Ok (GetIo valueType mask)) = record { kept = λ _. refl }
obeyed_keeps card f (Ok (SetIo mask)) = record { kept = λ h. let z : ⊥ = omega arith in absurd z }
obeyed_keeps card f (Ok (GetParam place)) = record { kept = λ _. refl }
obeyed_keeps card f (Ok (SetParam place saved value)) = record { kept = λ h. let z : ⊥ = omega arith in absurd z }
obeyed_keeps card f (Ok (Reset place saved)) = record { kept = λ h. let z : ⊥ = omega arith in absurd z }

-- the entry on a fit card with room for the answer
pub replied : (card : Card) (room : ℕ) (f : List ℕ) → fit card ≡ true → room_least ≤ room → lucid_reply card room f ≡ on_words card (obeyed card.words card.memory f (asked f))
unfolding lucid_reply shell choose
replied card room f h l = rw (h, le-leb room_least room l)

-- "Numbers 2 to 14 change no table"
pub keeps : (card : Card) (room : ℕ) (f : List ℕ) → Keeps card (lucid_reply card room f)
unfolding lucid_reply
keeps card room f = shell_keeps room_least card room _ (obeyed_keeps card f (asked f))

joined_failed : (g : Values) → joined g Failed ≡ Failed
unfolding joined
joined_failed (Held bytes) = refl
joined_failed Failed = refl

-- "One failed probe refuses a whole group": a channel of the n from k on
group_fault : (value : ℕ → Values) (n k mask channel : ℕ) → channel < n → named channel mask ≡ true → value (k + channel) ≡ Failed → group value (channels_from n k mask) ≡ Failed
unfolding channels_from named group joined choose
group_fault value zero k mask channel h b e = absurd (not-suc-le-zero h)
group_fault value (suc n) k mask zero h b e = here (rw add-zero at e)
  where
    here : value k ≡ Failed → group value (channels_from (suc n) k mask) ≡ Failed
    here d = rw (b, d)
group_fault value (suc n) k mask (suc channel) h b e =
    let m : suc k + channel ≡ k + suc channel = omega arith in
    let rest = group_fault value n (suc k) (mask / 2) channel (le_of_suc-le-suc h) b (rw m e) in
    by_choice (λ (ks : List ℕ). group value ks ≡ Failed) (eqb (mask % 2) 1) _ _ (λ _. more rest) (λ _. rest)
  where
    more : group value (channels_from n (suc k) (mask / 2)) ≡ Failed → group value (k ∷ channels_from n (suc k) (mask / 2)) ≡ Failed
    more r = rw r (joined_failed (value k))

order_fault : (ws memory f : List ℕ) (order : Result Order Refusal) (channel : ℕ) → channel < channels → reads_probe order channel ≡ true → get_or memory channel 0 ≡ fault_code
    → obeyed ws memory f order ≡ leaving ws faulted
unfolding obeyed reads_probe read reading_of choose
order_fault ws memory f (Err refusal) channel h r code = cc
order_fault ws memory f (Ok (GetIo valueType mask)) channel h r code =
    let b = and_true (not (eqb valueType demand)) (named channel mask) r in
    let reading : reading_of (get_or memory channel 0) ≡ Fault = ap reading_of code in
    let failed = value_fault ws memory valueType channel (eqb-false valueType demand (not-true _ b.0)) reading in
    ap (λ (g : Values). leaving ws (read g)) (group_fault (value_of ws memory valueType) channels 0 mask channel h b.1 (rw zero-add failed))
order_fault ws memory f (Ok (SetIo mask)) channel h r code = cc
order_fault ws memory f (Ok (GetParam place)) channel h r code = cc
order_fault ws memory f (Ok (SetParam place saved value)) channel h r code = cc
order_fault ws memory f (Ok (Reset place saved)) channel h r code = cc

-- the probe of a channel at fault, asked for alone or in a group: unless 12 or 11 comes first, the fault reply (9, D0h) and nothing else
pub fault : (card : Card) (room : ℕ) (f : List ℕ) (channel : ℕ) → channel < channels → asks_probe f channel ≡ true → get_or card.memory channel 0 ≡ fault_code
    → lucid_reply card room f ≡ shell room_least card room (sent probe_fault faulted.bytes card)
unfolding lucid_reply asks_probe
fault card room f channel h a code =
    ap (λ (r : WordsReply). shell room_least card room (on_words card r)) (order_fault card.words card.memory f (asked f) channel h a code)

-- two memories that agree on the probes asked for
pub group_same : (value value' : ℕ → Values) (n k mask : ℕ) → ((channel : ℕ) → channel < n → named channel mask ≡ true → value (k + channel) ≡ value' (k + channel))
    → group value (channels_from n k mask) ≡ group value' (channels_from n k mask)
unfolding channels_from named group choose
group_same value value' zero k mask same = none
  where
    none : group value [] ≡ group value' []
    none = refl
group_same value value' (suc n) k mask same =
    by (eqb (mask % 2) 1) refl
    (group_same value value' n (suc k) (mask / 2)
    (λ channel h b. let m : k + suc channel ≡ suc k + channel = omega arith in rw m at (same (suc channel) (omega arith) b)))
  where
    by : (t : Bool) → eqb (mask % 2) 1 ≡ t → group value (channels_from n (suc k) (mask / 2)) ≡ group value' (channels_from n (suc k) (mask / 2))
        → group value (channels_from (suc n) k mask) ≡ group value' (channels_from (suc n) k mask)
    by true e rest = let here : value k ≡ value' k = rw add-zero at (same zero (omega arith) e) in rw (e, here, rest)
    by false e rest = rw (e, rest)

value_same : (ws memory memory' : List ℕ) (valueType channel : ℕ) → (eqb valueType demand ≡ false → get_or memory channel 0 ≡ get_or memory' channel 0)
    → value_of ws memory valueType channel ≡ value_of ws memory' valueType channel
unfolding value_of choose
value_same ws memory memory' valueType channel same = by (eqb valueType demand) refl
  where
    by : (t : Bool) → eqb valueType demand ≡ t → value_of ws memory valueType channel ≡ value_of ws memory' valueType channel
    by true e = rw e
    by false e = rw (e, same e)

order_same : (ws memory memory' f : List ℕ) (order : Result Order Refusal) → ((channel : ℕ) → channel < channels → reads_probe order channel ≡ true → get_or memory channel 0 ≡ get_or memory' channel 0)
    → obeyed ws memory f order ≡ obeyed ws memory' f order
unfolding obeyed reads_probe
order_same ws memory memory' f (Err refusal) same = refl
order_same ws memory memory' f (Ok (GetIo valueType mask)) same =
    ap (λ (g : Values). leaving ws (read g))
    (group_same (value_of ws memory valueType) (value_of ws memory' valueType) channels 0 mask
    (λ channel h b. rw zero-add (value_same ws memory memory' valueType channel (λ e. same channel h (rw (e, b))))))
order_same ws memory memory' f (Ok (SetIo mask)) same = refl
order_same ws memory memory' f (Ok (GetParam place)) same = refl
order_same ws memory memory' f (Ok (SetParam place saved value)) same = refl
order_same ws memory memory' f (Ok (Reset place saved)) same = refl

-- the reply depends on the codes of the probes asked for, and on no other byte of the memory
pub asked_alone : (ws memory memory' f : List ℕ) → ((channel : ℕ) → channel < channels → asks_probe f channel ≡ true → get_or memory channel 0 ≡ get_or memory' channel 0)
    → obeyed ws memory f (asked f) ≡ obeyed ws memory' f (asked f)
unfolding asks_probe
asked_alone ws memory memory' f same = order_same ws memory memory' f (asked f) same

-- the mask of GetIo and SetIo names channel P1 alone
pub one_channel : (channel : ℕ) → channel < channels → channels_of (2 ^ channel) ≡ channel ∷ []
unfolding channels_from choose
one_channel channel h = by_four (λ k. channels_of (2 ^ k) ≡ k ∷ []) refl refl refl refl channel h

-- a code 0 to 254 is (50 × code − 4,000) hundredths, as a word
pub hundredths_of_code : (code : ℕ) → code < fault_code → (hundredths_of (record { 0 = tenths_of code })).0 ≡ (50 * code + minus 4000) % word_values
unfolding hundredths_of tenths_of
hundredths_of_code code h = eqb→eq _ _ (at (λ n. eqb (hundredths_of (record { 0 = tenths_of n })).0 ((50 * n + minus 4000) % word_values)) fault_code tt code h)
