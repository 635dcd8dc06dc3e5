-- Probes that work: a frame that asks for some, all of them working, is answered with their temperatures and not refused. Assumes nothing.
use Rattle.std.proofs.Common.{ℕ, zero, suc, ◌+◌, ◌/◌, ◌%◌, ◌<◌, Result, Ok, Err, ◌≡◌, refl, ap, Bool, true, false, not, List, [], ◌∷◌, ◌++◌, add-zero, zero-add, arith, eqb, length, get_or}
use borrow.Author.Tests.{eqb-false, not-true}
use Rattle.wire.specs.Choose.{choose}
use Rattle.wire.proofs.Tests.{and_true}
use Rattle.card.specs.Numbers.{answered}
use Rattle.card.specs.Layout.{Card, channels}
use Rattle.card.specs.Probe.{fault_code}
use Rattle.card.specs.Reply.{WordsReply, Answer, on_words, sent, shell, room_least, leaving}
use Rattle.card.proofs.Probes.{temperature_read}
use Rattle.lucid.specs.Form.{channels_from, demand, ok}
use Rattle.lucid.specs.Frame.{asked}
use Rattle.lucid.specs.Answer.{Values, Held, joined, group, value_of, read, obeyed, lucid_reply, named, reads_probe, asks_probe}
use Rattle.lucid.specs.declared.frame.Order.{Order}
use Rattle.lucid.specs.declared.frame.Order.TheVariants.{GetIo, SetIo, GetParam, SetParam, Reset}
use Rattle.lucid.specs.declared.frame.Refusal.{Refusal}
use Rattle.lucid.proofs.Writes.{value_probe}

-- values that are held: no probe among them failed
abbrev IsHeld : Values → Type 0
IsHeld v = (bytes : List ℕ) × (v ≡ Held bytes)

joined_held : (a b : Values) → IsHeld a → IsHeld b → IsHeld (joined a b)
unfolding joined
joined_held a b p q = (p.0 ++ q.0, rw (p.1, q.1))

group_held : (value : ℕ → Values) (n k mask : ℕ) → ((channel : ℕ) → channel < n → named channel mask ≡ true → IsHeld (value (k + channel))) → IsHeld (group value (channels_from n k mask))
unfolding channels_from named group choose
group_held value zero k mask held = none
  where
    none : IsHeld (group value [])
    none = ([], refl)
group_held value (suc n) k mask held =
    by (eqb (mask % 2) 1) refl
    (group_held value n (suc k) (mask / 2)
    (λ channel h b. let m : k + suc channel ≡ suc k + channel = omega arith in rw m at (held (suc channel) (omega arith) b)))
  where
    by : (t : Bool) → eqb (mask % 2) 1 ≡ t → IsHeld (group value (channels_from n (suc k) (mask / 2))) → IsHeld (group value (channels_from (suc n) k mask))
    by true e rest = let here : IsHeld (value k) = rw add-zero at (held zero (omega arith) e) in rw e (joined_held (value k) _ here rest)
    by false e rest = rw e rest

value_held : (ws memory : List ℕ) (valueType channel : ℕ) → (valueType ≡ demand → ⊥) → get_or memory channel 0 < fault_code → IsHeld (value_of ws memory valueType channel)
value_held ws memory valueType channel n h = (_, value_probe ws memory valueType channel _ n (temperature_read (get_or memory channel 0) h).taken)

-- an answer that is given: 0, and OK for a status
abbrev IsGiven : Answer → Type 0
IsGiven a = (rest : List ℕ) × (a ≡ record { number = answered; bytes = ok ∷ rest })

read_given : (v : Values) → IsHeld v → IsGiven (read v)
unfolding read
read_given v p = (length p.0 ∷ p.0, rw p.1)

order_works : (ws memory f : List ℕ) (order : Result Order Refusal) (channel : ℕ) → reads_probe order channel ≡ true → ((k : ℕ) → k < channels → reads_probe order k ≡ true → get_or memory k 0 < fault_code)
    → (rest : List ℕ) × (obeyed ws memory f order ≡ leaving ws (record { number = answered; bytes = ok ∷ rest }))
unfolding obeyed reads_probe
order_works ws memory f (Err refusal) channel r works = ([], cc)
order_works ws memory f (Ok (GetIo valueType mask)) channel r works =
    let b = and_true (not (eqb valueType demand)) (named channel mask) r in
    let other = eqb-false valueType demand (not-true _ b.0) in
    let g = read_given _ (group_held (value_of ws memory valueType) channels 0 mask (λ k h n. rw zero-add (value_held ws memory valueType k other (works k h (rw (b.0, n)))))) in
    (g.0, ap (leaving ws) g.1)
order_works ws memory f (Ok (SetIo mask)) channel r works = ([], cc)
order_works ws memory f (Ok (GetParam place)) channel r works = ([], cc)
order_works ws memory f (Ok (SetParam place saved value)) channel r works = ([], cc)
order_works ws memory f (Ok (Reset place saved)) channel r works = ([], cc)

-- every probe asked for works: unless 12 or 11 comes first, 0 and OK with the temperatures
pub works : (card : Card) (room : ℕ) (f : List ℕ) (channel : ℕ) → asks_probe f channel ≡ true → ((k : ℕ) → k < channels → asks_probe f k ≡ true → get_or card.memory k 0 < fault_code)
    → (rest : List ℕ) × (lucid_reply card room f ≡ shell room_least card room (sent answered (ok ∷ rest) card))
unfolding lucid_reply asks_probe
works card room f channel a all =
    let o = order_works card.words card.memory f (asked f) channel a all in
    (o.0, ap (λ (r : WordsReply). shell room_least card room (on_words card r)) o.1)
