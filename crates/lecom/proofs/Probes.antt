-- What an answer shows of the probes: a read of a probe is answered by its reading, and no reply depends on another probe. Assumes nothing.
use Rattle.std.proofs.Common.{Result, Ok, Err, ◌≡◌, ℕ, ◌<◌, List, [], ◌∷◌, ◌++◌, get_or, refl, ap}
use Rattle.wire.specs.Choose.{choose}
use Rattle.card.specs.Numbers.{answered, done, probe_fault}
use Rattle.card.specs.Layout.{Card, channels}
use Rattle.card.specs.Probe.{reading_of}
use Rattle.card.specs.Reply.{on_words, shell, room_least, leaving}
use Rattle.card.specs.declared.probe.Tenths.{Tenths}
use Rattle.card.specs.declared.probe.Reading.TheVariants.{Temperature, Fault}
use Rattle.lecom.specs.Form.{stx, nak}
use Rattle.lecom.specs.Frame.{collective, bcc_of, asked}
use Rattle.lecom.specs.Stages.{Sound}
use Rattle.lecom.specs.Answer.{value_body, value_bytes, refusal_bytes, quietly, done_by, refused_by, probe_answer, read_answer, obeyed, address_of, lecom_reply}
use Rattle.lecom.specs.declared.form.Named.TheVariants.{Register, Probe, Activate, Store}
use Rattle.lecom.specs.declared.frame.Order.{Order}
use Rattle.lecom.specs.declared.frame.Order.TheVariants.{Read, Write}
use Rattle.lecom.specs.declared.frame.Refusal.{Refusal}
use Rattle.lecom.specs.declared.frame.Refusal.TheVariants.{Silent, Refused}
use Rattle.lecom.proofs.Frames.{asked_sound}

-- a read of a probe is answered by its reading, unless 12 or 11 comes first
pub probe_read : (card : Card) (room : ℕ) (f : List ℕ) (channel : ℕ) → asked (address_of card.words) f ≡ Ok (Read (Probe channel))
    → lecom_reply card room f ≡ shell room_least card room (on_words card (leaving card.words (probe_answer f (reading_of (get_or card.memory channel 0)))))
unfolding lecom_reply obeyed read_answer
probe_read card room f channel order = rw order

-- the fault is answered by 9 and NAK, to a collective address by 9 alone
pub fault_answer : (f : List ℕ) → probe_answer f Fault ≡ choose (collective f) (quietly probe_fault) (record { number = probe_fault; bytes = nak ∷ [] })
unfolding probe_answer refused_by refusal_bytes choose
fault_answer f = refl

-- a temperature by 0 and a text that begins with STX, to a collective address by 1 alone
pub temperature_answer : (f : List ℕ) (tenths : Tenths) → (rest : List ℕ) × (probe_answer f (Temperature tenths) ≡ choose (collective f) (quietly done) (record { number = answered; bytes = stx ∷ rest }))
unfolding probe_answer done_by value_bytes
temperature_answer f tenths = (value_body f tenths.0 ++ (bcc_of (value_body f tenths.0) ∷ []), refl)

order_alone : (words memory memory' f : List ℕ) (o : Result Order Refusal) → Sound f o → ((channel : ℕ) → channel < channels → o ≡ Ok (Read (Probe channel)) → get_or memory channel 0 ≡ get_or memory' channel 0)
    → obeyed words memory f o ≡ obeyed words memory' f o
unfolding obeyed read_answer
order_alone words memory memory' f (Err (Silent number)) s same = refl
order_alone words memory memory' f (Err (Refused number)) s same = refl
order_alone words memory memory' f (Ok (Read (Register k))) s same = refl
order_alone words memory memory' f (Ok (Read (Probe channel))) s same = ap (λ (code : ℕ). leaving words (probe_answer f (reading_of code))) (same channel s.1 refl)
order_alone words memory memory' f (Ok (Read Activate)) s same = refl
order_alone words memory memory' f (Ok (Read Store)) s same = refl
order_alone words memory memory' f (Ok (Write named value)) s same = refl

-- the reply depends on the code of the probe asked for, and on no other byte of the memory
pub asked_alone : (words memory memory' f : List ℕ) → ((channel : ℕ) → channel < channels → asked (address_of words) f ≡ Ok (Read (Probe channel)) → get_or memory channel 0 ≡ get_or memory' channel 0)
    → obeyed words memory f (asked (address_of words) f) ≡ obeyed words memory' f (asked (address_of words) f)
asked_alone words memory memory' f = order_alone words memory memory' f (asked (address_of words) f) (asked_sound f (address_of words))
