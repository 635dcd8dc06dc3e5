-- Love: a card's reply is read as what it answered; and a reply that differs from it in its check characters alone is told by them. Assumes nothing.
use Rattle.std.proofs.Common.{◌≡◌, ℕ, ◌+◌, ◌<◌, ◌≤◌, Bool, true, false, eqb, List, [], ◌∷◌, length, get_or, Result, sym, refl, ap, ◌∙◌, subst, arith, ltb-true, eq-eqb, ne_eqb, le-leb}
use borrow.Author.Tests.{eqb-false}
use Rattle.wire.specs.Choose.{choose}
use Rattle.wire.specs.Word.{word_values}
use Rattle.wire.specs.Sum.{byte_values}
use Rattle.wire.proofs.Buffers.{get_d_front}
use Rattle.wire.proofs.Cases.{yes, no}
use Rattle.wire.proofs.Tests.{both}
use Rattle.figures.specs.Figure.{pair_of}
use Rattle.figures.specs.Decimal.{digits}
use Rattle.card.specs.Numbers.{answered}
use Rattle.card.specs.Layout.{Card, love_at, love_count}
use Rattle.card.specs.Fitness.{fit, in_range}
use Rattle.card.specs.Probe.{fault_code, tenths_of, reading_of}
use Rattle.card.specs.Reply.{Reply, on_words, shell, room_least}
use Rattle.card.specs.declared.probe.Reading.{Reading}
use Rattle.card.specs.declared.probe.Reading.TheVariants.{Temperature, Fault as Failed}
use Rattle.card.proofs.Facts.{fit_facts}
use Rattle.card.proofs.Ranges.{words_at}
use Rattle.love.specs.Form.{data_at}
use Rattle.love.specs.Frame.{asked}
use Rattle.love.specs.Answer.{unit_of, normal_reply, written_data, value_data, fault_char, status_data, probe_data, address_of, obeyed, love_reply}
use Rattle.love.specs.declared.frame.Order.{Order}
use Rattle.love.specs.declared.frame.Refusal.{Refusal}
use Rattle.asking.specs.Hearing.{Hearing, heard_by}
use Rattle.asking.specs.Hearing.Hearing.{Gives, Fault}
use Rattle.asking.specs.Steps.{is_temperature}
use Rattle.asking.specs.Claims.{Real, Askable, At, Hears}
use Rattle.asking.proofs.Compared.{against_same}
use Rattle.asking.proofs.Temperatures.{tenths_temperature}
use Rattle.love_master.specs.declared.request.Task.{Task}
use Rattle.love_master.specs.declared.request.Task.TheVariants.{Status, Read, Write}
use Rattle.love_master.specs.declared.request.Request.{Request}
use Rattle.love_master.specs.Request.{task_right, made}
use Rattle.love_master.specs.Heard.{check_back, check_size, heard_data, status_word, heard_status, value_word, heard_value, heard_task, heard}
use Rattle.love_master.specs.Stages.{error_length}
use Rattle.love_master.proofs.Errors.{heard_normal, askable_facts}
use Rattle.love_master.proofs.Shown.{Near, fine_data, normal_length, range_small, temperature_small, value_figures, value_word_law, status_first, status_figures, status_word_law}
use Rattle.masters.specs.Love.{order_of, asked_of, heard_reading, answer_to, love_master}
use Rattle.masters.proofs.LoveMeans.{love_means}

-- past the shell an order decides
pub reply_of_law : (card : Card) (room : ℕ) (f : List ℕ) → fit card ≡ true → room_least ≤ room
    → love_reply card room f ≡ on_words card (obeyed card.words card.memory (asked (address_of card.words) f))
unfolding love_reply shell
reply_of_law card room f t h = sym (yes _ _ _ _ t (yes _ _ _ _ (le-leb room_least room h) refl))

-- the data of a card's answer to a task
unfoldable pub answer_data : Card → Task → List ℕ
answer_data card Status = probe_data (reading_of (get_or card.memory 0 0))
answer_data card (Read place) = value_data (get_or card.words (love_at + place) 0)
answer_data card (Write place value) = written_data

-- the answer that a card gives to a task
abbrev pub answer_bytes : Request → Card → List ℕ
answer_bytes q card = normal_reply q.address (answer_data card q.task)

-- a task that is carried out is answered
obeyed_by : (card : Card) (task : Task)
    → ((obeyed card.words card.memory (order_of task)).number ≡ answered)
    × ((obeyed card.words card.memory (order_of task)).bytes ≡ normal_reply (address_of card.words) (answer_data card task))
unfolding obeyed answer_data
obeyed_by card Status = (refl, refl)
obeyed_by card (Read place) = (refl, refl)
obeyed_by card (Write place value) = (refl, refl)

-- a request is carried out by the card at its address, and answered
pub answered_by : (q : Request) → Askable love_master q → (card : Card) → At love_master q card → (room : ℕ) → room_least ≤ room
    → ((love_reply card room (made q)).number ≡ answered) × ((love_reply card room (made q)).bytes ≡ answer_bytes q card)
unfolding asked_of
answered_by q a card at room h =
    let unit = address_of card.words in
    let o : asked unit (made q) ≡ order_of q.task = (love_means q a).means unit ∙ sym (yes _ _ _ _ (eq-eqb q.address unit (sym at.there)) refl) in
    let e = reply_of_law card room (made q) at.real.fits h ∙ ap (λ (x : Result Order Refusal). on_words card (obeyed card.words card.memory x)) o in
    let b = obeyed_by card q.task in
    (ap (λ (r : Reply). r.number) e ∙ b.0, ap (λ (r : Reply). r.bytes) e ∙ b.1 ∙ ap (λ (n : ℕ). normal_reply n (answer_data card q.task)) at.there)

-- a reply to 00 that shows a fault, and a temperature
fault_of : (address : ℕ) (r : List ℕ) → Near address r (probe_data Failed) → heard_status address r ≡ heard_data address r (probe_data Failed) Fault
unfolding heard_status normal_reply unit_of pair_of probe_data status_data digits
fault_of address r k = sym (yes _ _ _ _ (eq-eqb _ _ (get_d_front r (normal_reply address (probe_data Failed)) (data_at + 8) k.before data_at (omega arith))) refl)

temperature_of : (address : ℕ) (r : List ℕ) (w : ℕ) → w < word_values → is_temperature 1 w ≡ true → Near address r (fine_data w)
    → heard_status address r ≡ heard_data address r (fine_data w) (Gives (w ∷ []))
unfolding heard_status
temperature_of address r w l t k =
    let v : status_word r ≡ w = status_word_law address r w k (temperature_small w l t) l in
    let first : get_or r data_at 0 ≡ fault_char → ⊥ = λ e. omega (arith, e, status_first address r w k) in
    sym (no _ _ _ _ (ne_eqb (get_or r data_at 0) fault_char first)
    (yes _ _ _ _ (both (status_figures address r w k) (ap (is_temperature 1) v ∙ t))
    (sym (ap (λ (x : ℕ). heard_data address r (fine_data x) (Gives (x ∷ []))) v))))

-- a reply to a read
value_of : (address place : ℕ) (r : List ℕ) (w : ℕ) → place < love_count → w < word_values → in_range (love_at + place) w ≡ true → Near address r (value_data w)
    → heard_value address place r ≡ heard_data address r (value_data w) (Gives (w ∷ []))
unfolding heard_value
value_of address place r w h l t k =
    let small = range_small place w h l t in
    let v : value_word r ≡ w = value_word_law address r w k small l in
    sym (yes _ _ _ _ (both (value_figures address r w k small l) (ap (in_range (love_at + place)) v ∙ t))
    (sym (ap (λ (x : ℕ). heard_data address r (value_data x) (Gives (x ∷ []))) v)))

pub tenths_word : (code : ℕ) → tenths_of code < word_values
unfolding tenths_of
tenths_word code = omega arith

-- a reading by its code
pub reading_failed : (code : ℕ) → eqb code fault_code ≡ true → reading_of code ≡ Failed
unfolding reading_of
reading_failed code e = sym (yes _ _ _ _ e refl)

pub reading_fine : (code : ℕ) → eqb code fault_code ≡ false → reading_of code ≡ Temperature (record { 0 = tenths_of code })
unfolding reading_of
reading_fine code e = sym (no _ _ _ _ e refl)

-- a reply to 00, by the reading
reading_of_law : (address : ℕ) (r : List ℕ) (code : ℕ) → code < byte_values → Near address r (probe_data (reading_of code))
    → heard_status address r ≡ heard_data address r (probe_data (reading_of code)) (heard_reading (reading_of code))
reading_of_law address r code h = by (eqb code fault_code) refl
  where
    Of : Reading → Type 0
    Of x = Near address r (probe_data x) → heard_status address r ≡ heard_data address r (probe_data x) (heard_reading x)

    by : (t : Bool) → eqb code fault_code ≡ t → Of (reading_of code)
    by true e = subst Of (sym (reading_failed code e)) (fault_of address r)
    by false e =
        let below : code < fault_code = omega (arith, eqb-false code fault_code e) in
        subst Of (sym (reading_fine code e)) (temperature_of address r (tenths_of code) (tenths_word code) (tenths_temperature code below))

-- a reply by the task
of_task : (card : Card) → Real card → (address : ℕ) (r : List ℕ) (task : Task) → task_right task ≡ true → Near address r (answer_data card task)
    → heard_task address task r ≡ heard_data address r (answer_data card task) (answer_to card task)
unfolding heard_task answer_data task_right
of_task card real address r Status t k = reading_of_law address r (get_or card.memory 0 0) (real.bytes 0) k
of_task card real address r (Read place) t k =
    let f = fit_facts card real.fits in
    let l = ltb-true place love_count t in
    value_of address place r (get_or card.words (love_at + place) 0) l (real.words (love_at + place)) (words_at card.words f.words_fit (love_at + place) (omega (arith, f.words_length))) k
of_task card real address r (Write place value) t k = refl

-- no answer is as long as an error reply
probe_length : (x : Reading) → length (probe_data x) ≡ 8
unfolding probe_data status_data digits
probe_length (Temperature tenths) = refl
probe_length Failed = refl

data_apart : (card : Card) (task : Task) → length (answer_data card task) ≡ 1 → ⊥
unfolding answer_data value_data written_data pair_of digits
data_apart card Status e = omega (arith, e, probe_length (reading_of (get_or card.memory 0 0)))
data_apart card (Read place) e = omega (arith, e)
data_apart card (Write place value) e = omega (arith, e)

-- what is heard in a reply that is a card's answer, but perhaps for its check characters
pub heard_of : (q : Request) → Askable love_master q → (card : Card) → At love_master q card → (r : List ℕ) → Near q.address r (answer_data card q.task)
    → heard q r ≡ heard_data q.address r (answer_data card q.task) (answer_to card q.task)
heard_of q a card at r k =
    let d = answer_data card q.task in
    let n : length r ≡ error_length → ⊥ = λ e. data_apart card q.task (omega (arith, e, k.long, normal_length q.address d)) in
    sym (heard_normal q r q.task n refl (sym (of_task card at.real q.address r q.task (askable_facts q a.right).1 k)))

-- an answer itself
heard_itself : (address : ℕ) (d : List ℕ) (h : Hearing) → heard_data address (normal_reply address d) d h ≡ h
unfolding heard_data heard_by choose
heard_itself address d h = rw (against_same check_back check_size (normal_reply address d))

pub love_hears : (q : Request) → Askable love_master q → Hears love_master q
love_hears q a =
    record {
      hears = λ card at room h.
          ap (heard q) (answered_by q a card at room h).1
          ∙ heard_of q a card at (answer_bytes q card) (record { long = refl; before = refl; behind = refl })
          ∙ heard_itself q.address (answer_data card q.task) (answer_to card q.task);
    }

-- "A fault is read as a fault in Love .., neither becomes a temperature": the reply of a card whose probe 0 has failed
pub love_fault : (q : Request) → Askable love_master q → q.task ≡ Status → (card : Card) → At love_master q card → get_or card.memory 0 0 ≡ fault_code
    → (room : ℕ) → room_least ≤ room → heard q (love_reply card room (made q)).bytes ≡ Fault
love_fault q a e card at c room h =
    (love_hears q a).hears card at room h ∙ ap (answer_to card) e ∙ ap (λ (code : ℕ). heard_reading (reading_of code)) c ∙ ap heard_reading (reading_failed fault_code refl)
