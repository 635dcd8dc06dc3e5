-- What a LECOM card answers to a made request is heard as what it holds. Assumes nothing.
use Rattle.std.proofs.Common.{◌≡◌, ℕ, ◌+◌, ◌-◌, ◌/◌, ◌%◌, ◌<◌, ◌≤◌, Bool, true, false, not, eqb, leb, ◌⊎◌, List, [], ◌∷◌, length, get_or, sym, refl, ap, ◌∙◌, subst, inl, inr, ⊎_elim, append_assoc, arith, length-append, take_at, eq-eqb, ne_eqb, eqb-true, le-leb, leb-true, Option, Some, None}
use borrow.Author.Tests.{eqb-false, not-true}
use Rattle.wire.specs.Choose.{choose}
use Rattle.wire.specs.Buffer.{part, same}
use Rattle.wire.specs.Word.{minus, word_values}
use Rattle.wire.proofs.Same.{lengths_apart}
use Rattle.wire.proofs.Tests.{and_true, and_false_right, either, refuted}
use Rattle.figures.specs.Figure.{decimal, base, char_of, pair_of}
use Rattle.figures.specs.Signed.{text_of, magnitude, parsed_of}
use Rattle.figures.proofs.Characters.{char_least}
use Rattle.figures.proofs.Texts.{text_length, parse_text, magnitude_negative, magnitude_positive}
use Rattle.card.specs.Numbers.{answered, probe_fault}
use Rattle.card.specs.Layout.{Card, lecom_address_at, operational_at}
use Rattle.card.specs.Fitness.{in_span, in_range, fit, register_most, lecom_most, lecom_right, lecom_least}
use Rattle.card.specs.Probe.{fault_code, tenths_below, tenths_of, reading_of}
use Rattle.card.specs.Reply.{room_least, shell, on_words, WordsReply, leaving}
use Rattle.card.specs.declared.probe.Reading.{Reading}
use Rattle.card.specs.declared.probe.Reading.TheVariants.{Temperature, Fault}
use Rattle.card.proofs.Facts.{fit_facts}
use Rattle.card.proofs.Probes.{tenths_most, temperature_read, fault_read}
use Rattle.card.proofs.Ranges.{words_at, at_register}
use Rattle.lecom.specs.Form.{eot, ack, nak, extended_mark, closing, named_by, known, writable}
use Rattle.lecom.specs.Frame.{collective, is_write, is_extended, code_of, bcc_of, asked, ordering}
use Rattle.lecom.specs.Stages.{Has}
use Rattle.lecom.specs.Answer.{value_body, value_bytes, refusal_bytes, done_by, refused_by, probe_answer, read_answer, obeyed, address_of, lecom_reply}
use Rattle.lecom.specs.declared.form.Named.{Named}
use Rattle.lecom.specs.declared.frame.Order.TheVariants.{Read as ReadOrder, Write as WriteOrder}
use Rattle.lecom.specs.declared.form.Named.TheVariants.{Register, Probe, Activate, Store}
use Rattle.lecom.proofs.Frames.{named_has, read_start, standard_code}
use Rattle.lecom.proofs.Values.{span_magnitude}
use Rattle.asking.specs.Hearing.{heard_by}
use Rattle.asking.specs.Hearing.Hearing.{Gives, Done, Refused}
use Rattle.asking.specs.Claims.{Real, Askable, At, Hears}
use Rattle.asking.proofs.Compared.{against_same}
use Rattle.asking.proofs.Temperatures.{tenths_temperature}
use Rattle.lecom_master.specs.Request.{is_collective, task_right, body, checked, task_bytes, made}
use Rattle.lecom_master.specs.Heard.{data_at, check_size, answerable, answer_bytes, data_read, heard_value, heard_task, read_of, is_unknown, unknown_code, is_refusal, heard}
use Rattle.lecom_master.specs.declared.request.Task.{Task}
use Rattle.lecom_master.specs.declared.request.Task.TheVariants.{Read, Write}
use Rattle.lecom_master.specs.declared.request.Request.{Request}
use Rattle.lecom_master.proofs.Requests.{unit_most, ones, askable_parts, checked_length, writable_known}
use Rattle.lecom_master.proofs.Unknowns.{text_size, unknown_says, too_short}
use Rattle.masters.specs.Lecom.{lecom_master, order_of, addresses, asked_of, heard_reading, held_by, answer_to}
use Rattle.masters.proofs.LecomMeans.{read_at, read_code_end, lecom_means}

-- A unit's own address

module _ (address : ℕ) (own : lecom_right address ≡ true) where
  -- its last figure is not 0
  ones_not : eqb (address % decimal) 0 ≡ false
  ones_not = not-true _ (and_true (leb address lecom_most) _ (and_true (leb lecom_least address) _ own).1).1

  own_single : is_collective address ≡ false
  unfolding is_collective
  own_single = rw ones_not (and_false_right (leb address lecom_most))

  pub not_collective : (rest : List ℕ) → collective (eot ∷ char_of (address / decimal) ∷ char_of (address % decimal) ∷ rest) ≡ false
  unfolding collective
  not_collective rest = rw (ones address (unit_most address own) rest) ones_not

  pub own_reached : addresses address address ≡ true
  unfolding addresses choose
  own_reached = rw ones_not (eq-eqb address address refl)

-- what is heard at a unit's address
pub heard_own : (q : Request) → lecom_right q.address ≡ true → (r : List ℕ) → heard q r ≡ choose (is_refusal q.address r) (Refused []) (heard_task q.task r)
unfolding heard choose
heard_own q own r = rw (own_single q.address own)

-- the address of a fit card is a unit's
card_own : (card : Card) → fit card ≡ true → lecom_right (address_of card.words) ≡ true
unfolding address_of in_range choose
card_own card h =
    let t = fit_facts card h in
    words_at card.words t.words_fit lecom_address_at (omega (arith, t.words_length))

pub at_own : (q : Request) (card : Card) → At lecom_master q card → lecom_right q.address ≡ true
at_own q card a = subst (λ (n : ℕ). lecom_right n ≡ true) a.there (card_own card a.real.fits)

-- Answers to a read

-- a value that a read of a code may be answered by
pub record Tellable (code value : ℕ) : Type 0 where
  pub can : answerable (named_by code) value ≡ true
  pub word : value < word_values
  pub most : magnitude value ≤ register_most

module _ (code value : ℕ) where
  pub answer_length : length (answer_bytes code value) ≡ 5 + length (text_of value)
  unfolding answer_bytes
  answer_length = omega (arith, checked_length code value)

  -- what stands between code and ETX
  pub answer_data_law : part (answer_bytes code value) data_at (length (answer_bytes code value) - closing) ≡ text_of value
  unfolding answer_bytes checked body pair_of
  answer_data_law =
      let n : length (answer_bytes code value) - closing - data_at ≡ length (text_of value) = omega (arith, answer_length) in
      rw (n, append_assoc) (take_at (text_of value) _ (length (text_of value)) refl)

  -- what stands between STX and BCC
  answer_body : part (answer_bytes code value) 1 (length (answer_bytes code value) - 1) ≡ body code value
  unfolding answer_bytes checked
  answer_body =
      let n : length (body code value) ≡ length (answer_bytes code value) - 1 - 1 = simp length-append (omega arith) in
      take_at (body code value) (bcc_of (body code value) ∷ []) (length (answer_bytes code value) - 1 - 1) n

  -- an answer says of no code that it is unknown: a code that begins with a figure has two characters
  answer_known : (address : ℕ) → is_write (read_of address (body code value)) ≡ false → is_unknown (asked address (read_of address (body code value))) ≡ true → ⊥
  unfolding read_of body pair_of is_extended
  answer_known address w six =
      let f = read_of address (body code value) in
      let x : is_extended f ≡ false = rw (read_start f w) (ne_eqb (char_of (code / base)) extended_mark (λ e. omega (arith, char_least (code / base)))) in
      let n : length (body code value) ≡ 3 + length (text_of value) = simp length-append (omega arith) in
      omega (arith, text_size address (body code value) w six, standard_code f x, read_start f w, n)

  answer_no_refusal : (address : ℕ) → is_refusal address (answer_bytes code value) ≡ false
  unfolding is_refusal
  answer_no_refusal address =
      let r = answer_bytes code value in
      let u : false ≡ unknown_code address r = refuted (unknown_code address r)
      (λ u.
      let b = and_true (not (is_write (read_of address (part r 1 (length r - 1))))) _ (unknown_says address r u).refused in
      answer_known address (ap (λ (l : List ℕ). is_write (read_of address l)) (sym answer_body) ∙ not-true _ b.0)
      (ap (λ (l : List ℕ). is_unknown (asked address (read_of address l))) (sym answer_body) ∙ b.1)) in
      rw (lengths_apart r (nak ∷ []) (λ e. omega (arith, e, answer_length, text_length value)), ← u)

  pub answer_read : Tellable code value → data_read (answer_bytes code value) ≡ Some value
  unfolding data_read
  answer_read t = ap (parsed_of register_most) answer_data_law ∙ parse_text register_most value t.word t.most

  -- an answer is heard as its value
  heard_value_law : Tellable code value → heard_task (Read code) (answer_bytes code value) ≡ Gives (value ∷ [])
  unfolding heard_task heard_value heard_by choose
  heard_value_law t = rw (answer_read t, t.can, against_same check_size check_size (answer_bytes code value))

-- the tenths of a code below 255 may be told
tenths_told : (code channel k : ℕ) → named_by code ≡ Some (Probe channel) → k < fault_code → Tellable code (tenths_of k)
unfolding answerable tenths_of in_span choose
tenths_told code channel k e h =
    let w : tenths_of k < word_values = omega arith in
    record { can = rw e (tenths_temperature k h); word = w; most = within (tenths_of k) w (temperature_read k h).within }
  where
    within : (w : ℕ) → w < word_values → in_span (minus tenths_below) tenths_most w ≡ true → magnitude w ≤ register_most
    within w l h =
        either (leb (minus tenths_below) w) (leb w tenths_most) h
        (λ a. let k : minus tenths_below ≤ w = leb-true (minus tenths_below) w a in omega (arith, magnitude_negative w (omega arith)))
        (λ b. let k : w ≤ tenths_most = leb-true w tenths_most b in omega (arith, magnitude_positive w (omega arith)))

-- what a card holds under a code: a value that may be told, or a refusal
pub record Holds (card : Card) (code value : ℕ) : Type 0 where
  pub held : held_by card (named_by code) ≡ Gives (value ∷ [])
  pub tellable : Tellable code value

module _ (card : Card) (real : Real card) (code : ℕ) (named : known (named_by code) ≡ true) where
  abbrev Out : Type 0
  Out = ((value : ℕ) × Holds card code value) ⊎ (held_by card (named_by code) ≡ Refused [])

  zero_held : (n : Option Named) → named_by code ≡ n → held_by card n ≡ Gives (0 ∷ []) → answerable n 0 ≡ true → Out
  zero_held n e h a = inl (0, record { held = ap (held_by card) e ∙ h; tellable = record { can = rw e a; word = omega arith; most = omega (arith, magnitude_positive 0 (omega arith)) } })

  pub held_by_law : (n : Option Named) → named_by code ≡ n → Out
  unfolding held_by answerable heard_reading
  held_by_law (Some (Register k)) e =
      let w = get_or card.words (operational_at + k) 0 in
      let t = fit_facts card real.fits in
      let b : Has (Some (Register k)) = subst Has e (named_has code) in
      let j = operational_at + k in
      let i : in_span (minus register_most) register_most w ≡ true = at_register j w (omega arith) ∙ words_at card.words t.words_fit j (omega (arith, b, t.words_length)) in
      let l : w < word_values = real.words (operational_at + k) in
      inl (w, record { held = rw e; tellable = record { can = rw e; word = l; most = span_magnitude w (record { within = i; word = l }) } })
  held_by_law (Some (Probe channel)) e = by (eqb k fault_code) refl
    where
      k : ℕ
      k = get_or card.memory channel 0

      by : (t : Bool) → eqb k fault_code ≡ t → Out
      by true f = inr (rw e (ap (λ (n : ℕ). heard_reading (reading_of n)) (eqb-true k fault_code f) ∙ ap heard_reading fault_read))
      by false f =
          let l : k < fault_code = omega (arith, eqb-false k fault_code f, real.bytes channel) in
          inl (tenths_of k, record { held = rw e (ap heard_reading (temperature_read k l).taken); tellable = tenths_told code channel k e l })
  held_by_law (Some Activate) e = zero_held (Some Activate) e refl refl
  held_by_law (Some Store) e = zero_held (Some Store) e refl refl
  held_by_law None e = let z : false ≡ true = rw e at named in let y : ◌≡◌ {A = ℕ} 0 1 = cc in let w : ⊥ = omega (arith, y) in absurd w

-- What a card sends

-- a read at a unit's own address
module _ (address code : ℕ) (own : lecom_right address ≡ true) (named : known (named_by code) ≡ true) where
  abbrev q : Request
  q = record { address = address; task = Read code }

  answer_bytes_law : (value : ℕ) → value_bytes (made q) value ≡ answer_bytes code value
  unfolding value_bytes value_body answer_bytes checked body code_of made task_bytes pair_of
  answer_bytes_law value =
      let t = char_of (address / decimal) in
      let o = char_of (address % decimal) in
      rw (read_at t o code named, read_code_end t o code named)

  single : collective (made q) ≡ false
  unfolding made
  single = not_collective address own (task_bytes (Read code))

  -- a value is sent as its answer
  sent : (value : ℕ) → done_by (collective (made q)) (value_bytes (made q) value) ≡ record { number = answered; bytes = answer_bytes code value }
  unfolding done_by choose
  sent value = rw (single, answer_bytes_law value)

  -- a fault as NAK
  fault_sent : refused_by (made q) probe_fault ≡ record { number = probe_fault; bytes = nak ∷ [] }
  unfolding refused_by refusal_bytes choose
  fault_sent = rw single

  module _ (card : Card) where
    -- what the card makes of the read, by what its code names
    abbrev pub read_reply : Option Named → WordsReply
    read_reply n = obeyed card.words card.memory (made q) (ordering ReadOrder n)

    pub gives_sent : (n : Option Named) (value : ℕ) → held_by card n ≡ Gives (value ∷ [])
        → read_reply n ≡ leaving card.words (record { number = answered; bytes = answer_bytes code value })
    unfolding held_by obeyed read_answer heard_reading probe_answer
    gives_sent (Some (Register k)) value e = let s : get_or card.words (operational_at + k) 0 ≡ value = cc in rw s (ap (leaving card.words) (sent value))
    gives_sent (Some (Probe channel)) value e = ap (leaving card.words) (by (reading_of (get_or card.memory channel 0)) e)
      where
        by : (k : Reading) → heard_reading k ≡ Gives (value ∷ []) → probe_answer (made q) k ≡ record { number = answered; bytes = answer_bytes code value }
        by (Temperature tenths) e = let s : tenths.0 ≡ value = cc in rw s (sent value)
        by Fault e = let z : ◌≡◌ {A = ℕ} 0 1 = cc in let w : ⊥ = omega (arith, z) in absurd w
    gives_sent (Some Activate) value e = let s : 0 ≡ value = cc in rw (← s) (ap (leaving card.words) (sent 0))
    gives_sent (Some Store) value e = let s : 0 ≡ value = cc in rw (← s) (ap (leaving card.words) (sent 0))
    gives_sent None value e = let z : ◌≡◌ {A = ℕ} 0 1 = cc in let w : ⊥ = omega (arith, z) in absurd w

    pub refused_sent : (n : Option Named) → known n ≡ true → held_by card n ≡ Refused []
        → read_reply n ≡ leaving card.words (record { number = probe_fault; bytes = nak ∷ [] })
    unfolding held_by obeyed read_answer heard_reading probe_answer
    refused_sent (Some (Register k)) h e = let z : ◌≡◌ {A = ℕ} 0 1 = cc in let w : ⊥ = omega (arith, z) in absurd w
    refused_sent (Some (Probe channel)) h e = ap (leaving card.words) (by (reading_of (get_or card.memory channel 0)) e)
      where
        by : (k : Reading) → heard_reading k ≡ Refused [] → probe_answer (made q) k ≡ record { number = probe_fault; bytes = nak ∷ [] }
        by (Temperature tenths) e = let z : ◌≡◌ {A = ℕ} 0 1 = cc in let w : ⊥ = omega (arith, z) in absurd w
        by Fault e = fault_sent
    refused_sent (Some Activate) h e = let z : ◌≡◌ {A = ℕ} 0 1 = cc in let w : ⊥ = omega (arith, z) in absurd w
    refused_sent (Some Store) h e = let z : ◌≡◌ {A = ℕ} 0 1 = cc in let w : ⊥ = omega (arith, z) in absurd w
    refused_sent None h e = let z : ◌≡◌ {A = ℕ} 0 1 = cc in let w : ⊥ = omega (arith, z) in absurd w

-- a write at a unit's own address
module _ (address code value : ℕ) (own : lecom_right address ≡ true) (card : Card) where
  abbrev pub write : Request
  write = record { address = address; task = Write code value }

  -- what the card makes of it, by what its code names
  abbrev pub write_reply : Option Named → WordsReply
  write_reply n = obeyed card.words card.memory (made write) (ordering (λ (named : Named). WriteOrder named value) n)

  -- ACK
  pub done_sent : (n : Option Named) → known n ≡ true → ((write_reply n).number ≡ answered) × ((write_reply n).bytes ≡ ack ∷ [])
  unfolding obeyed done_by made choose
  done_sent (Some named) h = rw (not_collective address own (task_bytes (Write code value))) (refl, refl)
  done_sent None h = let z : ◌≡◌ {A = ℕ} 0 1 = cc in let w : ⊥ = omega (arith, z) in absurd w

-- the entry on a card at the request's address
module _ (q : Request) (asks : Askable lecom_master q) (card : Card) (a : At lecom_master q card) (room : ℕ) (fits : room_least ≤ room) where
  asked_own : asked q.address (made q) ≡ order_of q.task
  unfolding asked_of choose
  asked_own = (lecom_means q asks).means q.address ∙ rw (own_reached q.address (at_own q card a))

  pub replied : lecom_reply card room (made q) ≡ on_words card (obeyed card.words card.memory (made q) (order_of q.task))
  unfolding lecom_reply shell choose
  replied = rw (a.real.fits, le-leb room_least room fits, a.there, asked_own)

-- What is heard

-- a value, NAK and ACK at a unit's own address
heard_gives : (address code value : ℕ) → lecom_right address ≡ true → Tellable code value → heard (record { address = address; task = Read code }) (answer_bytes code value) ≡ Gives (value ∷ [])
unfolding choose
heard_gives address code value own t = heard_own _ own (answer_bytes code value) ∙ rw (answer_no_refusal code value address) (heard_value_law code value t)

heard_nak : (q : Request) → lecom_right q.address ≡ true → heard q (nak ∷ []) ≡ Refused []
unfolding is_refusal same choose
heard_nak q own = heard_own q own (nak ∷ [])

heard_ack : (address code value : ℕ) → lecom_right address ≡ true → heard (record { address = address; task = Write code value }) (ack ∷ []) ≡ Done
unfolding is_refusal heard_task same choose
heard_ack address code value own = heard_own _ own (ack ∷ []) ∙ rw (← (too_short address (ack ∷ []) (omega arith)))

told_task : (address : ℕ) (task : Task) → lecom_right address ≡ true → task_right task ≡ true → (card : Card) → Real card
    → heard (record { address = address; task = task }) (obeyed card.words card.memory (made (record { address = address; task = task })) (order_of task)).bytes ≡ answer_to card task
unfolding obeyed order_of task_right answer_to
told_task address (Read code) own named card real =
    ⊎_elim (λ (x : (value : ℕ) × Holds card code value).
    ap (λ (r : WordsReply). heard q r.bytes) (gives_sent address code own named card (named_by code) x.0 x.1.held) ∙ heard_gives address code x.0 own x.1.tellable ∙ sym x.1.held)
    (λ (h : held_by card (named_by code) ≡ Refused []).
    ap (λ (r : WordsReply). heard q r.bytes) (refused_sent address code own named card (named_by code) named h) ∙ heard_nak q own ∙ sym h)
    (held_by_law card real code named (named_by code) refl)
  where
    q : Request
    q = record { address = address; task = Read code }
told_task address (Write code value) own right card real =
    let named = writable_known (named_by code) (and_true (writable (named_by code)) _ right).0 in
    ap (heard (record { address = address; task = Write code value })) (done_sent address code value own card (named_by code) named).1 ∙ heard_ack address code value own

pub lecom_hears : (q : Request) → Askable lecom_master q → Hears lecom_master q
lecom_hears q asks =
    record { hears = λ card a room h. rw (replied q asks card a room h) (told_task q.address q.task (at_own q card a) (askable_parts q asks.right).1 card a.real) }
