-- What LECOM's master hears is what document 01 has: a value, done or refused exactly if some card so answers or refuses, 4 exactly if the BCC alone is wrong, else 3. Assumes nothing.
use Rattle.std.proofs.Common.{◌≡◌, ℕ, ◌+◌, ◌-◌, ◌≤◌, Bool, true, false, ◌⊎◌, List, [], ◌∷◌, length, take, sym, refl, ap, ◌∙◌, subst, inl, inr, ⊎_elim, add-zero, arith, take-append-drop, Option, Some, None}
use Rattle.wire.specs.Choose.{choose}
use Rattle.wire.specs.Buffer.{put, part, same}
use Rattle.wire.specs.Sum.{byte_values}
use Rattle.wire.proofs.Buffers.{length_put, take_put, part_front, length_part}
use Rattle.wire.proofs.Cases.{by_choice}
use Rattle.wire.proofs.Same.{same_true}
use Rattle.wire.proofs.Tests.{and_true}
use Rattle.figures.specs.Signed.{text_of, parsed_of}
use Rattle.figures.proofs.Texts.{text_length}
use Rattle.card.specs.Numbers.{answered, done, frame_form, check_character, probe_fault}
use Rattle.card.specs.Layout.{Card}
use Rattle.card.specs.Fitness.{register_most, lecom_right}
use Rattle.card.specs.Probe.{reading_of}
use Rattle.card.specs.Reply.{Reply, room_least, on_words, WordsReply}
use Rattle.card.specs.declared.probe.Reading.{Reading}
use Rattle.card.specs.declared.probe.Reading.TheVariants.{Temperature, Fault}
use Rattle.lecom.specs.Form.{ack, closing, named_by, known, writable}
use Rattle.lecom.specs.Answer.{obeyed, lecom_reply}
use Rattle.lecom.specs.declared.form.Named.{Named}
use Rattle.lecom.specs.declared.form.Named.TheVariants.{Register, Probe, Activate, Store}
use Rattle.lecom.proofs.Values.{Ranged, span_magnitude, parsed_ranged}
use Rattle.asking.specs.Against.{against}
use Rattle.asking.specs.Hearing.{Hearing, is_said, heard_by}
use Rattle.asking.specs.Hearing.Hearing.{Gives, Done, Refused, Unread}
use Rattle.asking.specs.Claims.{Below, Askable, At, Answers, Refuses, Has, Exact}
use Rattle.asking.proofs.Compared.{Alike, by_against, alike_same, alike_mended, against_mended}
use Rattle.asking.proofs.Exactness.{Mended, Owed, exact_from}
use Rattle.lecom_master.specs.Request.{is_collective, address_right, task_right, made}
use Rattle.lecom_master.specs.Heard.{data_at, check_size, answerable, answer_bytes, data_read, heard_value, heard_task, is_refusal, heard}
use Rattle.lecom_master.specs.declared.request.Task.{Task}
use Rattle.lecom_master.specs.declared.request.Task.TheVariants.{Read, Write}
use Rattle.lecom_master.specs.declared.request.Request.{Request}
use Rattle.lecom_master.proofs.Requests.{askable_parts, writable_known}
use Rattle.masters.specs.Lecom.{lecom_master, order_of, heard_reading, held_by, answer_to, checks_in}
use Rattle.masters.proofs.LecomHears.{heard_own, at_own, answer_length, answer_data_law, answer_read, Tellable, Holds, held_by_law, gives_sent, refused_sent, done_sent, replied, lecom_hears}
use Rattle.masters.proofs.LecomCards.{held_somewhere}
use Rattle.masters.proofs.LecomRefuses.{card, some_at, refused_by_law, refusal_heard}

-- what is never so
unlike : {A : Type 0} → ◌≡◌ {A = ℕ} 0 1 → A
unlike z = let w : ⊥ = omega (arith, z) in absurd w

three_not_four : {A : Type 0} → Unread frame_form ≡ Unread check_character → A
three_not_four e = let z : frame_form ≡ check_character = cc in let w : ⊥ = omega (arith, z) in absurd w

-- The outcomes of hearing

-- a reply to a read: a value's answer, one but for its BCC, or neither
by_heard : (code : ℕ) (r : List ℕ) (P : Hearing → Type 0)
    → ((v : ℕ) → data_read r ≡ Some v → answerable (named_by code) v ≡ true → r ≡ answer_bytes code v → P (Gives (v ∷ [])))
    → ((v : ℕ) → data_read r ≡ Some v → answerable (named_by code) v ≡ true → Alike check_size check_size r (answer_bytes code v) → P (Unread check_character))
    → P (Unread frame_form) → P (heard_task (Read code) r)
unfolding heard_task heard_value heard_by choose
by_heard code r P found check other = by (data_read r) refl
  where
    by : (p : Option ℕ) → data_read r ≡ p → P (heard_value code r p)
    by None d = other
    by (Some v) d =
        by_choice P (answerable (named_by code) v) _ _
        (λ a. by_against check_size check_size r (answer_bytes code v) (λ (n : ℕ). P (heard_by n (Gives (v ∷ []))))
        (λ k e. found v d a (alike_same check_size check_size r (answer_bytes code v) k e)) (λ k _. check v d a k) other)
        (λ _. other)

-- a value that was read of a reply and may be answered
read_ranged : (r : List ℕ) (v : ℕ) → data_read r ≡ Some v → Ranged v
unfolding data_read
read_ranged r v = parsed_ranged (part r data_at (length r - closing)) v

tellable : (code : ℕ) (r : List ℕ) (v : ℕ) → data_read r ≡ Some v → answerable (named_by code) v ≡ true → Tellable code v
tellable code r v d a = let t = read_ranged r v d in record { can = a; word = t.word; most = span_magnitude v t }

-- what a card answers says something
reading_said : (k : Reading) → is_said (heard_reading k) ≡ true
unfolding heard_reading
reading_said (Temperature tenths) = refl
reading_said Fault = refl

named_said : (c : Card) (n : Option Named) → is_said (held_by c n) ≡ true
unfolding held_by
named_said c (Some (Register k)) = refl
named_said c (Some (Probe channel)) = reading_said (reading_of _)
named_said c (Some Activate) = refl
named_said c (Some Store) = refl
named_said c None = refl

answer_said : (c : Card) (task : Task) → is_said (answer_to c task) ≡ true
unfolding answer_to
answer_said c (Read code) = named_said c (named_by code)
answer_said c (Write code value) = refl

-- What document 01 has is said

module _ (q : Request) (asks : Askable lecom_master q) (r : List ℕ) where
  said_answer : (h : Hearing) → Answers lecom_master q h r → (is_said h ≡ true) × (heard q r ≡ h)
  said_answer h a = (
    ap is_said (sym a.says) ∙ answer_said a.card q.task,
    ap (heard q) (sym a.sends) ∙ (lecom_hears q asks).hears a.card a.at room_least (omega arith) ∙ a.says,
  )

  said_refusal : (h : Hearing) → Refuses lecom_master q h r → (is_said h ≡ true) × (heard q r ≡ h)
  unfolding choose
  said_refusal h c =
      let own = at_own q c.card c.at in
      let e : is_refusal q.address r ≡ true = refusal_heard q r h c in
      (ap is_said (sym c.says), heard_own q own r ∙ (rw e) ∙ c.says)

  said : (h : Hearing) → Has lecom_master q h r → (is_said h ≡ true) × (heard q r ≡ h)
  said h x = ⊎_elim (λ (a : Answers lecom_master q h r). said_answer h a) (λ (c : Refuses lecom_master q h r). said_refusal h c) x

-- A request to a unit's own address: by what is heard of a reply that is no refusal

module _ (q : Request) (own : lecom_right q.address ≡ true) (r : List ℕ) (P : Hearing → Type 0) where
  by_own : (is_refusal q.address r ≡ true → P (Refused [])) → P (heard_task q.task r) → P (heard q r)
  by_own f g = subst P (sym (heard_own q own r)) (by_choice P (is_refusal q.address r) _ _ f (λ _. g))

-- Reads

module _ (address code : ℕ) (asks : Askable lecom_master (record { address = address; task = Read code })) (own : lecom_right address ≡ true) where
  abbrev q : Request
  q = record { address = address; task = Read code }

  named : known (named_by code) ≡ true
  unfolding task_right
  named = (askable_parts q asks.right).1

  -- every value that may be answered some card answers
  answers : (v : ℕ) → answerable (named_by code) v ≡ true → Ranged v → Answers lecom_master q (Gives (v ∷ [])) (answer_bytes code v)
  unfolding obeyed order_of answer_to
  answers v can ranged =
      let c = held_somewhere address own code v can ranged in
      let a : At lecom_master q c.card = record { real = c.placed.real; there = c.placed.there } in
      let e = replied q asks c.card a room_least (omega arith) in
      let s = gives_sent address code own named c.card (named_by code) v c.held in
      record {
        card = c.card;
        at = a;
        number = ap (λ (x : Reply). x.number) e ∙ ap (λ (x : WordsReply). x.number) s;
        sends = ap (λ (x : Reply). x.bytes) e ∙ ap (λ (x : WordsReply). x.bytes) s;
        says = c.held;
      }

  module _ (r : List ℕ) (below : Below byte_values r) where
    read_total : (is_said (heard q r) ≡ true) ⊎ ((heard q r ≡ Unread frame_form) ⊎ (heard q r ≡ Unread check_character))
    read_total = by_own q own r P (λ _. inl refl) (by_heard code r P (λ v d a e. inl refl) (λ v d a k. inr (inr refl)) (inr (inl refl)))
      where
        P : Hearing → Type 0
        P h = (is_said h ≡ true) ⊎ ((h ≡ Unread frame_form) ⊎ (h ≡ Unread check_character))

    read_has : is_said (heard q r) ≡ true → Has lecom_master q (heard q r) r
    read_has =
        by_own q own r P (λ b _. inr (refused_by_law q own r below b))
        (by_heard code r P (λ v d a e _. inl (subst (Answers lecom_master q (Gives (v ∷ []))) (sym e) (answers v a (read_ranged r v d)))) (λ v d a k s. unlike cc) (λ s. unlike cc))
      where
        P : Hearing → Type 0
        P h = is_said h ≡ true → Has lecom_master q h r

    read_mends : heard q r ≡ Unread check_character → Mended lecom_master q r
    unfolding checks_in
    read_mends =
        by_own q own r P (λ _ e. unlike cc)
        (by_heard code r P (λ v d a k e. unlike cc) (λ v d a k _. mend v d a k) three_not_four)
      where
        P : Hearing → Type 0
        P h = h ≡ Unread check_character → Mended lecom_master q r

        mend : (v : ℕ) → data_read r ≡ Some v → answerable (named_by code) v ≡ true → Alike check_size check_size r (answer_bytes code v) → Mended lecom_master q r
        mend v d a k =
            let answer = answer_bytes code v in
            let at = length answer - check_size in
            let n = answer_length code v in
            record {
              characters = part answer at (at + check_size);
              size = length_part answer at (at + check_size) (omega arith) (omega (arith, n)) ∙ omega arith;
              inside = omega (arith, k.long, n);
              says = Gives (v ∷ []);
              answers = subst (Answers lecom_master q (Gives (v ∷ []))) (sym (alike_mended check_size check_size r answer (omega arith) (omega (arith, n)) k)) (answers v a (read_ranged r v d));
            }

    -- an answer in which other check characters were put
    module _ (characters : List ℕ) (one : length characters ≡ check_size) (inside : check_size ≤ length r) (v : ℕ) (t : Tellable code v)
        (e : put r (length r - check_size) characters ≡ answer_bytes code v) where
      abbrev at : ℕ
      at = length r - check_size

      fits : at + length characters ≤ length r
      fits = omega (arith, one, inside)

      same_length : length (answer_bytes code v) ≡ length r
      same_length = ap length (sym e) ∙ length_put r at characters fits

      front : take at r ≡ take at (answer_bytes code v)
      front = sym (take_put r at characters fits at (omega arith)) ∙ ap (take at) e

      data_same : part r data_at (length r - closing) ≡ text_of v
      data_same =
          let n = answer_length code v in
          let s : part (answer_bytes code v) data_at (length r - closing) ≡ text_of v = rw (← same_length) (answer_data_law code v) in
          part_front r (answer_bytes code v) at front data_at (length r - closing) (omega (arith, n, same_length, text_length v)) (omega arith) ∙ s

      data_read_law : data_read r ≡ Some v
      unfolding data_read
      data_read_law =
          let a : data_read (answer_bytes code v) ≡ Some v = answer_read code v t in
          ap (parsed_of register_most) (data_same ∙ sym (answer_data_law code v)) ∙ a

      heard_mended : (P : Hearing → Type 0) → P (Gives (v ∷ [])) → P (Unread check_character) → P (heard_task (Read code) r)
      unfolding heard_task heard_value heard_by choose
      heard_mended P found check =
          let m : against check_size check_size r (answer_bytes code v) ≡ choose (same (part r at (at + check_size)) characters) done check_character =
          ap (against check_size check_size r) (sym e) ∙ against_mended check_size check_size r characters one (omega arith) inside in
          subst P (sym (rw (data_read_law, t.can, m))) (by_choice (λ (n : ℕ). P (heard_by n (Gives (v ∷ [])))) (same (part r at (at + check_size)) characters) done check_character (λ _. found) (λ _. check))

    read_mended : Mended lecom_master q r → (is_said (heard q r) ≡ true) ⊎ (heard q r ≡ Unread check_character)
    unfolding checks_in obeyed order_of
    read_mended m =
        by_own q own r P (λ _. inl refl)
        (⊎_elim (λ (x : (value : ℕ) × Holds a.card code value).
        let s = gives_sent address code own named a.card (named_by code) x.0 x.1.held in
        heard_mended m.characters m.size m.inside x.0 x.1.tellable (sym a.sends ∙ ap (λ (y : Reply). y.bytes) e ∙ ap (λ (y : WordsReply). y.bytes) s) P (inl refl) (inr refl))
        (λ (h : held_by a.card (named_by code) ≡ Refused []).
        let s = refused_sent address code own named a.card (named_by code) named h in
        let z : answered ≡ probe_fault = sym a.number ∙ ap (λ (y : Reply). y.number) e ∙ ap (λ (y : WordsReply). y.number) s in
        let w : ⊥ = omega (arith, z) in absurd w)
        (held_by_law a.card a.at.real code named (named_by code) refl))
      where
        P : Hearing → Type 0
        P h = (is_said h ≡ true) ⊎ (h ≡ Unread check_character)

        a : Answers lecom_master q m.says (put r (length r - check_size) m.characters)
        a = m.answers

        e : lecom_reply a.card room_least (made q) ≡ on_words a.card (obeyed a.card.words a.card.memory (made q) (order_of (Read code)))
        e = replied q asks a.card a.at room_least (omega arith)

    read_owed : Owed lecom_master q r
    read_owed = record { total = read_total; has = read_has; said = said q asks r; mends = read_mends; mended = read_mended }

-- Writes

module _ (address code value : ℕ) (asks : Askable lecom_master (record { address = address; task = Write code value })) (own : lecom_right address ≡ true) (r : List ℕ) (below : Below byte_values r) where
  abbrev p : Request
  p = record { address = address; task = Write code value }

  acks : Answers lecom_master p Done (ack ∷ [])
  unfolding order_of answer_to task_right
  acks =
      let e = replied p asks (card p own) (some_at p own) room_least (omega arith) in
      let named = writable_known (named_by code) (and_true (writable (named_by code)) _ (askable_parts p asks.right).1).0 in
      let s = done_sent address code value own (card p own) (named_by code) named in
      record {
        card = card p own;
        at = some_at p own;
        number = ap (λ (x : Reply). x.number) e ∙ s.0;
        sends = ap (λ (x : Reply). x.bytes) e ∙ s.1;
        says = refl;
      }

  by_ack : (P : Hearing → Type 0) → (r ≡ ack ∷ [] → P Done) → P (Unread frame_form) → P (heard_task (Write code value) r)
  unfolding heard_task
  by_ack P f g = by_choice P (same r (ack ∷ [])) _ _ (λ s. f (same_true r (ack ∷ []) s)) (λ _. g)

  write_total : (is_said (heard p r) ≡ true) ⊎ ((heard p r ≡ Unread frame_form) ⊎ (heard p r ≡ Unread check_character))
  write_total = by_own p own r P (λ _. inl refl) (by_ack P (λ _. inl refl) (inr (inl refl)))
    where
      P : Hearing → Type 0
      P h = (is_said h ≡ true) ⊎ ((h ≡ Unread frame_form) ⊎ (h ≡ Unread check_character))

  write_has : is_said (heard p r) ≡ true → Has lecom_master p (heard p r) r
  write_has = by_own p own r P (λ b _. inr (refused_by_law p own r below b)) (by_ack P (λ e _. inl (subst (Answers lecom_master p Done) (sym e) acks)) (λ s. unlike cc))
    where
      P : Hearing → Type 0
      P h = is_said h ≡ true → Has lecom_master p h r

  write_mends : heard p r ≡ Unread check_character → Mended lecom_master p r
  write_mends = by_own p own r P (λ _ e. unlike cc) (by_ack P (λ _ e. unlike cc) three_not_four)
    where
      P : Hearing → Type 0
      P h = h ≡ Unread check_character → Mended lecom_master p r

  -- with no check characters nothing is mended
  write_mended : Mended lecom_master p r → (is_said (heard p r) ≡ true) ⊎ (heard p r ≡ Unread check_character)
  unfolding checks_in put
  write_mended m =
      let n : m.characters ≡ [] = none m.characters m.size in
      let e : put r (length r - 0) m.characters ≡ r = ap (put r (length r - 0)) n ∙ put_nothing r in
      let s = said p asks r m.says (inl (subst (Answers lecom_master p m.says) e m.answers)) in
      inl (ap is_said s.1 ∙ s.0)
    where
      none : (l : List ℕ) → length l ≡ 0 → l ≡ []
      none [] h = refl
      none (x ∷ l) h = let z : ⊥ = omega arith in absurd z

      put_nothing : (s : List ℕ) → put s (length s - 0) [] ≡ s
      put_nothing s = rw (add-zero (length s - 0)) (take-append-drop (length s - 0) s)

  write_owed : Owed lecom_master p r
  write_owed = record { total = write_total; has = write_has; said = said p asks r; mends = write_mends; mended = write_mended }

-- A collective address: no card is there, and 3 is heard

module _ (q : Request) (asks : Askable lecom_master q) (other : lecom_right q.address ≡ false) (r : List ℕ) where
  heard_none : heard q r ≡ Unread frame_form
  unfolding heard address_right choose
  heard_none =
      let c : is_collective q.address ≡ true = rw other at (askable_parts q asks.right).0 in
      rw c

  no_card : {A : Type 0} (c : Card) → At lecom_master q c → A
  no_card c a = let z : false ≡ true = sym other ∙ at_own q c a in unlike cc

  none_owed : Owed lecom_master q r
  none_owed =
      record {
        total = inr (inl heard_none);
        has = λ s. let z : false ≡ true = ap is_said (sym heard_none) ∙ s in unlike cc;
        said = said q asks r;
        mends = λ e. three_not_four (sym heard_none ∙ e);
        mended = λ m. no_card m.answers.card m.answers.at;
      }

owed : (address : ℕ) (task : Task) → Askable lecom_master (record { address = address; task = task }) → lecom_right address ≡ true → (r : List ℕ) → Below byte_values r
    → Owed lecom_master (record { address = address; task = task }) r
owed address (Read code) asks own r below = read_owed address code asks own r below
owed address (Write code value) asks own r below = write_owed address code value asks own r below

pub lecom_exact : (q : Request) → Askable lecom_master q → (r : List ℕ) → Below byte_values r → Exact lecom_master q r
lecom_exact q asks r below = exact_from lecom_master q r (by (lecom_right q.address) refl)
  where
    by : (t : Bool) → lecom_right q.address ≡ t → Owed lecom_master q r
    by true own = owed q.address q.task asks own r below
    by false other = none_owed q asks other r
