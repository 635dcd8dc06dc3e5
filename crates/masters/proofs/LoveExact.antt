-- Love: what is said of a reply is what document 01 has; 4 if its check characters alone are wrong; all else is 3. Assumes nothing.
use Rattle.std.proofs.Common.{◌≡◌, ℕ, ◌+◌, ◌-◌, ◌<◌, ◌≤◌, Bool, true, false, eqb, leb, ◌⊎◌, List, [], ◌∷◌, length, get_or, set, Err, Result, sym, refl, ap, ◌∙◌, subst, inl, inr, ⊎_elim, arith, get_or-set_other, get_or-set_same, ltb-true, ne_eqb, leb-true}
use Rattle.wire.specs.Choose.{choose}
use Rattle.wire.specs.Buffer.{put, part, same}
use Rattle.wire.specs.Sum.{byte_values}
use Rattle.wire.specs.Word.{word_values}
use Rattle.wire.proofs.Buffers.{length_part}
use Rattle.wire.proofs.Cases.{yes, no, by_choice}
use Rattle.wire.proofs.Tests.{and_true}
use Rattle.figures.specs.Figure.{decimal, upper_hex, all_figures, pair_of}
use Rattle.figures.specs.Decimal.{digits}
use Rattle.card.specs.Numbers.{done, frame_form, check_character}
use Rattle.card.specs.Layout.{Card, with_words, love_address_at, love_at, love_count}
use Rattle.card.specs.Fitness.{in_range, love_right, love_address_most}
use Rattle.card.specs.Entries.{with_code}
use Rattle.card.specs.Probe.{fault_code, tenths_of, reading_of}
use Rattle.card.specs.Reply.{Reply, on_words, room_least}
use Rattle.card.specs.Start.{start_card, start_words}
use Rattle.card.specs.declared.probe.Reading.{Reading}
use Rattle.card.specs.declared.probe.Reading.TheVariants.{Temperature, Fault as Failed}
use Rattle.card.proofs.Facts.{fit_facts}
use Rattle.love.specs.Form.{data_at}
use Rattle.love.specs.Frame.{byte_at, asked}
use Rattle.love.specs.Answer.{unit_of, error_reply, normal_reply, written_data, value_data, status_data, probe_data, address_of, obeyed, love_reply}
use Rattle.love.specs.declared.frame.Order.{Order}
use Rattle.love.specs.declared.frame.Refusal.{Refusal}
use Rattle.love.specs.declared.frame.Refusal.TheVariants.{Refused as RefusedOrder}
use Rattle.asking.specs.Hearing.{Hearing, heard_by, is_said}
use Rattle.asking.specs.Hearing.Hearing.{Gives, Done, Fault, Refused, Unread}
use Rattle.asking.specs.Against.{against}
use Rattle.asking.specs.Steps.{is_temperature}
use Rattle.asking.specs.Claims.{Below, Real, Askable, At, Answers, Refuses, Has, Exact}
use Rattle.asking.proofs.Cards.{start_real, real_set, real_code}
use Rattle.asking.proofs.Compared.{Alike, by_against, alike_same, alike_mended, against_mended}
use Rattle.asking.proofs.Exactness.{Mended, Owed, unsaid, exact_from}
use Rattle.asking.proofs.Temperatures.{tenths_coded}
use Rattle.love_master.specs.declared.request.Task.{Task}
use Rattle.love_master.specs.declared.request.Task.TheVariants.{Status, Read, Write}
use Rattle.love_master.specs.declared.request.Request.{Request}
use Rattle.love_master.specs.Request.{task_right}
use Rattle.love_master.specs.Heard.{check_back, check_size, code_at, is_refusal, figures_at, heard_data, status_word, heard_status, value_word, heard_value, heard_task, heard}
use Rattle.love_master.specs.Stages.{error_length, status_reply_length, value_reply_length}
use Rattle.love_master.proofs.Errors.{askable_facts, error_length_law, refusal_heard, refusal_is}
use Rattle.love_master.proofs.Shown.{Near, fine_data, normal_length, heard_or, value_word_below, status_word_below}
use Rattle.masters.specs.Love.{heard_reading, answer_to, love_master}
use Rattle.masters.proofs.LoveHears.{reply_of_law, answer_data, answer_bytes, answered_by, heard_of, reading_failed, reading_fine, tenths_word, love_hears}
use Rattle.masters.proofs.LoveRefuses.{asked_coded, refusal_bytes_law, refusable}

-- a card at an address, and with a probe code or a parameter as asked
abbrev unit_card : ℕ → Card
unit_card address = with_words start_card (set start_words love_address_at address)

abbrev word_card : ℕ → ℕ → ℕ → Card
word_card address place w = with_words (unit_card address) (set (unit_card address).words (love_at + place) w)

unit_range : (address : ℕ) → love_right address ≡ true → in_range love_address_at address ≡ true
unfolding in_range choose
unit_range address h = h

address_word : (address : ℕ) → love_right address ≡ true → address < word_values
address_word address h = omega (arith, leb-true address love_address_most (and_true (leb address love_address_most) _ h).0)

unit_real : (address : ℕ) → love_right address ≡ true → Real (unit_card address)
unit_real address h = real_set start_card love_address_at address start_real (address_word address h) (unit_range address h)

module _ (q : Request) (a : Askable love_master q) where
  abbrev right : love_right q.address ≡ true
  right = (askable_facts q a.right).0

  unit_at : At love_master q (unit_card q.address)
  unit_at = record { real = unit_real q.address right; there = refl }

  code_at_law : (code : ℕ) → code < byte_values → At love_master q (with_code (unit_card q.address) 0 code)
  unfolding with_code
  code_at_law code h = record { real = real_code (unit_card q.address) 0 code (unit_real q.address right) h; there = refl }

  word_at : (place w : ℕ) → w < word_values → in_range (love_at + place) w ≡ true → At love_master q (word_card q.address place w)
  word_at place w l h =
      record {
        real = real_set (unit_card q.address) (love_at + place) w (unit_real q.address right) l h;
        there = get_or-set_other (unit_card q.address).words (love_at + place) love_address_at w 0 (λ e. omega (arith, e));
      }

  -- a card whose answer the reply is, but perhaps for its check characters
  record Found (task : Task) (r : List ℕ) : Type 0 where
    card : Card
    at : At love_master q card
    alike : Near q.address r (answer_data card task)

  abbrev Or : Task → List ℕ → Hearing → Type 0
  Or task r h = (h ≡ Unread frame_form) ⊎ Found task r

  -- a card for what data say
  from_data : (task : Task) (r d : List ℕ) (h : Hearing) → (Near q.address r d → (card : Card) × ((At love_master q card) × (answer_data card task ≡ d))) → Or task r (heard_data q.address r d h)
  from_data task r d h f =
      ⊎_elim (λ (e : heard_data q.address r d h ≡ Unread frame_form). inl e)
      (λ (k : Near q.address r d).
      let c = f k in
      inr (record { card = c.0; at = c.1.0; alike = subst (λ (s : List ℕ). Near q.address r s) (sym c.1.1) k }))
      (heard_or q.address r d h)

  fault_card : (card : Card) × ((At love_master q card) × (answer_data card Status ≡ probe_data Failed))
  unfolding answer_data with_code
  fault_card = (with_code (unit_card q.address) 0 fault_code, (code_at_law fault_code (omega arith), ap probe_data (reading_failed fault_code refl)))

  code_card : (w : ℕ) → w < word_values → is_temperature 1 w ≡ true → (card : Card) × ((At love_master q card) × (answer_data card Status ≡ fine_data w))
  unfolding answer_data with_code
  code_card w l t =
      let c = tenths_coded w l t in
      let e : tenths_of c.code ≡ w = omega (arith, c.gives, tenths_word c.code) in
      let n : eqb c.code fault_code ≡ false = ne_eqb c.code fault_code (λ z. omega (arith, z, c.below)) in
      (with_code (unit_card q.address) 0 c.code, (code_at_law c.code (omega (arith, c.below)), ap probe_data (reading_fine c.code n ∙ ap (λ (x : ℕ). Temperature (record { 0 = x })) e)))

  word_card_law : (place w : ℕ) → place < love_count → w < word_values → in_range (love_at + place) w ≡ true → (card : Card) × ((At love_master q card) × (answer_data card (Read place) ≡ value_data w))
  unfolding answer_data
  word_card_law place w h l t =
      let n = (fit_facts (unit_card q.address) (unit_real q.address right).fits).words_length in
      (word_card q.address place w, (word_at place w l t, ap value_data (get_or-set_same (unit_card q.address).words (love_at + place) w 0 (omega (arith, n)))))

  status_long : (w : ℕ) → length (normal_reply q.address (fine_data w)) ≡ status_reply_length
  unfolding normal_reply unit_of pair_of probe_data status_data digits
  status_long w = refl

  value_long : (w : ℕ) → length (normal_reply q.address (value_data w)) ≡ value_reply_length
  unfolding normal_reply unit_of pair_of value_data digits
  value_long w = refl

  status_found : (r : List ℕ) → Or Status r (heard_status q.address r)
  unfolding heard_status
  status_found r =
      by_choice (Or Status r) _ _ _ (λ _. from_data Status r (probe_data Failed) Fault (λ _. fault_card))
      (λ _. by_choice (Or Status r) _ _ _
      (λ t.
      let b = and_true (all_figures decimal (figures_at r (data_at + 4))) _ t in
      from_data Status r (fine_data (status_word r)) (Gives (status_word r ∷ []))
      (λ k. code_card (status_word r) (status_word_below r (k.long ∙ status_long (status_word r)) b.0) b.1))
      (λ _. inl refl))

  value_found : (place : ℕ) (r : List ℕ) → place < love_count → Or (Read place) r (heard_value q.address place r)
  unfolding heard_value
  value_found place r h =
      by_choice (Or (Read place) r) _ _ _
      (λ t.
      let b = and_true (all_figures decimal (figures_at r (data_at + 2))) _ t in
      from_data (Read place) r (value_data (value_word r)) (Gives (value_word r ∷ []))
      (λ k. word_card_law place (value_word r) h (value_word_below r (k.long ∙ value_long (value_word r)) b.0) b.1))
      (λ _. inl refl)

  written_found : (place value : ℕ) (r : List ℕ) → Or (Write place value) r (heard_data q.address r written_data Done)
  unfolding answer_data
  written_found place value r = from_data (Write place value) r written_data Done (λ _. (unit_card q.address, (unit_at, refl)))

  task_found : (task : Task) → task_right task ≡ true → (r : List ℕ) → Or task r (heard_task q.address task r)
  unfolding heard_task task_right
  task_found Status t r = status_found r
  task_found (Read place) t r = value_found place r (ltb-true place love_count t)
  task_found (Write place value) t r = written_found place value r

  -- a reply is 3, an error reply, or some card's answer but perhaps for its check characters
  heard_refused : (r : List ℕ) → is_refusal q.address r ≡ true → heard q r ≡ Refused (byte_at upper_hex r code_at ∷ [])
  unfolding heard
  heard_refused r e = sym (yes _ _ _ _ e refl)

  heard_task_law : (r : List ℕ) → is_refusal q.address r ≡ false → heard q r ≡ heard_task q.address q.task r
  unfolding heard
  heard_task_law r e = sym (no _ _ _ _ e refl)

  kinds : (r : List ℕ) → (heard q r ≡ Unread frame_form) ⊎ ((is_refusal q.address r ≡ true) ⊎ Found q.task r)
  kinds r = by (is_refusal q.address r) refl
    where
      by : (t : Bool) → is_refusal q.address r ≡ t → (heard q r ≡ Unread frame_form) ⊎ ((is_refusal q.address r ≡ true) ⊎ Found q.task r)
      by true e = inr (inl e)
      by false e =
          ⊎_elim (λ (z : heard_task q.address q.task r ≡ Unread frame_form). inl (heard_task_law r e ∙ z)) (λ (c : Found q.task r). inr (inr c))
          (task_found q.task (askable_facts q a.right).1 r)

  -- an answer, or one with other check characters, by the comparison
  abbrev Compared : List ℕ → Card → Hearing → Type 0
  Compared r card h = ((h ≡ answer_to card q.task) × (r ≡ answer_bytes q card)) ⊎ ((h ≡ Unread check_character) ⊎ (h ≡ Unread frame_form))

  compared : (r : List ℕ) (card : Card) → At love_master q card → Near q.address r (answer_data card q.task) → Compared r card (heard q r)
  unfolding heard_data heard_by choose
  compared r card at k =
      subst (Compared r card) (sym (heard_of q a card at r k))
      (by_against check_back check_size r (answer_bytes q card) (λ (n : ℕ). Compared r card (heard_by n (answer_to card q.task)))
      (λ k e. inl (refl, alike_same check_back check_size r (answer_bytes q card) k e)) (λ _ _. inr (inl refl)) (inr (inr refl)))

  reading_said : (x : Reading) → is_said (heard_reading x) ≡ true
  reading_said (Temperature tenths) = refl
  reading_said Failed = refl

  answer_said : (card : Card) (task : Task) → is_said (answer_to card task) ≡ true
  answer_said card Status = reading_said (reading_of (get_or card.memory 0 0))
  answer_said card (Read place) = refl
  answer_said card (Write place value) = refl

  apart : {A : Type 0} (h : Hearing) → h ≡ Unread frame_form → h ≡ Unread check_character → A
  apart h e f =
      let z : Unread frame_form ≡ Unread check_character = sym e ∙ f in
      let n : ◌≡◌ {A = ℕ} 3 4 = cc in
      let w : ⊥ = omega (arith, n) in absurd w

  module _ (r : List ℕ) where
    total : (is_said (heard q r) ≡ true) ⊎ ((heard q r ≡ Unread frame_form) ⊎ (heard q r ≡ Unread check_character))
    total =
        ⊎_elim (λ (e : heard q r ≡ Unread frame_form). inr (inl e))
        (λ (x : (is_refusal q.address r ≡ true) ⊎ Found q.task r).
        ⊎_elim (λ (e : is_refusal q.address r ≡ true). inl (ap is_said (heard_refused r e)))
        (λ (c : Found q.task r).
        ⊎_elim (λ (p : (heard q r ≡ answer_to c.card q.task) × (r ≡ answer_bytes q c.card)). inl (ap is_said p.0 ∙ answer_said c.card q.task))
        (λ (y : (heard q r ≡ Unread check_character) ⊎ (heard q r ≡ Unread frame_form)).
        ⊎_elim (λ (e : heard q r ≡ Unread check_character). inr (inr e)) (λ (e : heard q r ≡ Unread frame_form). inr (inl e)) y)
        (compared r c.card c.at c.alike))
        x)
        (kinds r)

    -- an error reply is some refusal
    refused : is_refusal q.address r ≡ true → Refuses love_master q (heard q r) r
    unfolding obeyed
    refused z =
        let code = byte_at upper_hex r code_at in
        let i = refusal_is q.address r z in
        let f = refusable q.address (leb-true q.address love_address_most (and_true (leb q.address love_address_most) _ right).0) code i.0 in
        let card = unit_card q.address in
        let e : love_reply card room_least f.frame ≡ on_words card (obeyed card.words card.memory (Err (RefusedOrder f.number code))) =
        reply_of_law card room_least f.frame unit_at.real.fits (omega arith) ∙ ap (λ (x : Result Order Refusal). on_words card (obeyed card.words card.memory x)) f.orders in
        let b : (love_reply card room_least f.frame).bytes ≡ r = ap (λ (x : Reply). x.bytes) e ∙ sym i.1 in
        let n : (love_reply card room_least f.frame).number ≡ f.number = ap (λ (x : Reply). x.number) e in
        let l : length r ≡ error_length = ap length i.1 ∙ error_length_law q.address code in
        record {
          card = card;
          at = unit_at;
          frame = f.frame;
          bytes = f.bytes;
          number = omega (arith, n, f.refuses);
          sends = b;
          some = omega (arith, l);
          says = ap (λ (s : List ℕ). Refused (byte_at upper_hex s code_at ∷ [])) b ∙ sym (heard_refused r z);
        }

    -- an answer is a card's
    answers : (card : Card) → At love_master q card → (h : Hearing) → answer_to card q.task ≡ h → r ≡ answer_bytes q card → Answers love_master q h r
    answers card at h s e =
        let b = answered_by q a card at room_least (omega arith) in
        record { card = card; at = at; number = b.0; sends = b.1 ∙ sym e; says = s }

    has : is_said (heard q r) ≡ true → Has love_master q (heard q r) r
    has s =
        ⊎_elim (λ (e : heard q r ≡ Unread frame_form). unsaid (heard q r) frame_form e s)
        (λ (x : (is_refusal q.address r ≡ true) ⊎ Found q.task r).
        ⊎_elim (λ (e : is_refusal q.address r ≡ true). inr (refused e))
        (λ (c : Found q.task r).
        ⊎_elim (λ (p : (heard q r ≡ answer_to c.card q.task) × (r ≡ answer_bytes q c.card)). inl (answers c.card c.at (heard q r) (sym p.0) p.1))
        (λ (y : (heard q r ≡ Unread check_character) ⊎ (heard q r ≡ Unread frame_form)).
        ⊎_elim (λ (e : heard q r ≡ Unread check_character). unsaid (heard q r) check_character e s) (λ (e : heard q r ≡ Unread frame_form). unsaid (heard q r) frame_form e s) y)
        (compared r c.card c.at c.alike))
        x)
        (kinds r)

    -- what a card answers is heard, and what it refuses
    said_answer : (h : Hearing) → Answers love_master q h r → (is_said h ≡ true) × (heard q r ≡ h)
    said_answer h x = (
      ap is_said (sym x.says) ∙ answer_said x.card q.task,
      ap (heard q) (sym x.sends) ∙ (love_hears q a).hears x.card x.at room_least (omega arith) ∙ x.says,
    )

    said_refusal : (h : Hearing) → Refuses love_master q h r → (is_said h ≡ true) × (heard q r ≡ h)
    said_refusal h x =
        let card = x.card in
        let order = asked (address_of card.words) x.frame in
        let e = reply_of_law card room_least x.frame x.at.real.fits (omega arith) in
        let b : (obeyed card.words card.memory order).bytes ≡ r = sym (ap (λ (y : Reply). y.bytes) e) ∙ x.sends in
        let n : (love_reply card room_least x.frame).number ≡ (obeyed card.words card.memory order).number = ap (λ (y : Reply). y.number) e in
        let c = refusal_bytes_law card.words card.memory order (asked_coded (address_of card.words) x.frame) (omega (arith, n, x.number)) (omega (arith, x.some, ap length b)) in
        let i : r ≡ error_reply q.address c.0 = sym b ∙ c.1.1 ∙ ap (λ (k : ℕ). error_reply k c.0) x.at.there in
        let z : is_refusal q.address r ≡ true = ap (is_refusal q.address) i ∙ refusal_heard q.address c.0 c.1.0 in
        let s : heard q r ≡ h = heard_refused r z ∙ ap (λ (l : List ℕ). Refused (byte_at upper_hex l code_at ∷ [])) (sym x.sends) ∙ x.says in
        (ap is_said (sym s ∙ heard_refused r z), s)

    -- an answer with other check characters
    reply_long : (card : Card) → Near q.address r (answer_data card q.task) → check_back ≤ length (answer_bytes q card)
    reply_long card k = omega (arith, normal_length q.address (answer_data card q.task))

    mends : heard q r ≡ Unread check_character → Mended love_master q r
    mends e =
        ⊎_elim (λ (z : heard q r ≡ Unread frame_form). apart (heard q r) z e)
        (λ (x : (is_refusal q.address r ≡ true) ⊎ Found q.task r).
        ⊎_elim (λ (z : is_refusal q.address r ≡ true). unsaid (heard q r) check_character e (ap is_said (heard_refused r z)))
        (λ (c : Found q.task r).
        let answer = answer_bytes q c.card in
        let at = length answer - check_back in
        let n = reply_long c.card c.alike in
        let l : length (part answer at (at + check_size)) ≡ check_size = length_part answer at (at + check_size) (omega arith) (omega arith) ∙ omega arith in
        let b = answered_by q a c.card c.at room_least (omega arith) in
        record {
          characters = part answer at (at + check_size);
          size = l;
          inside = omega (arith, c.alike.long, n);
          says = answer_to c.card q.task;
          answers = record { card = c.card; at = c.at; number = b.0; sends = b.1 ∙ sym (alike_mended check_back check_size r answer (omega arith) n c.alike); says = refl };
        })
        x)
        (kinds r)

    -- a comparison that says 1 or 4
    alike_from : (answer : List ℕ) (s : Bool) → against check_back check_size r answer ≡ choose s done check_character → Alike check_back check_size r answer
    alike_from answer s g =
        by_against check_back check_size r answer (λ (n : ℕ). n ≡ choose s done check_character → Alike check_back check_size r answer) (λ k _ _. k) (λ k _ _. k)
        (by_choice (λ (n : ℕ). frame_form ≡ n → Alike check_back check_size r answer) s done check_character
        (λ _ e. let z : ⊥ = omega (arith, e) in absurd z) (λ _ e. let z : ⊥ = omega (arith, e) in absurd z))
        g

    done_said : (h : Hearing) → is_said h ≡ true → is_said (heard_by done h) ≡ true
    unfolding heard_by choose
    done_said h e = e

    four : (h : Hearing) → heard_by check_character h ≡ Unread check_character
    unfolding heard_by choose
    four h = refl

    mended : Mended love_master q r → (is_said (heard q r) ≡ true) ⊎ (heard q r ≡ Unread check_character)
    unfolding heard_data
    mended m =
        let x = m.answers in
        let answer = answer_bytes q x.card in
        let h = answer_to x.card q.task in
        let e : put r (length r - check_back) m.characters ≡ answer = sym x.sends ∙ (answered_by q a x.card x.at room_least (omega arith)).1 in
        let s = same (part r (length r - check_back) (length r - check_back + check_size)) m.characters in
        let g : against check_back check_size r answer ≡ choose s done check_character =
        ap (against check_back check_size r) (sym e) ∙ against_mended check_back check_size r m.characters m.size (omega arith) m.inside in
        let k : Alike check_back check_size r answer = alike_from answer s g in
        subst (λ (y : Hearing). (is_said y ≡ true) ⊎ (y ≡ Unread check_character)) (sym (heard_of q a x.card x.at r k ∙ ap (λ (n : ℕ). heard_by n h) g))
        (by_choice (λ (n : ℕ). (is_said (heard_by n h) ≡ true) ⊎ (heard_by n h ≡ Unread check_character)) s done check_character
        (λ _. inl (done_said h (answer_said x.card q.task))) (λ _. inr (four h)))

    owed : Owed love_master q r
    owed =
        record {
          total = total;
          has = has;
          said = λ h x. ⊎_elim (λ (y : Answers love_master q h r). said_answer h y) (λ (y : Refuses love_master q h r). said_refusal h y) x;
          mends = mends;
          mended = mended;
        }

pub love_exact : (q : Request) → Askable love_master q → (r : List ℕ) → Below byte_values r → Exact love_master q r
love_exact q a r b = exact_from love_master q r (owed q a r)
