-- LucidControl: what is heard in a reply is exactly what document 01 has. Assumes nothing.
use Rattle.std.proofs.Common.{◌≡◌, ℕ, ◌+◌, ◌-◌, ◌*◌, ◌^◌, ◌<◌, Bool, true, false, ◌&&◌, eqb, ◌⊎◌, List, [], ◌∷◌, length, get_or, drop, set, sym, refl, ap, ◌∙◌, subst, inl, inr, ⊎_elim, arith, length-drop, drop_of_length-le, take_all, get_or-set_same, ltb-true, eqb-true}
use Rattle.wire.specs.Choose.{choose}
use Rattle.wire.specs.Buffer.{put, same}
use Rattle.wire.specs.Sum.{byte_values}
use Rattle.wire.proofs.Buffers.{put_none}
use Rattle.wire.proofs.Cases.{by_choice}
use Rattle.wire.proofs.Same.{same_true}
use Rattle.wire.proofs.Tests.{and_true}
use Rattle.card.specs.Numbers.{answered, frame_form, check_character}
use Rattle.card.specs.Layout.{Card, with_words, channels, parameters_at}
use Rattle.card.specs.Fitness.{in_range}
use Rattle.card.specs.Start.{start_card}
use Rattle.card.specs.Reply.{Reply, WordsReply, leaving, room_least}
use Rattle.card.proofs.Facts.{fit_facts}
use Rattle.lucid.specs.Form.{channels_of, size_of, parameter_size, ok, err_execution, little, number_at}
use Rattle.lucid.specs.Frame.{place_of}
use Rattle.lucid.specs.Answer.{Values, Held, Failed, group, value_of, read, obeyed}
use Rattle.lucid.proofs.Frames.{place_within}
use Rattle.lucid.proofs.Laws.{one_channel}
use Rattle.lucid.proofs.Numbers.{little_number}
use Rattle.asking.specs.Hearing.{Hearing, is_said}
use Rattle.asking.specs.Hearing.Hearing.{Gives, Done, Fault, Refused, Unread}
use Rattle.asking.specs.Claims.{Below, Real, Askable, Answers, Refuses, Has, Exact}
use Rattle.asking.proofs.Cards.{start_real, real_set}
use Rattle.asking.proofs.Exactness.{Mended, exact_from}
use Rattle.lucid_master.specs.Request.{Asking, type_known, p1_right, p2_right, made}
use Rattle.lucid_master.specs.Heard.{head_size, is_status, shaped, values_from, all_answerable, heard_values, heard_parameter, heard_done, heard_command, heard}
use Rattle.lucid_master.specs.declared.request.Command.{Command}
use Rattle.lucid_master.specs.declared.request.Command.TheVariants.{GetIo, GetIoGroup, SetIo, SetIoGroup, GetParam, SetParam, Reset}
use Rattle.lucid_master.proofs.Requests.{Parts, parts}
use Rattle.lucid_master.proofs.Values.{shaped_length}
use Rattle.masters.specs.Lucid.{order_of, word_in, said_by, answer_to, answer_of, lucid_master}
use Rattle.masters.proofs.LucidMeans.{asking}
use Rattle.masters.proofs.LucidValues.{encoded, bytes_of, group_bytes, length_encoded, length_values, values_sayable, values_bytes, quad_below}
use Rattle.masters.proofs.LucidHears.{group_one, made_reply, lucid_hears}
use Rattle.masters.proofs.LucidRefuses.{refusal_said, refuses, faults}
use Rattle.masters.proofs.LucidCards.{holding}

-- What is heard is said, or 3

-- an outcome of reading
abbrev Settled : Hearing → Type 0
Settled h = (is_said h ≡ true) ⊎ (h ≡ Unread frame_form)

-- a test, of which the other way is 3
or_form : (t : Bool) (h : Hearing) → is_said h ≡ true → Settled (choose t h (Unread frame_form))
or_form t h s = by_choice Settled t h (Unread frame_form) (λ _. inl s) (λ _. inr refl)

-- for each command
settled_command : (command : Command) (q : Asking) (r : List ℕ) → Settled (heard_command command q.request r)
unfolding heard_command heard_values heard_parameter heard_done
settled_command GetIo q r = or_form _ _ refl
settled_command GetIoGroup q r = or_form _ _ refl
settled_command SetIo q r = or_form _ _ refl
settled_command SetIoGroup q r = or_form _ _ refl
settled_command GetParam q r = or_form _ _ refl
settled_command SetParam q r = or_form _ _ refl
settled_command Reset q r = or_form _ _ refl

-- and in all
settled : (q : Asking) (r : List ℕ) → Settled (heard q r)
unfolding heard
settled q r =
    by_choice Settled (same r (err_execution ∷ 0 ∷ [])) _ _ (λ _. inl refl)
    (λ _. by_choice Settled (is_status (get_or r 0 0) && same r (get_or r 0 0 ∷ 0 ∷ [])) _ _ (λ _. inl refl) (λ _. settled_command q.request.command q r))

-- nothing is said where a number is
unsaid : {A : Type 0} → false ≡ true → A
unsaid e = let z : ◌≡◌ {A = ℕ} 0 1 = cc in let n : ⊥ = omega arith in absurd n

-- What document 01 has is heard

-- an answer says something
said_values : (v : Values) → is_said (said_by v) ≡ true
unfolding said_by
said_values (Held words) = refl
said_values Failed = refl

-- to every command
said_command : (card : Card) (command : Command) (p1 p2 address : ℕ) → is_said (answer_to card command p1 p2 address) ≡ true
unfolding answer_to
said_command card GetIo p1 p2 address = said_values (word_in card p2 p1)
said_command card GetIoGroup p1 p2 address = said_values (group (word_in card p2) (channels_of p1))
said_command card SetIo p1 p2 address = refl
said_command card SetIoGroup p1 p2 address = refl
said_command card GetParam p1 p2 address = refl
said_command card SetParam p1 p2 address = refl
said_command card Reset p1 p2 address = refl

module _ (q : Asking) (a : Askable lucid_master q) where
  -- an answer that document 01 has is heard
  answer_said : (h : Hearing) (r : List ℕ) → Answers lucid_master q h r → (is_said h ≡ true) × (heard q r ≡ h)
  unfolding answer_of
  answer_said h r x =
      let s = q.request in (
        ap is_said (sym x.says) ∙ said_command x.card s.command s.p1 s.p2 s.address,
        ap (heard q) (sym x.sends) ∙ (lucid_hears q a).hears x.card x.at room_least (omega arith) ∙ x.says,
      )

  -- and a refusal
  has_said : (h : Hearing) (r : List ℕ) → Has lucid_master q h r → (is_said h ≡ true) × (heard q r ≡ h)
  has_said h r = ⊎_elim (λ (x : Answers lucid_master q h r). answer_said h r x) (λ (x : Refuses lucid_master q h r). refusal_said q h r x)

  -- a card that answers so
  answers : (card : Card) → Real card → (h : Hearing) (r : List ℕ)
      → (obeyed card.words card.memory (made q) (order_of q.request.command q.request.p1 q.request.p2 q.request.address q.values)).number ≡ answered
      → (obeyed card.words card.memory (made q) (order_of q.request.command q.request.p1 q.request.p2 q.request.address q.values)).bytes ≡ r
      → answer_of card q ≡ h → Answers lucid_master q h r
  answers card real h r n b s =
      let e = made_reply q a card room_least real.fits (omega arith) in
      record { card = card; at = record { real = real; there = refl }; number = ap (λ (y : Reply). y.number) e ∙ n; sends = ap (λ (y : Reply). y.bytes) e ∙ b; says = s }

-- an answer by its parts
shaped_parts : (r : List ℕ) (n : ℕ) → shaped r n ≡ true → r ≡ ok ∷ n ∷ drop head_size r
unfolding shaped
shaped_parts [] n h = let z : ⊥ = omega (arith, shaped_length [] n h) in absurd z
shaped_parts (x ∷ []) n h = let z : ⊥ = omega (arith, shaped_length (x ∷ []) n h) in absurd z
shaped_parts (x ∷ y ∷ s) n h =
    let b = and_true (eqb x ok) (eqb y n) (and_true (eqb (length (x ∷ y ∷ s)) (head_size + n)) _ h).1 in
    rw (eqb-true x ok b.0, eqb-true y n b.1)

-- an answer without data
shaped_none : (r : List ℕ) → shaped r 0 ≡ true → r ≡ ok ∷ 0 ∷ []
shaped_none r h = shaped_parts r 0 h ∙ ap (λ (s : List ℕ). ok ∷ 0 ∷ s) (drop_of_length-le r {i = head_size} (omega (arith, shaped_length r 0 h)))

module _ (p1 p2 address : ℕ) (values r : List ℕ) (bytes : Below byte_values r) where
  -- done
  done_answers : (command : Command) (a : Askable lucid_master (asking command p1 p2 address values))
      → (obeyed start_card.words start_card.memory (made (asking command p1 p2 address values)) (order_of command p1 p2 address values)).number ≡ answered
      → (obeyed start_card.words start_card.memory (made (asking command p1 p2 address values)) (order_of command p1 p2 address values)).bytes ≡ ok ∷ 0 ∷ []
      → answer_of start_card (asking command p1 p2 address values) ≡ Done → is_said (heard_done r) ≡ true → Answers lucid_master (asking command p1 p2 address values) (heard_done r) r
  unfolding heard_done
  done_answers command a n b s =
      by_choice (λ (h : Hearing). is_said h ≡ true → Answers lucid_master (asking command p1 p2 address values) h r) (shaped r 0) Done (Unread frame_form)
      (λ e _. answers (asking command p1 p2 address values) a start_card start_real Done r n (b ∙ sym (shaped_none r e)) s) (λ _ z. unsaid z)

  -- values of channels
  read_answers : (command : Command) (mask : ℕ) (a : Askable lucid_master (asking command p1 p2 address values)) → type_known p2 ≡ true
      → ((card : Card) (words : List ℕ) → group (word_in card p2) (channels_of mask) ≡ Held words → answer_of card (asking command p1 p2 address values) ≡ Gives words)
      → ((card : Card) → obeyed card.words card.memory (made (asking command p1 p2 address values)) (order_of command p1 p2 address values)
      ≡ leaving card.words (read (group (value_of card.words card.memory p2) (channels_of mask))))
      → is_said (heard_values p2 (length (channels_of mask)) r) ≡ true → Answers lucid_master (asking command p1 p2 address values) (heard_values p2 (length (channels_of mask)) r) r
  unfolding heard_values read
  read_answers command mask a known says does =
      let n = length (channels_of mask) in
      let words = values_from p2 n r head_size in
      by_choice (λ (h : Hearing). is_said h ≡ true → Answers lucid_master (asking command p1 p2 address values) h r) (shaped r (size_of p2 * n) && all_answerable p2 words) (Gives words) (Unread frame_form)
      (λ e _. given words refl (and_true (shaped r (size_of p2 * n)) _ e)) (λ _ z. unsaid z)
    where
      given : (words : List ℕ) → words ≡ values_from p2 (length (channels_of mask)) r head_size
          → (shaped r (size_of p2 * length (channels_of mask)) ≡ true) × (all_answerable p2 (values_from p2 (length (channels_of mask)) r head_size) ≡ true)
          → Answers lucid_master (asking command p1 p2 address values) (Gives words) r
      given words w e =
          let n = length (channels_of mask) in
          let count : length words ≡ n = ap length w ∙ length_values p2 known r bytes n head_size in
          let sayable = rw (← w) at (values_sayable p2 known r bytes n head_size e.1) in
          let x = holding p2 channels 0 mask known (omega arith) words count sayable in
          let card = x.card in
          let told = does card ∙ ap (λ (v : Values). leaving card.words (read v)) (group_bytes card p2 (channels_of mask) ∙ ap (bytes_of p2) x.holds) in
          let data' : drop head_size r ≡ encoded p2 words = rw (← w) at (values_bytes p2 known r bytes n head_size (shaped_length r (size_of p2 * n) e.0)) in
          let long : length (encoded p2 words) ≡ size_of p2 * n = length_encoded p2 words ∙ ap (λ (m : ℕ). size_of p2 * m) count in
          let whole : ok ∷ length (encoded p2 words) ∷ encoded p2 words ≡ r = sym (shaped_parts r (size_of p2 * n) e.0 ∙ rw (data', long)) in
          answers (asking command p1 p2 address values) a card x.real (Gives words) r (ap (λ (y : WordsReply). y.number) told) (ap (λ (y : WordsReply). y.bytes) told ∙ whole)
          (says card words x.holds)

  -- a parameter's value
  parameter_answers : (a : Askable lucid_master (asking GetParam p1 p2 address values)) → p1 < channels
      → is_said (heard_parameter (place_of p1 address) r) ≡ true → Answers lucid_master (asking GetParam p1 p2 address values) (heard_parameter (place_of p1 address) r) r
  unfolding heard_parameter order_of obeyed answer_of answer_to little
  parameter_answers a channel =
      let place = place_of p1 address in
      let value = number_at parameter_size r head_size in
      by_choice (λ (h : Hearing). is_said h ≡ true → Answers lucid_master (asking GetParam p1 p2 address values) h r) (shaped r parameter_size && in_range (parameters_at + place) value) _ _
      (λ e _.
      let b = and_true (shaped r parameter_size) _ e in
      let f = fit_facts start_card start_real.fits in
      let card = with_words start_card (set start_card.words (parameters_at + place) value) in
      let inside = place_within p1 address channel in
      let holds : get_or card.words (parameters_at + place) 0 ≡ value = get_or-set_same start_card.words (parameters_at + place) value 0 (omega (arith, f.words_length)) in
      let long = shaped_length r parameter_size b.0 in
      let all : little parameter_size value ≡ drop head_size r =
      little_number parameter_size r head_size bytes (omega (arith, long)) ∙ take_all parameter_size (drop head_size r) (rw length-drop (omega (arith, long))) in
      let real = real_set start_card (parameters_at + place) value start_real (quad_below r head_size bytes) b.1 in
      answers (asking GetParam p1 p2 address values) a card real (Gives (value ∷ [])) r refl
      (ap (λ (x : ℕ). ok ∷ parameter_size ∷ little parameter_size x) holds ∙ ap (λ (s : List ℕ). ok ∷ parameter_size ∷ s) all ∙ sym (shaped_parts r parameter_size b.0))
      (ap (λ (x : ℕ). Gives (x ∷ [])) holds))
      (λ _ z. unsaid z)

-- whatever the command
command_answers : (command : Command) (p1 p2 address : ℕ) (values r : List ℕ) → Below byte_values r → (a : Askable lucid_master (asking command p1 p2 address values))
    → Parts command p1 p2 address values
    → is_said (heard_command command (asking command p1 p2 address values).request r) ≡ true
    → Answers lucid_master (asking command p1 p2 address values) (heard_command command (asking command p1 p2 address values).request r) r
unfolding heard_command order_of obeyed answer_of answer_to said_by p1_right p2_right
command_answers GetIo p1 p2 address values r bytes a p =
    let one = one_channel p1 (ltb-true p1 channels p.first) in
    rw (ap length one) at (read_answers p1 p2 address values r bytes GetIo (2 ^ p1) a p.second
    (λ card words e. ap said_by (sym (ap (group (word_in card p2)) one ∙ group_one (word_in card p2) p1) ∙ e)) (λ card. refl))
command_answers GetIoGroup p1 p2 address values r bytes a p = read_answers p1 p2 address values r bytes GetIoGroup p1 a p.second (λ card words e. ap said_by e) (λ card. refl)
command_answers SetIo p1 p2 address values r bytes a p = done_answers p1 p2 address values r bytes SetIo a refl refl refl
command_answers SetIoGroup p1 p2 address values r bytes a p = done_answers p1 p2 address values r bytes SetIoGroup a refl refl refl
command_answers GetParam p1 p2 address values r bytes a p = parameter_answers p1 p2 address values r bytes a (ltb-true p1 channels p.first)
command_answers SetParam p1 p2 address values r bytes a p = done_answers p1 p2 address values r bytes SetParam a refl refl refl
command_answers Reset p1 p2 address values r bytes a p = done_answers p1 p2 address values r bytes Reset a refl refl refl

-- no characters put at the end
put_nothing : (r characters : List ℕ) → length characters ≡ 0 → put r (length r - 0) characters ≡ r
put_nothing r [] h = put_none r (length r - 0)
put_nothing r (x ∷ characters) h = let z : ⊥ = omega arith in absurd z

module _ (q : Asking) (a : Askable lucid_master q) (r : List ℕ) (bytes : Below byte_values r) where
  -- what is heard document 01 has
  said_has : is_said (heard q r) ≡ true → Has lucid_master q (heard q r) r
  unfolding heard
  said_has =
      let s = q.request in
      by_choice P (same r (err_execution ∷ 0 ∷ [])) _ _
      (λ e _. inr (subst (λ (l : List ℕ). Refuses lucid_master q Fault l) (sym (same_true r (err_execution ∷ 0 ∷ []) e)) (faults q)))
      (λ _. by_choice P (is_status (get_or r 0 0) && same r (get_or r 0 0 ∷ 0 ∷ [])) _ _
      (λ e _.
      let b = and_true (is_status (get_or r 0 0)) _ e in
      inr (subst (λ (l : List ℕ). Refuses lucid_master q (Refused (get_or r 0 0 ∷ [])) l) (sym (same_true r (get_or r 0 0 ∷ 0 ∷ []) b.1)) (refuses q (get_or r 0 0) b.0)))
      (λ _ h. inl (command_answers s.command s.p1 s.p2 s.address q.values r bytes a (parts s q.values a.right) h)))
    where
      P : Hearing → Type 0
      P h = is_said h ≡ true → Has lucid_master q h r

  -- there are no check characters: what can be mended is an answer as it is
  mended_said : Mended lucid_master q r → is_said (heard q r) ≡ true
  mended_said m =
      let none = put_nothing r m.characters m.size in
      let x = answer_said q a m.says r (subst (λ (l : List ℕ). Answers lucid_master q m.says l) none m.answers) in
      ap is_said x.1 ∙ x.0

  -- 4 is never heard
  never_four : {A : Type 0} → heard q r ≡ Unread check_character → A
  never_four e =
      ⊎_elim (λ (s : is_said (heard q r) ≡ true). unsaid (ap is_said (sym e) ∙ s))
      (λ (f : heard q r ≡ Unread frame_form).
      let z : Unread frame_form ≡ Unread check_character = sym f ∙ e in
      let n : frame_form ≡ check_character = cc in
      let w : ⊥ = omega (arith, n) in absurd w)
      (settled q r)

  -- exact
  pub lucid_exact : Exact lucid_master q r
  lucid_exact =
      exact_from lucid_master q r
      (record {
        total = ⊎_elim (λ (s : is_said (heard q r) ≡ true). inl s) (λ (f : heard q r ≡ Unread frame_form). inr (inl f)) (settled q r);
        has = said_has;
        said = λ h x. has_said q a h r x;
        mends = λ e. never_four e;
        mended = λ m. inl (mended_said m);
      })
