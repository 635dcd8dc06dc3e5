-- What a normal reply shows, wherever a comparison with it does not say 3; and what is heard by a guess at its number is what is heard. Assumes nothing.
use Rattle.std.proofs.Common.{◌≡◌, ℕ, ◌+◌, ◌-◌, ◌*◌, ◌%◌, ◌<◌, ◌≤◌, Bool, true, false, eqb, ltb, leb, ◌⊎◌, List, [], ◌∷◌, length, get_or, sym, refl, ap, ◌∙◌, ap₂, inl, inr, ⊎_elim, arith, length-append, ltb-true, ne_eqb, leb-true}
use native.Mathlib.Decide.{dec_le}
use borrow.Author.Tests.{eqb-false}
use Rattle.wire.specs.Choose.{choose}
use Rattle.wire.specs.Word.{word_values}
use Rattle.wire.proofs.Buffers.{get_d_front, part_front, length_part}
use Rattle.wire.proofs.Cases.{yes as first, by_choice, choose_and}
use Rattle.wire.proofs.Tests.{and_true, or_true}
use Rattle.figures.specs.Figure.{decimal, upper_hex, base, zero_char, figure_of, char_of, all_figures, pair_of}
use Rattle.figures.specs.Decimal.{digits, value_from, value_of}
use Rattle.figures.specs.Signed.{half, is_negative, magnitude, with_sign}
use Rattle.figures.proofs.Decimals.{digits_figures, value_digits, value_below}
use Rattle.figures.proofs.Texts.{magnitude_negative, magnitude_positive, sign_magnitude}
use Rattle.figures.proofs.Known.{char_figure, pair_read}
use Rattle.figures.proofs.Characters.{char_decimal}
use Rattle.card.specs.Numbers.{frame_form}
use Rattle.card.specs.Layout.{love_at, love_count}
use Rattle.card.specs.Fitness.{in_span, in_range, love_least, love_most}
use Rattle.card.specs.declared.probe.Reading.TheVariants.{Temperature}
use Rattle.card.proofs.Ranges.{at_love}
use Rattle.love.specs.Form.{data_at}
use Rattle.love.specs.Frame.{byte_at}
use Rattle.love.specs.Answer.{unit_of, normal_reply, sign_of, positive, negative, figure_count, value_data, fine_char, negative_char, status_data, probe_data}
use Rattle.asking.specs.Hearing.{Hearing, heard_by}
use Rattle.asking.specs.Hearing.Hearing.{Gives, Unread}
use Rattle.asking.specs.Against.{against}
use Rattle.asking.specs.Steps.{is_temperature}
use Rattle.asking.proofs.Compared.{Alike, by_against}
use Rattle.love_master.specs.Heard.{check_back, check_size, figures_at, heard_data, status_word, heard_status, value_word, heard_value}
use Rattle.love_master.specs.Stages.{status_reply_length, value_reply_length, sign_last_at, one_char, number_values, heard_temperature}

-- a reply is the normal one with these data, but perhaps for its check characters
abbrev pub Near : ℕ → List ℕ → List ℕ → Type 0
Near address r d = Alike check_back check_size r (normal_reply address d)

-- the data for 00 of a temperature
abbrev pub fine_data : ℕ → List ℕ
fine_data w = probe_data (Temperature (record { 0 = w }))

-- how long a normal reply is
pub normal_length : (address : ℕ) (d : List ℕ) → length (normal_reply address d) ≡ 7 + length d
unfolding normal_reply unit_of pair_of
normal_length address d = simp length-append (omega arith)

module _ (address : ℕ) (r d : List ℕ) (h : Hearing) where
  -- a reply of another length is 3
  pub other_length : (length r ≡ length (normal_reply address d) → ⊥) → heard_data address r d h ≡ Unread frame_form
  unfolding heard_data heard_by against choose
  other_length n = rw (ne_eqb (length r) (length (normal_reply address d)) n)

  -- what is heard is 3, or the reply is the normal one but for its check characters
  pub heard_or : (heard_data address r d h ≡ Unread frame_form) ⊎ Near address r d
  unfolding heard_data heard_by choose
  heard_or =
      by_against check_back check_size r (normal_reply address d) (λ n. (heard_by n h ≡ Unread frame_form) ⊎ Near address r d)
      (λ k _. inr k) (λ k _. inr k) (inl refl)

-- a guess g at the number v of a reply: what is said of g is what is said of v
settled : (said : ℕ → Hearing) (t : Bool) (v g : ℕ) (none : Hearing) → (t ≡ true → (said v ≡ none) ⊎ (v ≡ g)) → ((said g ≡ none) ⊎ ((t ≡ true) × (v ≡ g)))
    → choose t (said v) none ≡ said g
settled said t v g none f =
    ⊎_elim
    (λ (z : said g ≡ none).
    by_choice (λ (h : Hearing). h ≡ said g) t (said v) none
    (λ e. ⊎_elim (λ (y : said v ≡ none). y ∙ sym z) (λ (q : v ≡ g). ap said q) (f e))
    (λ _. sym z))
    (λ (p : (t ≡ true) × (v ≡ g)). sym (first t (said g) (said v) none p.0 (sym (ap said p.1))))

-- the magnitude of what is in a parameter's range, and of a temperature
pub range_small : (k w : ℕ) → k < love_count → w < word_values → in_range (love_at + k) w ≡ true → magnitude w < number_values
unfolding in_span choose
range_small k w h l e =
    let s : in_span love_least love_most w ≡ true = at_love (love_at + k) w (omega arith) (omega arith) ∙ e in
    by (or_true (leb love_least w) (leb w love_most) s) (dec_le half w)
  where
    by : (leb love_least w ≡ true) ⊎ (leb w love_most ≡ true) → Dec (half ≤ w) → magnitude w < number_values
    by (inl a) (yes n) = omega (arith, leb-true love_least w a, magnitude_negative w n)
    by (inl a) (no n) = let z : ⊥ = omega (arith, leb-true love_least w a) in absurd z
    by (inr a) (yes n) = let z : ⊥ = omega (arith, leb-true w love_most a) in absurd z
    by (inr a) (no n) = omega (arith, leb-true w love_most a, magnitude_positive w (omega arith))

pub temperature_small : (w : ℕ) → w < word_values → is_temperature 1 w ≡ true → magnitude w < number_values
unfolding is_temperature
temperature_small w l e =
    let above = (w + 400) % word_values in
    let most : above ≤ 1270 = leb-true above 1270 (and_true (leb above 1270) (eqb (above % 5) 0) e).0 in
    by most (dec_le half w)
  where
    by : (w + 400) % word_values ≤ 1270 → Dec (half ≤ w) → magnitude w < number_values
    by m (yes n) = omega (arith, m, magnitude_negative w n)
    by m (no n) = omega (arith, m, magnitude_positive w (omega arith))

-- a word of four figures
with_below : (t : Bool) (m : ℕ) → m < number_values → with_sign t m < word_values
unfolding with_sign
with_below t m h =
    by_choice (λ (n : ℕ). n < word_values) _ _ _ (λ _. omega arith)
    (λ _. by_choice (λ (n : ℕ). n < word_values) (eqb m 0) _ _ (λ _. omega arith) (λ e. let z = eqb-false m 0 e in omega arith))

figures_small : (r : List ℕ) (at : ℕ) → at + figure_count ≤ length r → all_figures decimal (figures_at r at) ≡ true → value_of (figures_at r at) < number_values
figures_small r at h f =
    let n : length (figures_at r at) ≡ 4 = length_part r at (at + figure_count) (omega arith) h ∙ omega arith in
    rw n at (value_below (figures_at r at) f)

pub value_word_below : (r : List ℕ) → length r ≡ value_reply_length → all_figures decimal (figures_at r (data_at + 2)) ≡ true → value_word r < word_values
unfolding value_word
value_word_below r l f = with_below (eqb (byte_at upper_hex r data_at) negative) _ (figures_small r (data_at + 2) (omega arith) f)

pub status_word_below : (r : List ℕ) → length r ≡ status_reply_length → all_figures decimal (figures_at r (data_at + 4)) ≡ true → status_word r < word_values
unfolding status_word
status_word_below r l f = with_below (eqb (get_or r (data_at + 3) 0) negative_char) _ (figures_small r (data_at + 4) (omega arith) f)

-- the signs of a reply, read
sign_read : (t : Bool) → eqb (choose t negative positive) negative ≡ t
unfolding choose
sign_read true = refl
sign_read false = refl

sign_byte : (t : Bool) → choose t negative positive < 256
unfolding choose
sign_byte true = omega arith
sign_byte false = omega arith

last_read : (t : Bool) → eqb (char_of (choose t negative positive % base)) one_char ≡ t
unfolding choose char_of
last_read true = refl
last_read false = refl

fourth_read : (t : Bool) → eqb (choose t negative_char zero_char) negative_char ≡ t
unfolding choose
fourth_read true = refl
fourth_read false = refl

-- the number that a code's guess at figures gives
abbrev pub Guess : List ℕ → ℕ → Type 0
Guess s n = all_figures decimal s ≡ true → n ≡ value_of s

-- a reply to a read that is the one for the word w, but perhaps for its check characters
module _ (address : ℕ) (r : List ℕ) (w : ℕ) (k : Near address r (value_data w)) (small : magnitude w < number_values) (word : w < word_values) where
  value_characters : figures_at r (data_at + 2) ≡ digits figure_count (magnitude w)
  unfolding normal_reply unit_of pair_of value_data digits
  value_characters = part_front r (normal_reply address (value_data w)) (data_at + 6) k.before (data_at + 2) (data_at + 6) (omega arith) (omega arith)

  value_sign : byte_at upper_hex r data_at ≡ sign_of w
  unfolding normal_reply unit_of pair_of value_data digits
  value_sign =
      let f = get_d_front r (normal_reply address (value_data w)) (data_at + 6) k.before in
      rw (f data_at (omega arith), f sign_last_at (omega arith)) (pair_read (sign_of w) (sign_byte (is_negative w)))

  value_last : get_or r sign_last_at 0 ≡ char_of (sign_of w % base)
  unfolding normal_reply unit_of pair_of value_data digits
  value_last = get_d_front r (normal_reply address (value_data w)) (data_at + 6) k.before sign_last_at (omega arith)

  pub value_figures : all_figures decimal (figures_at r (data_at + 2)) ≡ true
  value_figures = ap (all_figures decimal) value_characters ∙ digits_figures figure_count (magnitude w)

  value_number : value_of (figures_at r (data_at + 2)) ≡ magnitude w
  value_number = ap value_of value_characters ∙ value_digits figure_count (magnitude w) small

  pub value_word_law : value_word r ≡ w
  unfolding value_word
  value_word_law = ap₂ (λ (t : Bool) (m : ℕ). with_sign t m) (ap (λ (x : ℕ). eqb x negative) value_sign ∙ sign_read (is_negative w)) value_number ∙ sign_magnitude w word

  value_guess : (n : ℕ) → Guess (figures_at r (data_at + 2)) n → with_sign (eqb (get_or r sign_last_at 0) one_char) n ≡ w
  value_guess n g =
      ap₂ (λ (t : Bool) (m : ℕ). with_sign t m) (ap (λ (x : ℕ). eqb x one_char) value_last ∙ last_read (is_negative w)) (g value_figures ∙ value_number) ∙ sign_magnitude w word

-- what is heard in a reply to a read by a word
unfoldable pub said_value : ℕ → ℕ → List ℕ → ℕ → Hearing
said_value address place r w = choose (in_range (love_at + place) w) (heard_data address r (value_data w) (Gives (w ∷ []))) (Unread frame_form)

value_or : (address place : ℕ) (r : List ℕ) (w : ℕ) → place < love_count → w < word_values
    → (said_value address place r w ≡ Unread frame_form) ⊎ (Near address r (value_data w) × (magnitude w < number_values))
unfolding said_value
value_or address place r w h l =
    by_choice (λ (x : Hearing). (x ≡ Unread frame_form) ⊎ (Near address r (value_data w) × (magnitude w < number_values))) _ _ _
    (λ e. ⊎_elim (λ (z : heard_data address r (value_data w) (Gives (w ∷ [])) ≡ Unread frame_form). inl z)
    (λ (k : Near address r (value_data w)). inr (k, range_small place w h l e))
    (heard_or address r (value_data w) (Gives (w ∷ []))))
    (λ _. inl refl)

pub value_settled : (address place : ℕ) (r : List ℕ) (n : ℕ) → place < love_count → length r ≡ value_reply_length → Guess (figures_at r (data_at + 2)) n
    → with_sign (eqb (get_or r sign_last_at 0) one_char) n < word_values
    → heard_value address place r ≡ said_value address place r (with_sign (eqb (get_or r sign_last_at 0) one_char) n)
unfolding heard_value said_value value_word
value_settled address place r n h l g b =
    let t = all_figures decimal (figures_at r (data_at + 2)) in
    let v = value_word r in
    let w = with_sign (eqb (get_or r sign_last_at 0) one_char) n in
    choose_and t (in_range (love_at + place) v) _ _
    ∙ settled (said_value address place r) t v w (Unread frame_form)
    (λ f.
    let vb : v < word_values = value_word_below r l f in
    ⊎_elim (λ (z : said_value address place r v ≡ Unread frame_form). inl z)
    (λ (k : Near address r (value_data v) × (magnitude v < number_values)). inr (sym (value_guess address r v k.0 k.1 vb n g)))
    (value_or address place r v h vb))
    (⊎_elim (λ (z : said_value address place r w ≡ Unread frame_form). inl z)
    (λ (k : Near address r (value_data w) × (magnitude w < number_values)). inr (value_figures address r w k.0 k.1 b, value_word_law address r w k.0 k.1 b))
    (value_or address place r w h b))

-- a reply of another length to a read
pub value_length : (address place : ℕ) (r : List ℕ) → (length r ≡ value_reply_length → ⊥) → heard_value address place r ≡ Unread frame_form
unfolding heard_value value_data pair_of digits
value_length address place r n =
    by_choice (λ (x : Hearing). x ≡ Unread frame_form) _ _ _ (λ _. other_length address r (value_data (value_word r)) _ (λ e. n (e ∙ normal_length address (value_data (value_word r))))) (λ _. refl)

-- a reply to 00 that is the one for the word w, but perhaps for its check characters
module _ (address : ℕ) (r : List ℕ) (w : ℕ) (k : Near address r (fine_data w)) where
  pub status_first : get_or r data_at 0 ≡ fine_char
  unfolding normal_reply unit_of pair_of probe_data status_data digits
  status_first = get_d_front r (normal_reply address (fine_data w)) (data_at + 8) k.before data_at (omega arith)

  status_fourth : get_or r (data_at + 3) 0 ≡ choose (is_negative w) negative_char zero_char
  unfolding normal_reply unit_of pair_of probe_data status_data digits
  status_fourth = get_d_front r (normal_reply address (fine_data w)) (data_at + 8) k.before (data_at + 3) (omega arith)

  status_characters : figures_at r (data_at + 4) ≡ digits figure_count (magnitude w)
  unfolding normal_reply unit_of pair_of probe_data status_data digits
  status_characters = part_front r (normal_reply address (fine_data w)) (data_at + 8) k.before (data_at + 4) (data_at + 8) (omega arith) (omega arith)

  pub status_figures : all_figures decimal (figures_at r (data_at + 4)) ≡ true
  status_figures = ap (all_figures decimal) status_characters ∙ digits_figures figure_count (magnitude w)

  status_guess : (n : ℕ) → magnitude w < number_values → w < word_values → Guess (figures_at r (data_at + 4)) n → with_sign (eqb (get_or r (data_at + 3) 0) negative_char) n ≡ w
  status_guess n small word g =
      ap₂ (λ (t : Bool) (m : ℕ). with_sign t m) (ap (λ (x : ℕ). eqb x negative_char) status_fourth ∙ fourth_read (is_negative w))
      (g status_figures ∙ ap value_of status_characters ∙ value_digits figure_count (magnitude w) small)
      ∙ sign_magnitude w word

  pub status_word_law : magnitude w < number_values → w < word_values → status_word r ≡ w
  unfolding status_word
  status_word_law small word = status_guess (value_of (figures_at r (data_at + 4))) small word (λ _. refl)

-- what is heard in a reply to 00 that shows no fault by a word
unfoldable pub said_status : ℕ → List ℕ → ℕ → Hearing
said_status address r w = choose (is_temperature 1 w) (heard_data address r (fine_data w) (Gives (w ∷ []))) (Unread frame_form)

status_or : (address : ℕ) (r : List ℕ) (w : ℕ) → w < word_values
    → (said_status address r w ≡ Unread frame_form) ⊎ (Near address r (fine_data w) × (magnitude w < number_values))
unfolding said_status
status_or address r w l =
    by_choice (λ (x : Hearing). (x ≡ Unread frame_form) ⊎ (Near address r (fine_data w) × (magnitude w < number_values))) _ _ _
    (λ e. ⊎_elim (λ (z : heard_data address r (fine_data w) (Gives (w ∷ [])) ≡ Unread frame_form). inl z)
    (λ (k : Near address r (fine_data w)). inr (k, temperature_small w l e))
    (heard_or address r (fine_data w) (Gives (w ∷ []))))
    (λ _. inl refl)

pub status_settled : (address : ℕ) (r : List ℕ) (n : ℕ) → length r ≡ status_reply_length → Guess (figures_at r (data_at + 4)) n → with_sign (eqb (get_or r (data_at + 3) 0) negative_char) n < word_values
    → heard_temperature address r ≡ said_status address r (with_sign (eqb (get_or r (data_at + 3) 0) negative_char) n)
unfolding heard_temperature said_status status_word
status_settled address r n l g b =
    let t = all_figures decimal (figures_at r (data_at + 4)) in
    let v = status_word r in
    let w = with_sign (eqb (get_or r (data_at + 3) 0) negative_char) n in
    choose_and t (is_temperature 1 v) _ _
    ∙ settled (said_status address r) t v w (Unread frame_form)
    (λ f. inr (ap (with_sign (eqb (get_or r (data_at + 3) 0) negative_char)) (sym (g f))))
    (⊎_elim (λ (z : said_status address r w ≡ Unread frame_form). inl z)
    (λ (k : Near address r (fine_data w) × (magnitude w < number_values)).
    inr (status_figures address r w k.0, status_word_law address r w k.0 k.1 b))
    (status_or address r w b))

-- a reply to 00 has one length
pub status_whole : (address first fourth number : ℕ) → length (normal_reply address (status_data first fourth number)) ≡ status_reply_length
unfolding normal_reply unit_of pair_of status_data digits
status_whole address first fourth number = refl

-- a reply of another length to 00
pub status_length_law : (address : ℕ) (r : List ℕ) → (length r ≡ status_reply_length → ⊥) → heard_status address r ≡ Unread frame_form
unfolding heard_status probe_data status_data digits
status_length_law address r n =
    let other : (d : List ℕ) (h : Hearing) → length d ≡ 8 → heard_data address r d h ≡ Unread frame_form =
    λ d h l. other_length address r d h (λ e. n (e ∙ normal_length address d ∙ ap (λ (x : ℕ). 7 + x) l)) in
    by_choice (λ (x : Hearing). x ≡ Unread frame_form) _ _ _ (λ _. other _ _ refl)
    (λ _. by_choice (λ (x : Hearing). x ≡ Unread frame_form) _ _ _ (λ _. other _ _ refl) (λ _. refl))

-- four decimal figures, weighed
weigh : (x : ℕ) → ltb (figure_of x) decimal ≡ true → (x ≡ 48 + figure_of x) × (figure_of x < 10)
weigh x h = let l = ltb-true (figure_of x) decimal h in (sym (char_figure x (omega arith)) ∙ char_decimal (figure_of x) l, l)

pub weighed : (a b c d n : ℕ) → n ≡ (1000 * a + 100 * b + (10 * c + d) + (word_values - 53328)) % word_values → Guess (a ∷ b ∷ c ∷ d ∷ []) n
unfolding all_figures value_of value_from
weighed a b c d n e f =
    let p = and_true (ltb (figure_of a) decimal) _ f in
    let q = and_true (ltb (figure_of b) decimal) _ p.1 in
    let s = and_true (ltb (figure_of c) decimal) _ q.1 in
    let t = and_true (ltb (figure_of d) decimal) _ s.1 in
    omega (arith, weigh a p.0, weigh b q.0, weigh c s.0, weigh d t.0, e)
