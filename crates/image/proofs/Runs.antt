-- The form run by run: what each definition is after the next entry of a run, and after the next run. Assumes nothing.
use Rattle.std.proofs.Common.{◌≡◌, ℕ, zero, suc, ◌+◌, ◌-◌, ◌*◌, ◌%◌, ◌<◌, ◌≤◌, List, [], ◌∷◌, ◌++◌, length, get_or, take, drop, set, replicate, sym, refl, ap, ◌∙◌, append_assoc, le_of_suc-le-suc, not-suc-le-zero, add-one, arith, length-append, length-drop, take-append-drop, length-take-le, drop-cons, take-suc}
use Rattle.wire.specs.Word.{word_values, minus}
use Rattle.bits.specs.Bits.{field, put_field, widest}
use Rattle.bits.specs.Fields.{width_of, fields, put_fields}
use Rattle.card.specs.Layout.{word_count}
use Rattle.image.specs.declared.form.Run.{Run}
use Rattle.image.specs.Form.{Entry, entry_of, run, entries_of_run, entries_in, saved_runs, saved_form, holds, widths, used}
use Rattle.image.specs.Scans.{entry_count, run_count, no_run, run_at, entries_at, rest_of, first_of, bits_of}
use Rattle.image.specs.Saved.{field_of, word_of, values, put_entries, replaced}
use Rattle.image.proofs.Words.{Sound, sound, sound_true}

-- Properties of a run

pub length_run : (word n w b : ℕ) → length (run word n w b) ≡ n
unfolding run
length_run word zero w b = refl
length_run word (suc n) w b = ap suc (length_run (suc word) n w b)

pub widths_run : (word n w b : ℕ) → widths (run word n w b) ≡ replicate n w
unfolding run widths
widths_run word zero w b = refl
widths_run word (suc n) w b = ap (λ (ws : List ℕ). w ∷ ws) (widths_run (suc word) n w b)

pub used_run : (word n w b : ℕ) → used (run word n w b) ≡ n * w
unfolding run used widths width_of
used_run word zero w b = omega arith
used_run word (suc n) w b = ap (λ (m : ℕ). w + m) (used_run (suc word) n w b) ∙ omega arith

-- what is left of a run after i of its entries
abbrev pub left : Run → ℕ → List Entry
left r i = run (r.word + i) (r.count - i) r.width r.bias

pub left_all : (r : Run) → left r 0 ≡ entries_of_run r
left_all r = let e : r.word + 0 ≡ r.word = omega arith in let m : r.count - 0 ≡ r.count = omega arith in rw (e, m)

left_next : (r : Run) (i : ℕ) → i < r.count → left r i ≡ entry_of (r.word + i) r.width r.bias ∷ left r (i + 1)
unfolding run
left_next r i h =
    let e : r.count - i ≡ suc (r.count - (i + 1)) = omega arith in
    let m : suc (r.word + i) ≡ r.word + (i + 1) = omega arith in
    ap (λ (k : ℕ). run (r.word + i) k r.width r.bias) e ∙ ap (λ (k : ℕ). entry_of (r.word + i) r.width r.bias ∷ run k (r.count - (i + 1)) r.width r.bias) m

left_none : (r : Run) (i : ℕ) → r.count ≡ i → left r i ≡ []
unfolding run
left_none r i h = let e : r.count - i ≡ 0 = omega arith in rw e

pub used_left : (r : Run) (i : ℕ) → i < r.count → used (left r i) ≡ r.width + used (left r (i + 1))
unfolding used widths width_of
used_left r i h = ap used (left_next r i h)

pub used_end : (r : Run) (i : ℕ) → r.count ≡ i → used (left r i) ≡ 0
unfolding used widths width_of
used_end r i h = ap used (left_none r i h)

pub put_left : (r : Run) (i : ℕ) (ws img : List ℕ) (p : ℕ) → i < r.count
    → put_entries (left r i) ws img p ≡ put_entries (left r (i + 1)) ws (put_field img p r.width ((get_or ws (r.word + i) 0 + r.bias) % word_values)) (p + r.width)
unfolding field_of widths values put_fields
put_left r i ws img p h = ap (λ (f : List Entry). put_entries f ws img p) (left_next r i h)

pub put_end : (r : Run) (i : ℕ) (ws img : List ℕ) (p : ℕ) → r.count ≡ i → put_entries (left r i) ws img p ≡ img
unfolding widths values put_fields
put_end r i ws img p h = ap (λ (f : List Entry). put_entries f ws img p) (left_none r i h)

pub store_left : (r : Run) (i : ℕ) (ws vs : List ℕ) → i < r.count → i < length vs
    → replaced (left r i) ws (drop i vs) ≡ replaced (left r (i + 1)) (set ws (r.word + i) ((get_or vs i 0 + minus r.bias) % word_values)) (drop (i + 1) vs)
unfolding word_of replaced
store_left r i ws vs h l = rw (add-one i, drop-cons vs i 0 l) (ap (λ (f : List Entry). replaced f ws (get_or vs i 0 ∷ drop (suc i) vs)) (left_next r i h) ∙ rw (add-one i))

pub store_end : (r : Run) (i : ℕ) (ws vs : List ℕ) → r.count ≡ i → replaced (left r i) ws vs ≡ ws
unfolding replaced
store_end r i ws vs h = ap (λ (f : List Entry). replaced f ws vs) (left_none r i h)

-- Properties of entries one after another

used_append : (f g : List Entry) → used (f ++ g) ≡ used f + used g
unfolding used widths width_of
used_append [] g = omega arith
used_append (e ∷ f) g = omega (arith, used_append f g)

put_append : (f g : List Entry) (ws img : List ℕ) (p : ℕ) → put_entries (f ++ g) ws img p ≡ put_entries g ws (put_entries f ws img p) (p + used f)
unfolding widths values used width_of put_fields
put_append [] g ws img p = let z : p + 0 ≡ p = omega arith in rw z
put_append (e ∷ f) g ws img p =
    let m : p + e.width + width_of (widths f) ≡ p + (e.width + width_of (widths f)) = omega arith in
    rw (← m) (put_append f g ws (put_field img p e.width (field_of e (get_or ws e.word 0))) (p + e.width))

store_append : (f g : List Entry) (ws vs : List ℕ) → length f ≤ length vs → replaced (f ++ g) ws vs ≡ replaced g (replaced f ws (take (length f) vs)) (drop (length f) vs)
unfolding replaced
store_append [] g ws vs h = refl
store_append (e ∷ f) g ws [] h = absurd (not-suc-le-zero h)
store_append (e ∷ f) g ws (v ∷ vs) h = store_append f g (set ws e.word (word_of e v)) vs (le_of_suc-le-suc h)

read_append : (f g : List Entry) (img : List ℕ) (p : ℕ) → fields img p (widths (f ++ g)) ≡ fields img p (widths f) ++ fields img (p + used f) (widths g)
unfolding widths used width_of fields
read_append [] g img p = let z : p + 0 ≡ p = omega arith in rw z
read_append (e ∷ f) g img p =
    let m : p + e.width + width_of (widths f) ≡ p + (e.width + width_of (widths f)) = omega arith in
    rw (← m) (ap (λ (vs : List ℕ). field img p e.width ∷ vs) (read_append f g img (p + e.width)))

pub length_fields : (form : List Entry) (img : List ℕ) (p : ℕ) → length (fields img p (widths form)) ≡ length form
unfolding widths fields
length_fields [] img p = refl
length_fields (e ∷ form) img p = ap suc (length_fields form img (p + e.width))

-- Properties of the image's form

-- how many bits its entries take
abbrev pub used_bits : ℕ
used_bits = 2338

pub form_length : length saved_form ≡ entry_count
unfolding saved_form saved_runs entries_in run
form_length = refl

pub form_used : used saved_form ≡ used_bits
unfolding saved_form saved_runs entries_in run used widths width_of
form_used = refl

-- it is over the card's words
pub form_sound : Sound word_count saved_form
unfolding saved_form saved_runs entries_in run sound holds
form_sound = sound_true word_count saved_form refl

pub runs_length : length saved_runs ≡ run_count
unfolding saved_runs
runs_length = refl

-- a run's words are among the card's, and its fields are words' at most
pub record RunSound (r : Run) : Type 0 where
  pub among : r.word + r.count ≤ word_count
  pub some : 0 < r.width
  pub narrow : r.width ≤ widest

pub run_sound : (k : ℕ) → k < run_count → RunSound (run_at k)
unfolding saved_runs
run_sound zero h = record { among = omega arith; some = omega arith; narrow = omega arith }
run_sound (suc zero) h = record { among = omega arith; some = omega arith; narrow = omega arith }
run_sound (suc (suc zero)) h = record { among = omega arith; some = omega arith; narrow = omega arith }
run_sound (suc (suc (suc zero))) h = record { among = omega arith; some = omega arith; narrow = omega arith }
run_sound (suc (suc (suc (suc zero)))) h = record { among = omega arith; some = omega arith; narrow = omega arith }
run_sound (suc (suc (suc (suc (suc zero))))) h = record { among = omega arith; some = omega arith; narrow = omega arith }
run_sound (suc (suc (suc (suc (suc (suc k)))))) h = let z : ⊥ = omega arith in absurd z

-- the code's table of the runs
module _ {items : List Run} (same : items ≡ saved_runs) (k : ℕ) where
  pub run_here : get_or items k no_run ≡ run_at k
  run_here = ap (λ (rs : List Run). get_or rs k no_run) same

  pub run_among : k < length items → k < run_count
  run_among h = omega (arith, ap length same, runs_length, h)

  pub run_last : k ≤ length items → length items ≤ k → k ≡ run_count
  run_last l h = omega (arith, ap length same, runs_length, l, h)

in_append : (a b : List Run) → entries_in (a ++ b) ≡ entries_in a ++ entries_in b
unfolding entries_in
in_append [] b = refl
in_append (r ∷ a) b = ap (λ (f : List Entry). entries_of_run r ++ f) (in_append a b) ∙ sym (append_assoc (entries_of_run r) (entries_in a) (entries_in b))

-- from the first run on, and past the last

pub rest_all : rest_of 0 ≡ saved_form
unfolding rest_of saved_form
rest_all = refl

pub rest_none : rest_of run_count ≡ []
unfolding rest_of saved_runs entries_in
rest_none = refl

pub used_none : used (rest_of run_count) ≡ 0
unfolding used widths width_of
used_none = ap used rest_none

pub put_none : (ws img : List ℕ) (p : ℕ) → put_entries (rest_of run_count) ws img p ≡ img
unfolding widths values put_fields
put_none ws img p = ap (λ (f : List Entry). put_entries f ws img p) rest_none

pub read_none : (img : List ℕ) (p : ℕ) → fields img p (widths (rest_of run_count)) ≡ []
unfolding widths fields
read_none img p = ap (λ (f : List Entry). fields img p (widths f)) rest_none

pub store_none : (ws vs : List ℕ) → replaced (rest_of run_count) ws vs ≡ ws
unfolding replaced
store_none ws vs = ap (λ (f : List Entry). replaced f ws vs) rest_none

module _ (k : ℕ) (h : k < run_count) where
  pub rest_next : rest_of k ≡ entries_at k ++ rest_of (k + 1)
  unfolding rest_of entries_in
  rest_next = ap entries_in (drop-cons saved_runs k no_run (omega (arith, runs_length))) ∙ rw (add-one k)

  pub used_rest : used (rest_of k) ≡ bits_of k + used (rest_of (k + 1))
  used_rest = ap used rest_next ∙ used_append (entries_at k) (rest_of (k + 1))

  pub put_rest : (ws img : List ℕ) (p : ℕ) → put_entries (rest_of k) ws img p ≡ put_entries (rest_of (k + 1)) ws (put_entries (entries_at k) ws img p) (p + bits_of k)
  put_rest ws img p = ap (λ (f : List Entry). put_entries f ws img p) rest_next ∙ put_append (entries_at k) (rest_of (k + 1)) ws img p

  pub read_rest : (img : List ℕ) (p : ℕ) → fields img p (widths (rest_of k)) ≡ fields img p (widths (entries_at k)) ++ fields img (p + bits_of k) (widths (rest_of (k + 1)))
  read_rest img p = ap (λ (f : List Entry). fields img p (widths f)) rest_next ∙ read_append (entries_at k) (rest_of (k + 1)) img p

  pub store_rest : (ws vs : List ℕ) → (run_at k).count ≤ length vs → replaced (rest_of k) ws vs ≡ replaced (rest_of (k + 1)) (replaced (entries_at k) ws (take (run_at k).count vs)) (drop (run_at k).count vs)
  store_rest ws vs l =
      let n = length_run (run_at k).word (run_at k).count (run_at k).width (run_at k).bias in
      ap (λ (f : List Entry). replaced f ws vs) rest_next ∙ store_append (entries_at k) (rest_of (k + 1)) ws vs (omega (arith, n)) ∙ rw n

  -- where the next run's entries begin
  pub first_next : first_of (k + 1) ≡ first_of k + (run_at k).count
  unfolding first_of entries_in
  first_next = rw (add-one k, take-suc saved_runs k no_run (omega (arith, runs_length)), in_append (take k saved_runs) (run_at k ∷ []), length-append (entries_in (take k saved_runs)) _, length-append (entries_at k) [], length_run (run_at k).word (run_at k).count (run_at k).width (run_at k).bias) (omega arith)

  pub length_rest : length (rest_of k) ≡ (run_at k).count + length (rest_of (k + 1))
  length_rest = ap length rest_next ∙ length-append (entries_at k) (rest_of (k + 1)) ∙ ap (λ (n : ℕ). n + length (rest_of (k + 1))) (length_run (run_at k).word (run_at k).count (run_at k).width (run_at k).bias)

pub first_none : first_of 0 ≡ 0
unfolding first_of entries_in
first_none = refl

-- the entries before run k, and those from it on, are all
all_in_law : (k : ℕ) → first_of k + length (rest_of k) ≡ entry_count
unfolding first_of rest_of saved_form
all_in_law k =
    sym (length-append (entries_in (take k saved_runs)) (entries_in (drop k saved_runs)))
    ∙ ap length (sym (in_append (take k saved_runs) (drop k saved_runs)) ∙ ap entries_in (take-append-drop k saved_runs))
    ∙ form_length

-- a run's entries are among them
pub first_inside : (k : ℕ) → k < run_count → first_of k + (run_at k).count ≤ entry_count
first_inside k h = omega (arith, all_in_law k, length_rest k h)

pub first_last : first_of run_count ≡ entry_count
first_last = omega (arith, all_in_law run_count, ap length rest_none)

-- a run's part of what stands in all fields
module _ (k : ℕ) (h : k < run_count) {r : Run} (is : r ≡ run_at k) {f : ℕ} (at : f ≡ first_of k) (vs : List ℕ) (long : length vs ≡ length saved_form) where
  pub part_inside : f + r.count ≤ length vs
  part_inside = omega (arith, first_inside k h, ap (λ (q : Run). q.count) is, form_length)

  pub part_length : length (take (f + r.count - f) (drop f vs)) ≡ r.count
  part_length = length-take-le (f + r.count - f) (drop f vs) (omega (arith, length-drop f vs, part_inside)) ∙ omega arith

used_before : (k : ℕ) → used (rest_of k) ≤ used_bits
unfolding rest_of saved_form
used_before k = omega (arith, form_used, used_append (entries_in (take k saved_runs)) (entries_in (drop k saved_runs)), ap used (sym (in_append (take k saved_runs) (drop k saved_runs)) ∙ ap entries_in (take-append-drop k saved_runs)))

pub bits_most : (k : ℕ) → k < run_count → bits_of k ≤ used_bits
bits_most k h = omega (arith, used_before k, used_rest k h)
