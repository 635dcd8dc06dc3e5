-- The test of what stands in the fields, run by run, as `entries_right` makes it. Assumes nothing.
use Rattle.std.proofs.Common.{◌≡◌, ℕ, zero, suc, ◌+◌, ◌-◌, ◌%◌, ◌<◌, ◌≤◌, Bool, true, ◌&&◌, List, [], ◌∷◌, ◌++◌, length, get_or, take, drop, sym, refl, ap, ◌∙◌, le_of_suc-le-suc, not-suc-le-zero, arith, length-drop, length-take, drop-cons, drop-drop}
use native.Mathlib.Decide.{dec_lt}
use lib.ListN.{get_or-eq_default}
use Rattle.wire.specs.Buffer.{part}
use Rattle.wire.specs.Word.{word_values, minus}
use Rattle.wire.proofs.Tests.{and_assoc, and_true_right}
use Rattle.wire.proofs.Buffers.{length_part, get_d_part}
use Rattle.card.specs.Layout.{ia_at, lecom_address_at, love_address_at, saved_registers_at, registers, saved_parameters_at, parameter_count, love_at, love_count}
use Rattle.card.specs.Fitness.{in_span, in_range, in_ranges, love_most}
use Rattle.card.specs.Scans.{all_in, fit_parameters}
use Rattle.card.proofs.Spans.{span_from}
use Rattle.card.proofs.Ranges.{at_love, at_register, ranges_run, ranges_pairs}
use Rattle.image.specs.Form.{Entry, run, entries_in, saved_runs, saved_form, ia_width, lecom_width, love_address_width, register_width, register_bias, parameter_width, love_width, love_bias}
use Rattle.image.specs.Scans.{first_register, first_parameter, first_love, entry_count, run_count, run_at, entries_at, rest_of, first_of}
use Rattle.image.specs.Saved.{word_of}
use Rattle.image.specs.Ranges.{entry_right, entries_right}
use Rattle.image.proofs.Words.{Words}
use Rattle.image.proofs.Ranges.{entry_range}
use Rattle.image.proofs.Runs.{length_run, form_length, rest_all, rest_none, rest_next, first_none, first_next, first_inside}

-- the words in whose fields the values vs stand, where b was added
unfoldable words_of : ℕ → List ℕ → List ℕ
words_of b [] = []
words_of b (v ∷ vs) = (v + minus b) % word_values ∷ words_of b vs

right_run : (word n w b : ℕ) (vs : List ℕ) → length vs ≡ n → entries_right (run word n w b) vs ≡ in_ranges word (words_of b vs)
unfolding run entries_right word_of in_ranges words_of
right_run word zero w b [] e = refl
right_run word zero w b (v ∷ vs) e = let z : ⊥ = omega arith in absurd z
right_run word (suc n) w b [] e = let z : ⊥ = omega arith in absurd z
right_run word (suc n) w b (v ∷ vs) e = rw (entry_range _ ((v + minus b) % word_values), right_run (suc word) n w b vs (omega arith))

-- without a bias
words_of_none : (vs : List ℕ) → Words vs → words_of 0 vs ≡ vs
unfolding words_of
words_of_none [] h = refl
words_of_none (v ∷ vs) h = let e : (v + minus 0) % word_values ≡ v = let l = h 0 in omega arith in rw (e, words_of_none vs (λ k. h (suc k)))

-- a range from −b on is one from 0 on for what stands in the fields
moved : (b hi v : ℕ) → 0 < b → hi + b < word_values → v < word_values → in_span (minus b) hi ((v + minus b) % word_values) ≡ in_span 0 (hi + b) v
moved b hi v p l h =
    span_from (minus b) hi ((v + minus b) % word_values) (hi + b) v (omega arith) l h (omega arith) refl
    ∙ sym (span_from 0 (hi + b) v (hi + b) v (omega arith) l h (omega arith) (omega arith))

moved_all : (b hi : ℕ) (vs : List ℕ) → 0 < b → hi + b < word_values → Words vs → all_in (minus b) hi (words_of b vs) ≡ all_in 0 (hi + b) vs
unfolding all_in words_of
moved_all b hi [] p l h = refl
moved_all b hi (v ∷ vs) p l h = rw (moved b hi v p l (h 0), moved_all b hi vs p l (λ k. h (suc k)))

length_words_of : (b : ℕ) (vs : List ℕ) → length (words_of b vs) ≡ length vs
unfolding words_of
length_words_of b [] = refl
length_words_of b (v ∷ vs) = ap suc (length_words_of b vs)

-- a run whose words are all from −b to hi
right_span : (word n w b hi : ℕ) (vs : List ℕ) → length vs ≡ n → 0 < b → hi + b < word_values → Words vs → ((j x : ℕ) → word ≤ j → j < word + n → in_span (minus b) hi x ≡ in_range j x) → entries_right (run word n w b) vs ≡ all_in 0 (hi + b) vs
right_span word n w b hi vs e p l h f =
    right_run word n w b vs e ∙ ranges_run (minus b) hi word (words_of b vs) (λ j x g m. f j x g (omega (arith, length_words_of b vs, e))) ∙ moved_all b hi vs p l h

right_append : (f g : List Entry) (vs : List ℕ) → length f ≤ length vs → entries_right (f ++ g) vs ≡ (entries_right f (take (length f) vs) && entries_right g (drop (length f) vs))
unfolding entries_right
right_append [] g vs h = refl
right_append (e ∷ f) g [] h = absurd (not-suc-le-zero h)
right_append (e ∷ f) g (v ∷ vs) h = rw (right_append f g vs (le_of_suc-le-suc h)) (and_assoc (entry_right e (word_of e v)) (entries_right f (take (length f) vs)) (entries_right g (drop (length f) vs)))

-- the entries from run k on: those of run k, and those of the next on
right_rest : (k : ℕ) → k < run_count → (vs : List ℕ) → length vs ≡ length saved_form
    → entries_right (rest_of k) (drop (first_of k) vs) ≡ (entries_right (entries_at k) (part vs (first_of k) (first_of (k + 1))) && entries_right (rest_of (k + 1)) (drop (first_of (k + 1)) vs))
right_rest k h vs l =
    let n = length_run (run_at k).word (run_at k).count (run_at k).width (run_at k).bias in
    let m : first_of (k + 1) - first_of k ≡ (run_at k).count = omega (arith, first_next k h) in
    ap (λ (f : List Entry). entries_right f (drop (first_of k) vs)) (rest_next k h)
    ∙ right_append (entries_at k) (rest_of (k + 1)) (drop (first_of k) vs) (omega (arith, n, length-drop (first_of k) vs, first_inside k h, form_length))
    ∙ rw (n, m, first_next k h, drop-drop (run_at k).count (first_of k) vs)

-- where each run begins
firsts : (first_of 1 ≡ 1) × (first_of 2 ≡ 2) × (first_of 3 ≡ first_register) × (first_of 4 ≡ first_parameter) × (first_of 5 ≡ first_love) × (first_of 6 ≡ entry_count)
unfolding first_of saved_runs entries_in run
firsts = (refl, refl, refl, refl, refl, refl)

module _ (vs : List ℕ) (long : length vs ≡ length saved_form) (hw : Words vs) where
  -- the values of a part are words
  words_part : (a e : ℕ) → Words (part vs a e)
  words_part a e k = by (dec_lt k (e - a))
    where
      by : Dec (k < e - a) → get_or (part vs a e) k 0 < word_values
      by (yes h) = rw (get_d_part vs a e k h) (hw (a + k))
      by (no h) = rw (get_or-eq_default (part vs a e) 0 {n = k} (omega (arith, length-take (e - a) (drop a vs)))) (omega arith)

  -- a part of one value
  one : (k : ℕ) → k < length vs → part vs k (suc k) ≡ get_or vs k 0 ∷ []
  one k h = let e : suc k - k ≡ 1 = omega arith in rw (e, drop-cons vs k 0 h)

  -- a run of one word without a bias
  right_one : (word w k : ℕ) → k < length vs → entries_right (run word 1 w 0) (part vs k (suc k)) ≡ in_range word (get_or vs k 0)
  unfolding in_ranges
  right_one word w k h =
      right_run word 1 w 0 (part vs k (suc k)) (ap length (one k h)) ∙ ap (in_ranges word) (words_of_none (part vs k (suc k)) (words_part k (suc k)) ∙ one k h) ∙ and_true_right (in_range word (get_or vs k 0))

  -- the test of run k
  abbrev Here : ℕ → Bool
  Here k = entries_right (entries_at k) (part vs (first_of k) (first_of (k + 1)))

  by_runs : entries_right saved_form vs ≡ (Here 0 && (Here 1 && (Here 2 && (Here 3 && (Here 4 && (Here 5 && true))))))
  unfolding entries_right
  by_runs =
      let next : (k : ℕ) → k < run_count → entries_right (rest_of k) (drop (first_of k) vs) ≡ (Here k && entries_right (rest_of (k + 1)) (drop (first_of (k + 1)) vs)) = λ k h. right_rest k h vs long in
      let start : entries_right saved_form vs ≡ entries_right (rest_of 0) (drop (first_of 0) vs) = rw (rest_all, first_none) in
      let end : entries_right (rest_of run_count) (drop (first_of run_count) vs) ≡ true = ap (λ (f : List Entry). entries_right f (drop (first_of run_count) vs)) rest_none in
      start ∙ rw (next 0 (omega arith), next 1 (omega arith), next 2 (omega arith), next 3 (omega arith), next 4 (omega arith), next 5 (omega arith), end)

  abbrev size : length vs ≡ entry_count
  size = long ∙ form_length

  -- each run's test as the code makes it
  addresses : (Here 0 ≡ in_range ia_at (get_or vs 0 0)) × (Here 1 ≡ in_range lecom_address_at (get_or vs 1 0)) × (Here 2 ≡ in_range love_address_at (get_or vs 2 0))
  unfolding saved_runs
  addresses = (
    rw (first_none, firsts.0) (right_one ia_at ia_width 0 (omega (arith, size))),
    rw (firsts.0, firsts.1) (right_one lecom_address_at lecom_width 1 (omega (arith, size))),
    rw (firsts.1, firsts.2) (right_one love_address_at love_address_width 2 (omega (arith, size))),
  )

  registers_right : Here 3 ≡ all_in 0 (register_bias + register_bias) (part vs first_register first_parameter)
  unfolding saved_runs
  registers_right =
      rw (firsts.2, firsts.3)
      (right_span saved_registers_at registers register_width register_bias register_bias (part vs first_register first_parameter) (length_part vs first_register first_parameter (omega arith) (omega (arith, size))) (omega arith) (omega arith) (words_part first_register first_parameter) (λ j x g m. at_register j x (omega arith)))

  parameters_right : Here 4 ≡ fit_parameters (part vs first_parameter first_love)
  unfolding saved_runs
  parameters_right =
      let n = length_part vs first_parameter first_love (omega arith) (omega (arith, size)) in
      rw (firsts.3, firsts.4)
      (right_run saved_parameters_at parameter_count parameter_width 0 (part vs first_parameter first_love) n ∙ ap (in_ranges saved_parameters_at) (words_of_none (part vs first_parameter first_love) (words_part first_parameter first_love))
      ∙ ranges_pairs saved_parameters_at (part vs first_parameter first_love) (omega arith) (omega (arith, n)) (omega arith) (omega (arith, n)))

  limits_right : Here 5 ≡ all_in 0 (love_most + love_bias) (part vs first_love entry_count)
  unfolding saved_runs
  limits_right =
      rw (firsts.4, firsts.5)
      (right_span love_at love_count love_width love_bias love_most (part vs first_love entry_count) (length_part vs first_love entry_count (omega arith) (omega (arith, size))) (omega arith) (omega arith) (words_part first_love entry_count) (λ j x g m. at_love j x g (omega arith)))

  -- the test of all of them
  pub judged : (in_range ia_at (get_or vs 0 0) && (in_range lecom_address_at (get_or vs 1 0) && (in_range love_address_at (get_or vs 2 0)
      && (all_in 0 (register_bias + register_bias) (part vs first_register first_parameter) && (fit_parameters (part vs first_parameter first_love) && all_in 0 (love_most + love_bias) (part vs first_love entry_count)))))) ≡ entries_right saved_form vs
  judged = sym (by_runs ∙ rw (addresses.0, addresses.1, addresses.2, registers_right, parameters_right, limits_right, and_true_right (all_in 0 (love_most + love_bias) (part vs first_love entry_count))))
