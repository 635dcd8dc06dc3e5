-- The range of a word by its index: what the runs of one range are, that words are fit exactly if each is in its range, and that words stay fit
-- where those stored are in theirs. Assumes nothing.
use Rattle.std.proofs.Common.{◌≡◌, ℕ, zero, suc, ◌+◌, ◌-◌, ◌%◌, ◌<◌, ◌≤◌, Bool, true, false, ◌&&◌, eqb, ltb, leb, List, [], ◌∷◌, ◌++◌, length, get_or, drop, set, sym, refl, ap, ◌∙◌, subst, not-suc-le-zero, zero-add, arith, length-set, take-append-drop, get_or-set_other, get_or-set_same, drop-drop, le-ltb, lt-ltb, eq-eqb, ne_eqb, eqb-true, le-leb}
use Rattle.std.proofs.Math.Decide.{dec_lt}
use Rattle.std.proofs.lemmas.Bool.{lt-leb, eqb-false}
use Rattle.wire.specs.Choose.{choose}
use Rattle.wire.specs.Buffer.{part, put}
use Rattle.wire.specs.Word.{minus}
use Rattle.wire.proofs.Cases.{yes as taken, no as left}
use Rattle.wire.proofs.Tests.{and_true, both, and_assoc}
use Rattle.wire.proofs.Buffers.{length_part, length_put, part_rest, get_d_part, get_d_put_before, get_d_put_at, get_d_put_after}
use Rattle.card.specs.Layout.{ia_at, lecom_address_at, love_address_at, love_at, demands_at, parameters_at, parameter_count, buffer_at, word_count}
use Rattle.card.specs.Fitness.{in_span, in_range, in_ranges, fit_words, ia_most, lecom_right, love_right, love_least, love_most, demand_most, cycle_least, cycle_most, floor_most, register_most}
use Rattle.card.specs.Scans.{all_in, fit_addresses, fit_parameters}

-- Runs of one range

pub at_love : (k x : ℕ) → love_at ≤ k → k < demands_at → in_span love_least love_most x ≡ in_range k x
unfolding in_range
at_love k x a b =
    left _ _ _ _ (ne_eqb k 0 (λ e. omega arith)) (left _ _ _ _ (ne_eqb k 1 (λ e. omega arith)) (left _ _ _ _ (ne_eqb k 2 (λ e. omega arith))
    (taken _ _ _ _ (lt-ltb k demands_at b) refl)))

-- past the Love parameters
past_love : (k x : ℕ) (t : Bool) → demands_at ≤ k
    → t ≡ choose (ltb k parameters_at) (in_span 0 demand_most x) (choose (leb buffer_at k) (in_span (minus register_most) register_most x) (choose (eqb ((k - parameters_at) % 2) 0) (in_span cycle_least cycle_most x) (in_span 0 floor_most x)))
    → t ≡ in_range k x
unfolding in_range
past_love k x t a e =
    left _ _ _ _ (ne_eqb k 0 (λ e. omega arith)) (left _ _ _ _ (ne_eqb k 1 (λ e. omega arith)) (left _ _ _ _ (ne_eqb k 2 (λ e. omega arith))
    (left _ _ _ _ (le-ltb k demands_at a) e)))

pub at_demand : (k x : ℕ) → demands_at ≤ k → k < parameters_at → in_span 0 demand_most x ≡ in_range k x
at_demand k x a b = past_love k x _ a (taken _ _ _ _ (lt-ltb k parameters_at b) refl)

pub at_register : (k x : ℕ) → buffer_at ≤ k → in_span (minus register_most) register_most x ≡ in_range k x
at_register k x a = past_love k x _ (omega arith) (left _ _ _ _ (le-ltb k parameters_at (omega arith)) (taken _ _ _ _ (le-leb buffer_at k a) refl))

-- the range of the i-th parameter of both copies: 1110h at even places, 1120h at odd ones
unfoldable pub parameter : ℕ → ℕ → Bool
parameter i x = choose (eqb (i % 2) 0) (in_span cycle_least cycle_most x) (in_span 0 floor_most x)

parity : (m n x : ℕ) → m % 2 ≡ n % 2 → parameter m x ≡ parameter n x
unfolding parameter
parity m n x e = rw e

pub at_parameter : (k x : ℕ) → parameters_at ≤ k → k < buffer_at → parameter (k - parameters_at) x ≡ in_range k x
unfolding parameter
at_parameter k x a b = past_love k x _ (omega arith) (left _ _ _ _ (le-ltb k parameters_at a) (left _ _ _ _ (lt-leb buffer_at k b) refl))

pub at_cycle : (k x : ℕ) → parameters_at ≤ k → k < buffer_at → (k - parameters_at) % 2 ≡ 0 → in_span cycle_least cycle_most x ≡ in_range k x
unfolding parameter
at_cycle k x a b e = taken _ _ _ _ (eq-eqb ((k - parameters_at) % 2) 0 e) refl ∙ at_parameter k x a b

pub at_floor : (k x : ℕ) → parameters_at ≤ k → k < buffer_at → ((k - parameters_at) % 2 ≡ 0 → ⊥) → in_span 0 floor_most x ≡ in_range k x
unfolding parameter
at_floor k x a b n = left _ _ _ _ (ne_eqb ((k - parameters_at) % 2) 0 n) refl ∙ at_parameter k x a b

-- a parameter and its saved copy have one range
pub parameter_copy : (i x : ℕ) → i < parameter_count → in_range (parameters_at + parameter_count + i) x ≡ in_range (parameters_at + i) x
parameter_copy i x h =
    let a : parameters_at + parameter_count + i - parameters_at ≡ parameter_count + i = omega arith in
    let b : parameters_at + i - parameters_at ≡ i = omega arith in
    let same : (parameter_count + i) % 2 ≡ i % 2 = omega arith in
    sym (at_parameter (parameters_at + parameter_count + i) x (omega arith) (omega arith)) ∙ ap (λ (n : ℕ). parameter n x) a ∙ parity (parameter_count + i) i x same
    ∙ ap (λ (n : ℕ). parameter n x) (sym b) ∙ at_parameter (parameters_at + i) x (omega arith) (omega arith)

-- Each word in its range

-- every word is in its range
abbrev pub InRange : List ℕ → Type 0
InRange ws = (k : ℕ) → k < length ws → in_range k (get_or ws k 0) ≡ true

ranges_at : (n : ℕ) (ws : List ℕ) → in_ranges n ws ≡ true → (i : ℕ) → i < length ws → in_range (n + i) (get_or ws i 0) ≡ true
unfolding in_ranges
ranges_at n [] t i h = absurd (not-suc-le-zero h)
ranges_at n (x ∷ ws) t zero h = let e : n + zero ≡ n = omega arith in rw e (and_true (in_range n x) (in_ranges (suc n) ws) t).0
ranges_at n (x ∷ ws) t (suc i) h =
    let e : n + suc i ≡ suc n + i = omega arith in
    rw e (ranges_at (suc n) ws (and_true (in_range n x) (in_ranges (suc n) ws) t).1 i (omega arith))

ranges_from : (n : ℕ) (ws : List ℕ) → ((i : ℕ) → i < length ws → in_range (n + i) (get_or ws i 0) ≡ true) → in_ranges n ws ≡ true
unfolding in_ranges
ranges_from n [] h = refl
ranges_from n (x ∷ ws) h =
    let e : n + zero ≡ n = omega arith in
    both (rw e at (h zero (omega arith)))
    (ranges_from (suc n) ws (λ i l. let d : suc n + i ≡ n + suc i = omega arith in rw d (h (suc i) (omega arith))))

pub words_at : (ws : List ℕ) → fit_words ws ≡ true → InRange ws
unfolding fit_words
words_at ws t k h = rw zero-add at (ranges_at 0 ws t k h)

pub words_from : (ws : List ℕ) → InRange ws → fit_words ws ≡ true
unfolding fit_words
words_from ws h = ranges_from 0 ws (λ k l. rw zero-add (h k l))

-- Words that stay fit

-- a word in its range, stored
pub set_fit : (ws : List ℕ) (k x : ℕ) → fit_words ws ≡ true → in_range k x ≡ true → fit_words (set ws k x) ≡ true
set_fit ws k x t h = words_from (set ws k x) (λ j l. by j (rw length-set at l) (eqb j k) refl)
  where
    by : (j : ℕ) → j < length ws → (s : Bool) → eqb j k ≡ s → in_range j (get_or (set ws k x) j 0) ≡ true
    by j l true e = let m : j ≡ k = eqb-true j k e in rw (m, get_or-set_same ws k x 0 (omega arith)) h
    by j l false e = rw (get_or-set_other ws k j x 0 (eqb-false j k e)) (words_at ws t j l)

-- words each in its range, put from index to on
pub put_fit : (ws : List ℕ) (to : ℕ) (s : List ℕ) → to + length s ≤ length ws → fit_words ws ≡ true → ((i : ℕ) → i < length s → in_range (to + i) (get_or s i 0) ≡ true) → fit_words (put ws to s) ≡ true
put_fit ws to s fits t h = words_from (put ws to s) (λ k l. by k (rw (length_put ws to s fits) at l) (dec_lt k to) (dec_lt k (to + length s)))
  where
    by : (k : ℕ) → k < length ws → Dec (k < to) → Dec (k < to + length s) → in_range k (get_or (put ws to s) k 0) ≡ true
    by k l (yes a) d = rw (get_d_put_before ws to s fits k a) (words_at ws t k l)
    by k l (no n) (yes d) =
        let e : to + (k - to) ≡ k = omega arith in
        subst (λ (j : ℕ). in_range j (get_or (put ws to s) j 0) ≡ true) e (rw (get_d_put_at ws to s fits (k - to) (omega arith)) (h (k - to) (omega arith)))
    by k l (no n) (no m) = rw (get_d_put_after ws to s fits k (omega arith)) (words_at ws t k l)

-- n words copied to where the ranges are the same
pub copied_fit : (ws : List ℕ) (from to n : ℕ) → from + n ≤ length ws → to + n ≤ length ws → fit_words ws ≡ true → ((i x : ℕ) → i < n → in_range (from + i) x ≡ in_range (to + i) x)
    → fit_words (put ws to (part ws from (from + n))) ≡ true
copied_fit ws from to n a b t same =
    let l : length (part ws from (from + n)) ≡ n = length_part ws from (from + n) (omega arith) a ∙ omega arith in
    put_fit ws to (part ws from (from + n)) (omega arith) t
    (λ i h.
    rw (get_d_part ws from (from + n) i (omega arith)) (sym (same i (get_or ws (from + i) 0) (omega arith)) ∙ words_at ws t (from + i) (omega arith)))

-- Words scanned by runs

ranges_append : (k : ℕ) (s t : List ℕ) → in_ranges k (s ++ t) ≡ (in_ranges k s && in_ranges (k + length s) t)
unfolding in_ranges
ranges_append k [] t = let e : k + 0 ≡ k = omega arith in rw e
ranges_append k (x ∷ s) t =
    let e : k + suc (length s) ≡ suc k + length s = omega arith in
    rw (ranges_append (suc k) s t, e) (and_assoc (in_range k x) (in_ranges (suc k) s) (in_ranges (suc k + length s) t))

-- the words from index a on are those up to index e and those from there on
ranges_part : (ws : List ℕ) (a e : ℕ) → a ≤ e → e ≤ length ws → in_ranges a (drop a ws) ≡ (in_ranges a (part ws a e) && in_ranges e (drop e ws))
ranges_part ws a e h k =
    let n : a + length (part ws a e) ≡ e = omega (arith, length_part ws a e h k) in
    let m : a + (e - a) ≡ e = omega arith in
    let back : drop (e - a) (drop a ws) ≡ drop e ws = drop-drop (e - a) a ws ∙ ap (λ (i : ℕ). drop i ws) m in
    ap (in_ranges a) (sym (take-append-drop (e - a) (drop a ws)))
    ∙ ranges_append a (part ws a e) (drop (e - a) (drop a ws))
    ∙ ap (λ (l : List ℕ). in_ranges a (part ws a e) && in_ranges (a + length (part ws a e)) l) back
    ∙ ap (λ (i : ℕ). in_ranges a (part ws a e) && in_ranges i (drop e ws)) n

-- words of one range
pub ranges_run : (lo hi k : ℕ) (s : List ℕ) → ((j x : ℕ) → k ≤ j → j < k + length s → in_span lo hi x ≡ in_range j x) → in_ranges k s ≡ all_in lo hi s
unfolding in_ranges all_in
ranges_run lo hi k [] h = refl
ranges_run lo hi k (x ∷ s) h = rw (h k x (omega arith) (omega arith)) (ap (λ (t : Bool). in_range k x && t) (ranges_run lo hi (suc k) s (λ j y a b. h j y (omega arith) (omega arith))))

-- pairs of parameters
pub ranges_pairs : (k : ℕ) (s : List ℕ) → parameters_at ≤ k → k + length s ≤ buffer_at → (k - parameters_at) % 2 ≡ 0 → length s % 2 ≡ 0 → in_ranges k s ≡ fit_parameters s
unfolding in_ranges fit_parameters
ranges_pairs k [] a b even pairs = refl
ranges_pairs k (x ∷ []) a b even pairs = let z : ⊥ = omega arith in absurd z
ranges_pairs k (x ∷ y ∷ s) a b even pairs =
    rw (at_cycle k x a (omega arith) even, at_floor (suc k) y (omega arith) (omega arith) (λ e. omega arith), ranges_pairs (suc (suc k)) s (omega arith) (omega arith) (omega arith) (omega arith))

-- the three addresses, and the words after them
ranges_addresses : (ws : List ℕ) → love_at ≤ length ws
    → in_ranges 0 ws ≡ (fit_addresses (get_or ws ia_at 0) (get_or ws lecom_address_at 0) (get_or ws love_address_at 0) && in_ranges love_at (drop love_at ws))
unfolding in_ranges in_range fit_addresses choose
ranges_addresses [] h = let z : ⊥ = omega arith in absurd z
ranges_addresses (x ∷ []) h = let z : ⊥ = omega arith in absurd z
ranges_addresses (x ∷ y ∷ []) h = let z : ⊥ = omega arith in absurd z
ranges_addresses (x ∷ y ∷ z ∷ ws) h =
    let rest = in_ranges love_at ws in
    ap (λ (t : Bool). leb x ia_most && t) (and_assoc (lecom_right y) (love_right z) rest) ∙ and_assoc (leb x ia_most) (lecom_right y && love_right z) rest

-- the test of all words is that of the scans, run by run
pub words_scanned : (ws : List ℕ) → length ws ≡ word_count
    → (fit_addresses (get_or ws ia_at 0) (get_or ws lecom_address_at 0) (get_or ws love_address_at 0)
    && (all_in love_least love_most (part ws love_at demands_at)
    && (all_in 0 demand_most (part ws demands_at parameters_at)
    && (fit_parameters (part ws parameters_at buffer_at)
    && all_in (minus register_most) register_most (part ws buffer_at word_count)))))
    ≡ fit_words ws
unfolding fit_words
words_scanned ws l =
    let love = ranges_run love_least love_most love_at (part ws love_at demands_at) (λ j x a b. at_love j x a (omega (arith, length_part ws love_at demands_at (omega arith) (omega arith)))) in
    let demands = ranges_run 0 demand_most demands_at (part ws demands_at parameters_at) (λ j x a b. at_demand j x a (omega (arith, length_part ws demands_at parameters_at (omega arith) (omega arith)))) in
    let pairs = length_part ws parameters_at buffer_at (omega arith) (omega arith) in
    let parameters = ranges_pairs parameters_at (part ws parameters_at buffer_at) (omega arith) (omega (arith, pairs)) (omega arith) (omega (arith, pairs)) in
    let registers = ranges_run (minus register_most) register_most buffer_at (drop buffer_at ws) (λ j x a b. at_register j x a) in
    let all : part ws buffer_at word_count ≡ drop buffer_at ws = ap (part ws buffer_at) (sym l) ∙ part_rest ws buffer_at in
    sym
    (ranges_addresses ws (omega arith)
    ∙ rw (ranges_part ws love_at demands_at (omega arith) (omega arith), love, ranges_part ws demands_at parameters_at (omega arith) (omega arith), demands, ranges_part ws parameters_at buffer_at (omega arith) (omega arith), parameters, registers, all))
