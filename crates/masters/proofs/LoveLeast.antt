-- Love: of several frames for one request the master makes the shortest, then the lowest byte by byte. Assumes nothing.
use Rattle.std.proofs.Common.{◌≡◌, ℕ, ◌+◌, ◌/◌, ◌%◌, ◌<◌, ◌≤◌, Bool, true, false, ◌||◌, eqb, ltb, List, [], ◌∷◌, ◌++◌, length, get_or, drop, Ok, sym, refl, ap, ◌∙◌, subst, ap₂, arith, take-append-drop, drop_of_length-le, drop-cons, drop-drop, lt-ltb, eq-eqb, ne_eqb, eqb-true}
use native.Mathlib.Decide.{dec_lt}
use Rattle.wire.specs.Choose.{choose}
use Rattle.wire.specs.Buffer.{part}
use Rattle.wire.specs.Word.{minus}
use Rattle.wire.specs.Sum.{sum_of}
use Rattle.wire.proofs.Buffers.{length_part}
use Rattle.wire.proofs.Cases.{yes as first, by_choice}
use Rattle.wire.proofs.Tests.{or_true_right}
use Rattle.figures.specs.Figure.{decimal, hex, base, zero_char, upper_f, char_of, pair_of}
use Rattle.figures.specs.Decimal.{digits, value_of}
use Rattle.figures.specs.Signed.{is_negative, magnitude, with_sign}
use Rattle.figures.proofs.Decimals.{value_below}
use Rattle.figures.proofs.Texts.{magnitude_negative, magnitude_positive, negative_at_least}
use Rattle.figures.proofs.Known.{digits_known}
use Rattle.figures.proofs.EitherCase.{low_pair, last_pair}
use Rattle.card.specs.Layout.{love_count}
use Rattle.card.specs.Fitness.{love_hundred}
use Rattle.love.specs.Form.{stx, etx, filter_of, command_at, parameter_at, value_at, sign_at, status_command, read_command, write_command, sp1, sp2, allo, alhi, plus_sign, minus_sign}
use Rattle.love.specs.Frame.{byte_at, parameter_of, sign_right, number_in, asked}
use Rattle.love.specs.Frame.{data_of as frameData}
use Rattle.love.specs.Answer.{figure_count}
use Rattle.love.specs.Stages.{order_in}
use Rattle.love.specs.declared.frame.Order.TheVariants.{Probe, Read as ReadOrder, Write as WriteOrder}
use Rattle.love.proofs.Hosts.{host_frame}
use Rattle.love.proofs.Unique.{Held, asked_held, Shape, shaped, first_four, host_known}
use Rattle.asking.specs.Claims.{Askable, Least, no_higher, no_later}
use Rattle.love_master.specs.declared.request.Task.{Task}
use Rattle.love_master.specs.declared.request.Task.TheVariants.{Status, Read, Write}
use Rattle.love_master.specs.declared.request.Request.{Request}
use Rattle.love_master.specs.Request.{half_of, sign_of, data_of, made_longest}
use Rattle.asking.proofs.Later.{no_higher_law}
use Rattle.love_master.specs.Stages.{number_values}
use Rattle.love_master.proofs.Errors.{askable_facts}
use Rattle.masters.specs.Love.{order_of, asked_of, love_master}
use Rattle.masters.proofs.LoveMeans.{made_host, love_means}

-- a list is no higher than one that is as high or higher in two places behind the same beginning
higher_behind : (p s t : List ℕ) → no_higher s t ≡ true → no_higher (p ++ s) (p ++ t) ≡ true
unfolding no_higher
higher_behind [] s t h = h
higher_behind (x ∷ p) s t h = rw (eq-eqb x x refl, higher_behind p s t h) (or_true_right (ltb x x))

higher_below : (x y : ℕ) (s t : List ℕ) → x < y → no_higher (x ∷ s) (y ∷ t) ≡ true
unfolding no_higher
higher_below x y s t h = rw (lt-ltb x y h)

higher_next : (x y : ℕ) (s t : List ℕ) → x ≡ y → no_higher s t ≡ true → no_higher (x ∷ s) (y ∷ t) ≡ true
unfolding no_higher
higher_next x y s t e h = rw (eq-eqb x y e, h) (or_true_right (ltb x y))

higher_two : (x₀ y₀ x y : ℕ) (s t : List ℕ) → x₀ ≤ x → y₀ ≤ y → (x₀ ≡ x → y₀ ≡ y → s ≡ t) → no_higher (x₀ ∷ y₀ ∷ s) (x ∷ y ∷ t) ≡ true
higher_two x₀ y₀ x y s t a b f = by (dec_lt x₀ x) (dec_lt y₀ y)
  where
    by : Dec (x₀ < x) → Dec (y₀ < y) → no_higher (x₀ ∷ y₀ ∷ s) (x ∷ y ∷ t) ≡ true
    by (yes l) d = higher_below x₀ x (y₀ ∷ s) (y ∷ t) l
    by (no l) (yes m) = let e : x₀ ≡ x = omega arith in higher_next x₀ x (y₀ ∷ s) (y ∷ t) e (higher_below y₀ y s t m)
    by (no l) (no m) =
        let e : x₀ ≡ x = omega arith in
        let g : y₀ ≡ y = omega arith in
        higher_next x₀ x (y₀ ∷ s) (y ∷ t) e (higher_next y₀ y s t g (ap (no_higher s) (sym (f e g)) ∙ no_higher_law s))

later_same : (s t : List ℕ) → length s ≡ length t → no_higher s t ≡ true → no_later s t ≡ true
unfolding no_later
later_same s t l h = rw (eq-eqb (length s) (length t) l, h) (or_true_right (ltb (length s) (length t)))

-- the second half of a command is known from the parameter
half_sp1 : sp1 ≡ half_of 0
unfolding half_of choose
half_sp1 = refl

half_sp2 : sp2 ≡ half_of 1
unfolding half_of choose
half_sp2 = refl

half_allo : allo ≡ half_of 2
unfolding half_of choose
half_allo = refl

half_alhi : alhi ≡ half_of 3
unfolding half_of choose
half_alhi = refl

parameter_known : (low k : ℕ) → parameter_of low ≡ k → k < love_count → low ≡ half_of k
unfolding parameter_of
parameter_known low k =
    by_choice P (eqb low sp1) _ _ (λ e n _. eqb-true low sp1 e ∙ half_sp1 ∙ ap half_of n)
    (λ _. by_choice P (eqb low sp2) _ _ (λ e n _. eqb-true low sp2 e ∙ half_sp2 ∙ ap half_of n)
    (λ _. by_choice P (eqb low allo) _ _ (λ e n _. eqb-true low allo e ∙ half_allo ∙ ap half_of n)
    (λ _. by_choice P (eqb low alhi) _ _ (λ e n _. eqb-true low alhi e ∙ half_alhi ∙ ap half_of n)
    (λ _ n l. let z : ⊥ = omega arith in absurd z))))
  where
    P : ℕ → Type 0
    P n = n ≡ k → k < love_count → low ≡ half_of k

half_low : (k : ℕ) → half_of k < decimal
unfolding half_of
half_low k =
    by_choice (λ (n : ℕ). n < decimal) _ _ _ (λ _. omega arith)
    (λ _. by_choice (λ (n : ℕ). n < decimal) _ _ _ (λ _. omega arith) (λ _. by_choice (λ (n : ℕ). n < decimal) _ _ _ (λ _. omega arith) (λ _. omega arith)))

-- the data of 00 and of a read are known
status_known : (s : List ℕ) → Shape s (Ok Probe) → s ≡ data_of Status
unfolding data_of pair_of
status_known s h =
    let a : s ≡ get_or s 0 0 ∷ drop 1 s = drop-cons s 0 0 (omega (arith, h.0)) in
    let b : drop 1 s ≡ get_or s 1 0 ∷ drop 2 s = drop-cons s 1 0 (omega (arith, h.0)) in
    let e : drop 2 s ≡ [] = drop_of_length-le s {i = 2} (omega (arith, h.0)) in
    let p = low_pair (get_or s 0 0) (get_or s 1 0) status_command (omega arith) (omega arith) (omega arith) h.1 in
    a ∙ ap (λ (l : List ℕ). get_or s 0 0 ∷ l) (b ∙ ap (λ (l : List ℕ). get_or s 1 0 ∷ l) e) ∙ ap₂ (λ (x y : ℕ). x ∷ y ∷ []) p.0 p.1

-- a command and its parameter
command_known_law : (s : List ℕ) (command k : ℕ) → 4 ≤ length s → command < decimal → byte_at hex s command_at ≡ command → parameter_of (byte_at hex s parameter_at) ≡ k → k < love_count
    → s ≡ pair_of command ++ (pair_of (half_of k) ++ drop 4 s)
unfolding pair_of
command_known_law s command k l m c n h =
    let p = low_pair (get_or s 0 0) (get_or s 1 0) command (omega arith) (omega arith) (omega arith) c in
    let o = half_low k in
    let g = low_pair (get_or s 2 0) (get_or s 3 0) (half_of k) (omega arith) (omega arith) (omega arith) (parameter_known (byte_at hex s parameter_at) k n h) in
    first_four s l
    ∙ ap₂ (λ (x y : ℕ). x ∷ y ∷ get_or s 2 0 ∷ get_or s 3 0 ∷ drop 4 s) p.0 p.1
    ∙ ap₂ (λ (x y : ℕ). char_of (command / base) ∷ char_of (command % base) ∷ x ∷ y ∷ drop 4 s) g.0 g.1

read_known : (s : List ℕ) (k : ℕ) → Shape s (Ok (ReadOrder k)) → s ≡ data_of (Read k)
unfolding data_of pair_of
read_known s k h =
    let e : drop 4 s ≡ [] = drop_of_length-le s {i = 4} (omega (arith, h.0.0)) in
    command_known_law s read_command k (omega (arith, h.0.0)) (omega arith) h.0.1 h.1.0 h.1.1 ∙ ap (λ (l : List ℕ). pair_of read_command ++ (pair_of (half_of k) ++ l)) e

-- the data of a write, but for its sign's characters
abbrev signed : ℕ → ℕ → ℕ → ℕ → List ℕ
signed k m x y = pair_of write_command ++ (pair_of (half_of k) ++ (digits figure_count m ++ (x ∷ y ∷ [])))

-- sign and magnitude of a word of four figures
minus_word : (m : ℕ) → 0 < m → with_sign true m ≡ minus m
unfolding with_sign choose
minus_word m h = rw (ne_eqb m 0 (λ e. omega (arith, e)))

signed_magnitude : (t : Bool) (m : ℕ) → m < number_values → (magnitude (with_sign t m) ≡ m) × (is_negative (with_sign t m) ≡ true → t ≡ true)
unfolding with_sign choose
signed_magnitude false m h = (magnitude_positive m (omega arith), λ e. let z : ⊥ = omega (arith, negative_at_least m e) in absurd z)
signed_magnitude true m h = (by (dec_lt 0 m), λ e. refl)
  where
    by : Dec (0 < m) → magnitude (with_sign true m) ≡ m
    by (yes l) = ap magnitude (minus_word m l) ∙ magnitude_negative (minus m) (omega arith) ∙ omega arith
    by (no l) =
        let e : m ≡ 0 = omega arith in
        ap (λ (n : ℕ). magnitude (with_sign true n)) e ∙ magnitude_positive 0 (omega arith) ∙ sym e

-- what is known of a write's data
module _ (s : List ℕ) (k value : ℕ) (h : Shape s (Ok (WriteOrder k value))) where
  abbrev figures : List ℕ
  figures = part s value_at sign_at

  figures_long : length figures ≡ figure_count
  figures_long = length_part s value_at sign_at (omega arith) (omega (arith, h.0.0.0)) ∙ omega arith

  number_small : value_of figures < number_values
  number_small = rw figures_long at (value_below figures h.1.0)

  number_is : with_sign (eqb (byte_at hex s sign_at) minus_sign) (value_of figures) ≡ value
  unfolding number_in
  number_is = h.1.1.1

  number_magnitude : magnitude value ≡ value_of figures
  number_magnitude = ap magnitude (sym number_is) ∙ (signed_magnitude (eqb (byte_at hex s sign_at) minus_sign) (value_of figures) number_small).0

  number_negative : is_negative value ≡ true → byte_at hex s sign_at ≡ minus_sign
  number_negative e =
      eqb-true (byte_at hex s sign_at) minus_sign ((signed_magnitude (eqb (byte_at hex s sign_at) minus_sign) (value_of figures) number_small).1 (ap is_negative number_is ∙ e))

  write_known : s ≡ signed k (magnitude value) (get_or s sign_at 0) (get_or s (sign_at + 1) 0)
  write_known =
      let a : drop 8 s ≡ get_or s 8 0 ∷ drop 9 s = drop-cons s 8 0 (omega (arith, h.0.0.0)) in
      let b : drop 9 s ≡ get_or s 9 0 ∷ drop 10 s = drop-cons s 9 0 (omega (arith, h.0.0.0)) in
      let e : drop 10 s ≡ [] = drop_of_length-le s {i = 10} (omega (arith, h.0.0.0)) in
      let d : figures ≡ digits figure_count (magnitude value) = digits_known figure_count figures h.1.0 figures_long ∙ ap (digits figure_count) (sym number_magnitude) in
      let l : drop 4 s ≡ digits figure_count (magnitude value) ++ (get_or s 8 0 ∷ get_or s 9 0 ∷ []) =
      sym (take-append-drop 4 (drop 4 s)) ∙ ap₂ (λ (x y : List ℕ). x ++ y) d (drop-drop 4 4 s ∙ a ∙ ap (λ (x : List ℕ). get_or s 8 0 ∷ x) (b ∙ ap (λ (x : List ℕ). get_or s 9 0 ∷ x) e)) in
      command_known_law s write_command k (omega (arith, h.0.0.0)) (omega arith) h.0.0.1 h.0.1.0 h.0.1.1 ∙ ap (λ (x : List ℕ). pair_of write_command ++ (pair_of (half_of k) ++ x)) l

  -- the made sign is no higher in either character
  sign_least : (char_of (sign_of value / base) ≤ get_or s sign_at 0) × (char_of (sign_of value % base) ≤ get_or s (sign_at + 1) 0)
  unfolding choose char_of sign_right
  sign_least = by (is_negative value) refl
    where
      minused : byte_at hex s sign_at ≡ minus_sign → (upper_f ≤ get_or s sign_at 0) × (upper_f ≤ get_or s (sign_at + 1) 0)
      minused e = last_pair (get_or s sign_at 0) (get_or s (sign_at + 1) 0) e

      plain : byte_at hex s sign_at ≡ plus_sign → (zero_char ≤ get_or s sign_at 0) × (zero_char ≤ get_or s (sign_at + 1) 0)
      plain e = let p = low_pair (get_or s sign_at 0) (get_or s (sign_at + 1) 0) plus_sign (omega arith) (omega arith) (omega arith) e in (omega (arith, p.0), omega (arith, p.1))

      either : (p m : Bool) → eqb (byte_at hex s sign_at) plus_sign ≡ p → eqb (byte_at hex s sign_at) minus_sign ≡ m → (p || m) ≡ true → (zero_char ≤ get_or s sign_at 0) × (zero_char ≤ get_or s (sign_at + 1) 0)
      either true m e _ _ = plain (eqb-true (byte_at hex s sign_at) plus_sign e)
      either false m _ e o = let l = minused (eqb-true (byte_at hex s sign_at) minus_sign (e ∙ o)) in (omega (arith, l.0), omega (arith, l.1))

      by : (t : Bool) → is_negative value ≡ t
          → (char_of (choose (is_negative value) minus_sign plus_sign / base) ≤ get_or s sign_at 0) × (char_of (choose (is_negative value) minus_sign plus_sign % base) ≤ get_or s (sign_at + 1) 0)
      by true e = rw e (minused (number_negative e))
      by false e = rw e (either (eqb (byte_at hex s sign_at) plus_sign) (eqb (byte_at hex s sign_at) minus_sign) refl refl h.1.1.0)

-- frames to an address whose data are the same but for two characters
module _ (address k m : ℕ) where
  -- what stands before the two characters and behind them
  abbrev before : List ℕ
  before = stx ∷ filter_of address ∷ (pair_of (address % love_hundred) ++ (pair_of write_command ++ (pair_of (half_of k) ++ digits figure_count m)))

  abbrev behind : ℕ → ℕ → List ℕ
  behind x y = pair_of (sum_of (pair_of (address % love_hundred) ++ signed k m x y)) ++ (etx ∷ [])

  host_parts : (x y : ℕ) → host_frame address (signed k m x y) ≡ before ++ (x ∷ y ∷ behind x y)
  unfolding host_frame pair_of digits
  host_parts x y = refl

  host_long : (x y : ℕ) → length (host_frame address (signed k m x y)) ≡ made_longest
  unfolding host_frame pair_of digits
  host_long x y = refl

  host_least : (x₀ y₀ x y : ℕ) → x₀ ≤ x → y₀ ≤ y → no_later (host_frame address (signed k m x₀ y₀)) (host_frame address (signed k m x y)) ≡ true
  host_least x₀ y₀ x y a b =
      later_same (host_frame address (signed k m x₀ y₀)) (host_frame address (signed k m x y)) (host_long x₀ y₀ ∙ sym (host_long x y))
      (rw (host_parts x₀ y₀, host_parts x y) (higher_behind before (x₀ ∷ y₀ ∷ behind x₀ y₀) (x ∷ y ∷ behind x y) (higher_two x₀ y₀ x y (behind x₀ y₀) (behind x y) a b (λ e g. ap₂ behind e g))))

-- the frame of a task is no later than one whose data are judged as the task
same_least : (address : ℕ) (d s : List ℕ) → s ≡ d → no_later (host_frame address d) (host_frame address s) ≡ true
same_least address d s e = rw e (later_same (host_frame address d) (host_frame address d) refl (no_higher_law (host_frame address d)))

made_signed : (k value : ℕ) → data_of (Write k value) ≡ signed k (magnitude value) (char_of (sign_of value / base)) (char_of (sign_of value % base))
unfolding data_of pair_of
made_signed k value = refl

task_least : (address : ℕ) (s : List ℕ) (task : Task) → Shape s (order_of task) → no_later (host_frame address (data_of task)) (host_frame address s) ≡ true
task_least address s Status h = same_least address (data_of Status) s (status_known s h)
task_least address s (Read place) h = same_least address (data_of (Read place)) s (read_known s place h)
task_least address s (Write place value) h =
    let l = sign_least s place value h in
    ap₂ (λ (x y : List ℕ). no_later (host_frame address x) (host_frame address y)) (made_signed place value) (write_known s place value h)
    ∙ host_least address place (magnitude value) (char_of (sign_of value / base)) (char_of (sign_of value % base)) (get_or s sign_at 0) (get_or s (sign_at + 1) 0) l.0 l.1

carried : (address : ℕ) (f : List ℕ) (task : Task) → Held address f (order_of task) → (f ≡ host_frame address (frameData f)) × (order_in (frameData f) ≡ order_of task)
carried address f Status c = (host_known address f Probe c, c.orders)
carried address f (Read place) c = (host_known address f (ReadOrder place) c, c.orders)
carried address f (Write place value) c = (host_known address f (WriteOrder place value) c, c.orders)

pub love_least_law : (q : Request) → Askable love_master q → Least love_master q
unfolding asked_of
love_least_law q a =
    record {
      least = λ f k.
          let address = q.address in
          let o : asked address f ≡ order_of q.task = k.asks address (askable_facts q a.right).0 ∙ (love_means q a).means address ∙ sym (first _ _ _ _ (eq-eqb address address refl) refl) in
          let c = carried address f q.task (subst (Held address f) o (asked_held address f)) in
          ap₂ no_later (made_host q) c.0 ∙ task_least address (frameData f) q.task (subst (Shape (frameData f)) c.1 (shaped (frameData f)));
    }
