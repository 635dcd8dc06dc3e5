-- The values of an answer, one after another: those known so far and those to come. Assumes nothing.
use Rattle.std.proofs.Common.{ℕ, suc, ◌+◌, ◌-◌, ◌*◌, ◌≤◌, ◌<◌, ◌≡◌, refl, sym, ap, ◌∙◌, Bool, true, false, ◌&&◌, List, [], ◌∷◌, ◌++◌, append_assoc, append-nil, mul-zero, mul-suc, add-one, arith, eqb-true, ne_eqb, eq-eqb, eqb, length, take, get_or, set, length-set, take-suc-set}
use Rattle.std.proofs.Math.Nat.{sub-zero}
use Rattle.wire.specs.Choose.{choose}
use Rattle.wire.specs.Buffer.{same}
use Rattle.wire.proofs.Cases.{yes}
use Rattle.wire.proofs.Same.{same_true}
use Rattle.wire.proofs.Tests.{and_true, and_true_right, and_false_right, both, same_test}
use Rattle.card.specs.Layout.{channels}
use Rattle.lucid.specs.Form.{demand, tenths, pair_size, hundredths_size, size_of, number_at, ok, err_execution}
use Rattle.asking.specs.Hearing.Hearing.{Gives}
use Rattle.lucid_master.specs.Stages.{bare_status}
use Rattle.lucid_master.specs.Heard.{head_size, is_status, shaped, word_of, answerable, values_from, all_answerable, heard_values}

-- a status and LEN 0, by its parts
pub bare_test : (r : List ℕ) → same r (get_or r 0 0 ∷ 0 ∷ []) ≡ (eqb (length r) head_size && eqb (get_or r 1 0) 0)
unfolding same
bare_test [] = refl
bare_test (x ∷ []) = rw (eq-eqb x x refl)
bare_test (x ∷ y ∷ []) = rw (eq-eqb x x refl) (and_true_right (eqb y 0))
bare_test (x ∷ y ∷ z ∷ s) =
    let long : eqb (length (x ∷ y ∷ z ∷ s)) head_size ≡ false = ne_eqb (length (x ∷ y ∷ z ∷ s)) head_size (λ e. omega (arith, e)) in
    rw (eq-eqb x x refl, long) (and_false_right (eqb y 0))

-- OK is no status of a refusal
ok_none : false ≡ is_status ok
unfolding is_status
ok_none = refl

-- the tests of `heard` by that status
fault_same : (r : List ℕ) → eqb (bare_status r) err_execution ≡ true → same r (err_execution ∷ 0 ∷ []) ≡ true
unfolding bare_status choose
fault_same r h = by (same r (get_or r 0 0 ∷ 0 ∷ [])) refl
  where
    by : (t : Bool) → same r (get_or r 0 0 ∷ 0 ∷ []) ≡ t → same r (err_execution ∷ 0 ∷ []) ≡ true
    by true e = let s : get_or r 0 0 ≡ err_execution = eqb-true (get_or r 0 0) err_execution (rw e at h) in rw s at e
    by false e = let z : false ≡ true = rw e at h in cc

pub fault_test : (r : List ℕ) → same r (err_execution ∷ 0 ∷ []) ≡ eqb (bare_status r) err_execution
unfolding bare_status same choose
fault_test r = same_test _ _ (λ h. let e = same_true r (err_execution ∷ 0 ∷ []) h in rw e) (fault_same r)

pub refusal_test : (r : List ℕ) → (is_status (get_or r 0 0) && same r (get_or r 0 0 ∷ 0 ∷ [])) ≡ is_status (bare_status r)
unfolding bare_status choose
refusal_test r = by (same r (get_or r 0 0 ∷ 0 ∷ [])) refl
  where
    by : (t : Bool) → same r (get_or r 0 0 ∷ 0 ∷ []) ≡ t → (is_status (get_or r 0 0) && same r (get_or r 0 0 ∷ 0 ∷ [])) ≡ is_status (bare_status r)
    by true e = rw e (and_true_right (is_status (get_or r 0 0)))
    by false e = rw e (and_false_right (is_status (get_or r 0 0)) ∙ ok_none)

pub status_bare : (r : List ℕ) → is_status (bare_status r) ≡ true → bare_status r ≡ get_or r 0 0
unfolding bare_status choose
status_bare r h = by (same r (get_or r 0 0 ∷ 0 ∷ [])) refl
  where
    by : (t : Bool) → same r (get_or r 0 0 ∷ 0 ∷ []) ≡ t → bare_status r ≡ get_or r 0 0
    by true e = rw e
    by false e = let k : is_status ok ≡ true = rw e at h in let z : false ≡ true = ok_none ∙ k in cc

-- how long an answer with n bytes of data is
pub shaped_length : (r : List ℕ) (n : ℕ) → shaped r n ≡ true → length r ≡ head_size + n
unfolding shaped
shaped_length r n h = eqb-true (length r) (head_size + n) (and_true (eqb (length r) (head_size + n)) _ h).0

-- the value at an index, type by type
module _ (valueType : ℕ) where
  pub size_demand : valueType ≡ demand → size_of valueType ≡ pair_size
  unfolding size_of choose
  size_demand e = rw e

  pub size_tenths : valueType ≡ tenths → size_of valueType ≡ pair_size
  unfolding size_of choose
  size_tenths e = rw e

  pub size_other : (valueType ≡ demand → ⊥) → (valueType ≡ tenths → ⊥) → size_of valueType ≡ hundredths_size
  unfolding size_of choose
  size_other d t = rw (ne_eqb valueType demand d, ne_eqb valueType tenths t)

  module _ (r : List ℕ) (at : ℕ) where
    pub word_demand : valueType ≡ demand → word_of valueType (number_at (size_of valueType) r at) ≡ number_at pair_size r at
    unfolding word_of size_of choose
    word_demand e = rw e

    pub word_tenths : valueType ≡ tenths → word_of valueType (number_at (size_of valueType) r at) ≡ word_of tenths (number_at pair_size r at)
    unfolding size_of choose
    word_tenths e = rw e

    pub word_other : (valueType ≡ demand → ⊥) → (valueType ≡ tenths → ⊥) → word_of valueType (number_at (size_of valueType) r at) ≡ number_at hundredths_size r at
    unfolding word_of size_of choose
    word_other d t = rw (ne_eqb valueType demand d, ne_eqb valueType tenths t)

module _ (valueType n : ℕ) (r : List ℕ) where
  -- where the values from number i on stand
  abbrev pub stands : ℕ → ℕ
  stands i = head_size + size_of valueType * i

  -- the first i values are answerable and stand in `values`; behind them come the others
  pub record Known (values : List ℕ) (i : ℕ) : Type 0 where
    pub few : i ≤ n
    pub room : length values ≡ channels
    pub left : length r ≡ stands i + size_of valueType * (n - i)
    pub right : all_answerable valueType (values_from valueType n r head_size) ≡ all_answerable valueType (values_from valueType (n - i) r (stands i))
    pub held : values_from valueType n r head_size ≡ take i values ++ values_from valueType (n - i) r (stands i)

  pub known_start : (values : List ℕ) → length values ≡ channels → length r ≡ head_size + size_of valueType * n → Known values 0
  known_start values l e =
      record { few = omega arith; room = l; left = rw (mul-zero, sub-zero) e; right = rw (mul-zero, sub-zero); held = rw (mul-zero, sub-zero) }

  module _ (values : List ℕ) (i : ℕ) (more : i < n) where
    fewer : n - i ≡ suc (n - (i + 1))
    fewer = omega arith

    stands_next : stands (i + 1) ≡ stands i + size_of valueType
    stands_next = omega (arith, ap (λ (m : ℕ). size_of valueType * m) (add-one i), mul-suc (size_of valueType) i)

    values_next : values_from valueType (n - i) r (stands i) ≡ word_of valueType (number_at (size_of valueType) r (stands i)) ∷ values_from valueType (n - (i + 1)) r (stands (i + 1))
    unfolding values_from
    values_next = rw (fewer, stands_next)

    left_next : Known values i → length r ≡ stands (i + 1) + size_of valueType * (n - (i + 1))
    left_next k = omega (arith, k.left, stands_next, ap (λ (m : ℕ). size_of valueType * m) fewer, mul-suc (size_of valueType) (n - (i + 1)))

    module _ (w : ℕ) (read : w ≡ word_of valueType (number_at (size_of valueType) r (stands i))) where
      pub known_wrong : answerable valueType w ≡ false → Known values i → all_answerable valueType (values_from valueType n r head_size) ≡ false
      unfolding all_answerable
      known_wrong e k = k.right ∙ rw (values_next, ← read, e)

      pub known_next : n ≤ channels → answerable valueType w ≡ true → Known values i → Known (set values i w) (i + 1)
      unfolding all_answerable
      known_next small e k =
          let inside : i < length values = omega (arith, k.room) in
          let rest = values_from valueType (n - (i + 1)) r (stands (i + 1)) in
          let front : take (i + 1) (set values i w) ≡ take i values ++ (w ∷ []) = ap (λ (m : ℕ). take m (set values i w)) (add-one i) ∙ take-suc-set values i w inside in
          record {
            few = omega arith;
            room = length-set values i w ∙ k.room;
            left = left_next k;
            right = k.right ∙ rw (values_next, ← read, e);
            held = k.held ∙ rw (values_next, ← read, front) (sym (append_assoc (take i values) (w ∷ []) rest));
          }

  -- all are known
  pub heard_all : (values : List ℕ) (i : ℕ) → n ≤ i → shaped r (size_of valueType * n) ≡ true → Known values i
      → Gives (take n values) ≡ heard_values valueType n r
  unfolding heard_values values_from all_answerable
  heard_all values i end s k =
      let e : i ≡ n = omega (arith, k.few) in
      let none : n - i ≡ 0 = omega arith in
      let right : all_answerable valueType (values_from valueType n r head_size) ≡ true = k.right ∙ rw none in
      let held : values_from valueType n r head_size ≡ take n values = k.held ∙ rw (none, e) (append-nil (take n values)) in
      yes _ _ _ _ (both s right) (ap Gives (sym held))
