-- A frame that passes every test of `asked`, one that reaches another unit, and one that is refused for its code. Assumes nothing.
use Rattle.std.proofs.Common.{Option, Some, None, Result, Ok, Err, ◌≡◌, ℕ, Bool, true, false, eqb, List, length, get_or, refl, arith}
use Prim.{Unit}
use Rattle.wire.specs.Choose.{choose}
use Rattle.wire.proofs.Cases.{by_choice}
use Rattle.card.specs.Numbers.{foreign_address, frame_form, range_unknown}
use Rattle.lecom.specs.Form.{length_right, eot}
use Rattle.lecom.specs.Frame.{figures_right, reaches, is_write, size_right, end_right, code_right, bcc_right, named_in, code_known, write_right, data_read, value_in, data_right, ordering, ordered, asked}
use Rattle.lecom.specs.declared.form.Named.{Named}
use Rattle.lecom.specs.declared.frame.Order.{Order}
use Rattle.lecom.specs.declared.frame.Order.TheVariants.{Read, Write}
use Rattle.lecom.specs.declared.frame.Refusal.{Refusal}
use Rattle.lecom.specs.declared.frame.Refusal.TheVariants.{Silent, Refused}

-- the unit at an address passes the frame
pub record Passed (unit : ℕ) (f : List ℕ) : Type 0 where
  pub long : length_right (length f) ≡ true
  pub starts : eqb (get_or f 0 0) eot ≡ true
  pub figured : figures_right f ≡ true
  pub reached : reaches unit f ≡ true
  pub sized : size_right f ≡ true
  pub ended : end_right f ≡ true
  pub coded : code_right f ≡ true
  pub summed : bcc_right f ≡ true
  pub known : code_known f ≡ true
  pub written : write_right f ≡ true
  pub valued : data_right f ≡ true

pub asked_passed : (unit : ℕ) (f : List ℕ) → Passed unit f → asked unit f ≡ ordered f
unfolding asked choose
asked_passed unit f p = rw (p.long, p.starts, p.figured, p.reached, p.sized, p.ended, p.coded, p.summed, p.known, p.written, p.valued)

pub asked_foreign : (unit : ℕ) (f : List ℕ) → length_right (length f) ≡ true → eqb (get_or f 0 0) eot ≡ true → figures_right f ≡ true → reaches unit f ≡ false
    → asked unit f ≡ Err (Silent foreign_address)
unfolding asked choose
asked_foreign unit f a b c d = rw (a, b, c, d)

-- an order that is a read or a write
abbrev pub Obeyed : Result Order Refusal → Type 0
Obeyed (Err refusal) = ⊥
Obeyed (Ok order) = Unit {0}

pub order_passed : (unit : ℕ) (f : List ℕ) → Obeyed (asked unit f) → Passed unit f
unfolding asked
order_passed unit f =
    by_choice P (length_right (length f)) _ _ (λ a. by_choice P _ _ _ (λ b. by_choice P _ _ _ (λ c. by_choice P _ _ _ (λ d.
    by_choice P _ _ _ (λ e. by_choice P _ _ _ (λ g. by_choice P _ _ _ (λ h. by_choice P _ _ _ (λ i. by_choice P _ _ _ (λ j.
    by_choice P _ _ _ (λ k. by_choice P _ _ _ (λ l _.
    record { long = a; starts = b; figured = c; reached = d; sized = e; ended = g; coded = h; summed = i; known = j; written = k; valued = l })
    stop) stop) stop) stop) stop) stop) stop) stop) stop) stop) stop
  where
    P : Result Order Refusal → Type 0
    P o = Obeyed o → Passed unit f

    stop : {t : Bool} → t ≡ false → ⊥ → Passed unit f
    stop _ d = absurd d

-- what is known of a frame that asks to read, and of one that asks to write
module _ (f : List ℕ) (asks : Order) where
  -- what it names
  pub order_named : ordered f ≡ Ok asks → (named : Named) × ((named_in f ≡ Some named) × (choose (is_write f) (Write named (value_in (data_read f))) (Read named) ≡ asks))
  unfolding ordered
  order_named = by (named_in f) refl
    where
      by : (n : Option Named) → named_in f ≡ n → ordering (λ (named : Named). choose (is_write f) (Write named (value_in (data_read f))) (Read named)) n ≡ Ok asks
          → (named : Named) × ((named_in f ≡ Some named) × (choose (is_write f) (Write named (value_in (data_read f))) (Read named) ≡ asks))
      by None e o = let z : ◌≡◌ {A = ℕ} 0 1 = cc in let n : ⊥ = omega (arith, z) in absurd n
      by (Some named) e o = (named, (e, cc))

pub order_read : (f : List ℕ) (named : Named) → ordered f ≡ Ok (Read named) → (is_write f ≡ false) × (named_in f ≡ Some named)
order_read f named e =
    let (n, (names, o)) = order_named f (Read named) e in
    by_choice (λ (x : Order). x ≡ Read named → (is_write f ≡ false) × (named_in f ≡ Some named)) (is_write f) _ _
    (λ _ k. let z : ◌≡◌ {A = ℕ} 0 1 = cc in let n : ⊥ = omega (arith, z) in absurd n)
    (λ h k. (h, cc)) o

pub order_write_law : (f : List ℕ) (named : Named) (value : ℕ) → ordered f ≡ Ok (Write named value) → (is_write f ≡ true) × ((named_in f ≡ Some named) × (value_in (data_read f) ≡ value))
order_write_law f named value e =
    let (n, (names, o)) = order_named f (Write named value) e in
    by_choice (λ (x : Order). x ≡ Write named value → (is_write f ≡ true) × ((named_in f ≡ Some named) × (value_in (data_read f) ≡ value))) (is_write f) _ _
    (λ h k. (h, (cc, cc)))
    (λ _ k. let z : ◌≡◌ {A = ℕ} 0 1 = cc in let n : ⊥ = omega (arith, z) in absurd n) o

-- the unit finds the frame's layout right
pub record Laid (unit : ℕ) (f : List ℕ) : Type 0 where
  pub long : length_right (length f) ≡ true
  pub starts : eqb (get_or f 0 0) eot ≡ true
  pub figured : figures_right f ≡ true
  pub reached : reaches unit f ≡ true
  pub sized : size_right f ≡ true
  pub ended : end_right f ≡ true

other_number : {A : Type 0} (n : ℕ) → (n ≡ range_unknown → ⊥) → ◌≡◌ {A = Result Order Refusal} (Err (Refused n)) (Err (Refused range_unknown)) → A
other_number n h e = absurd (h (cc))

-- a frame that is refused for its code has the right layout
pub unknown_laid : (unit : ℕ) (f : List ℕ) → asked unit f ≡ Err (Refused range_unknown) → Laid unit f
unfolding asked
unknown_laid unit f =
    by_choice P (length_right (length f)) _ _ (λ a. by_choice P _ _ _ (λ b. by_choice P _ _ _ (λ c. by_choice P _ _ _ (λ d.
    by_choice P _ _ _ (λ e. by_choice P _ _ _ (λ g. λ _. record { long = a; starts = b; figured = c; reached = d; sized = e; ended = g })
    (λ _. other_number frame_form (λ z. omega arith))) (λ _. other_number frame_form (λ z. omega arith))) silent) silent) silent) silent
  where
    P : Result Order Refusal → Type 0
    P o = o ≡ Err (Refused range_unknown) → Laid unit f

    silent : {t : Bool} {n : ℕ} → t ≡ false → ◌≡◌ {A = Result Order Refusal} (Err (Silent n)) (Err (Refused range_unknown)) → Laid unit f
    silent _ e = let z : ◌≡◌ {A = ℕ} 0 1 = cc in let n : ⊥ = omega arith in absurd n
