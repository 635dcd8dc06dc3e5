-- Data that are not refused have no characters but figures: so `order_here` need not look at them. Assumes nothing.
use Rattle.std.proofs.Common.{◌≡◌, refl, ap, sym, ◌∙◌, true, ◌||◌, not, List, ℕ, ◌+◌, ◌≤◌, ◌<◌, arith, eqb-true, ltb-true, leb-true, ne_eqb, eqb, length, Result, Ok, Err, is_ok}
use Prim.{Unit, tt}
use Rattle.wire.specs.Choose.{choose}
use Rattle.wire.specs.Buffer.{part}
use Rattle.wire.proofs.Buffers.{part_rest}
use Rattle.wire.proofs.Cases.{by_choice}
use Rattle.wire.proofs.Tests.{both}
use Rattle.figures.specs.Figure.{decimal, hex, no_byte, all_figures}
use Rattle.figures.proofs.Characters.{pair_part, all_parts, all_below}
use Rattle.card.specs.Layout.{love_count}
use Rattle.love.specs.Form.{command_at, parameter_at, value_at, sign_at, plus_sign, minus_sign, status_command, read_command, write_command, status_length, command_length, read_length, write_length}
use Rattle.love.specs.Frame.{byte_at, parameter_of, sign_right}
use Rattle.love.specs.Stages.{order_write, order_by, order_in}
use Rattle.love.specs.declared.frame.Order.{Order}
use Rattle.love.specs.declared.frame.Refusal.{Refusal}
use Rattle.love.specs.declared.frame.Refusal.TheVariants.{Silent, Refused}

-- what is asked by these data is a refusal that is answered, or all of them are figures
abbrev pub Figured : List ℕ → Result Order Refusal → Type 0
Figured s (Ok order) = all_figures hex s ≡ true
Figured s (Err (Silent number)) = all_figures hex s ≡ true
Figured s (Err (Refused number code)) = Unit {0}

-- what names a parameter, and what is a sign, is a byte
parameter_byte : (low : ℕ) → parameter_of low < love_count → low ≡ no_byte → ⊥
unfolding parameter_of choose
parameter_byte low h e =
    let n : parameter_of no_byte < love_count = rw e at h in
    omega (arith, n)

sign_byte : (sign : ℕ) → (eqb sign plus_sign || eqb sign minus_sign) ≡ true → sign ≡ no_byte → ⊥
sign_byte sign h e =
    let z : (eqb no_byte plus_sign || eqb no_byte minus_sign) ≡ true = rw e at h in
    let y : ◌≡◌ {A = ℕ} 0 1 = cc in
    omega (arith, y)

module _ (s : List ℕ) where
  -- two characters that are a byte
  pair : (i : ℕ) → i + 1 < length s → (byte_at hex s i ≡ no_byte → ⊥) → all_figures hex (part s i (i + 2)) ≡ true
  pair i h n = pair_part hex s i h ∙ ap not (ne_eqb (byte_at hex s i) no_byte n)

  -- two parts that meet
  join : (a b e : ℕ) → a ≤ b → b ≤ e → all_figures hex (part s a b) ≡ true → all_figures hex (part s b e) ≡ true → all_figures hex (part s a e) ≡ true
  join a b e h k f g = all_parts hex s a b e h k ∙ both f g

  -- the data as a part of themselves
  whole : (d : ℕ) → length s ≡ d → all_figures hex (part s 0 d) ≡ true → all_figures hex s ≡ true
  whole d l f = ap (all_figures hex) (sym (ap (part s 0) (sym l) ∙ part_rest s 0)) ∙ f

  write_figured : (k : ℕ) → length s ≡ write_length → all_figures hex (part s command_at value_at) ≡ true → Figured s (order_write k s)
  unfolding order_write sign_right
  write_figured k l head =
      by_choice (Figured s) _ _ _
      (λ value. by_choice (Figured s) _ _ _
      (λ sign. by_choice (Figured s) _ _ _
      (λ _.
      let last = join value_at sign_at write_length (omega arith) (omega arith) (all_below decimal hex (part s value_at sign_at) (omega arith) value) (pair sign_at (omega arith) (sign_byte (byte_at hex s sign_at) sign)) in
      whole write_length l (join command_at value_at write_length (omega arith) (omega arith) head last))
      (λ _. tt))
      (λ _. tt))
      (λ _. tt)

  by_figured : (command : ℕ) → (command ≡ byte_at hex s command_at) → command_length ≤ length s → Figured s (order_by command (parameter_of (byte_at hex s parameter_at)) s)
  unfolding order_by
  by_figured command e l =
      by_choice (Figured s) _ _ _
      (λ known.
      let head : (command ≡ no_byte → ⊥) → all_figures hex (part s command_at value_at) ≡ true = λ n. join command_at parameter_at value_at (omega arith) (omega arith) (pair command_at (omega arith) (λ b. n (e ∙ b))) (pair parameter_at (omega arith) (parameter_byte (byte_at hex s parameter_at) (ltb-true _ love_count known))) in
      by_choice (Figured s) _ _ _
      (λ read. by_choice (Figured s) _ _ _ (λ d. whole read_length (eqb-true _ _ d) (head (λ b. omega (arith, b, eqb-true command read_command read)))) (λ _. tt))
      (λ _. by_choice (Figured s) _ _ _
      (λ write. by_choice (Figured s) _ _ _ (λ d. write_figured _ (eqb-true _ _ d) (head (λ b. omega (arith, b, eqb-true command write_command write)))) (λ _. tt))
      (λ _. tt)))
      (λ _. tt)

  pub figured : Figured s (order_in s)
  unfolding order_in
  figured =
      by_choice (Figured s) _ _ _
      (λ _. by_choice (Figured s) _ _ _
      (λ _. by_choice (Figured s) _ _ _
      (λ status. by_choice (Figured s) _ _ _
      (λ d.
      let l = eqb-true _ status_length d in
      whole status_length l (pair command_at (omega (arith, l)) (λ b. omega (arith, b, eqb-true (byte_at hex s command_at) status_command status))))
      (λ _. tt))
      (λ _. by_choice (Figured s) _ _ _ (λ d. by_figured (byte_at hex s command_at) refl (leb-true command_length (length s) d)) (λ _. tt)))
      (λ _. tt))
      (λ _. tt)

-- so where the data are an order, there is nothing more to look at
pub all_figured : (s : List ℕ) (asks : Result Order Refusal) → asks ≡ order_in s → is_ok asks ≡ true → all_figures hex s ≡ true
all_figured s asks e ok = by asks (rw (← e) at (figured s)) ok
  where
    by : (asks : Result Order Refusal) → Figured s asks → is_ok asks ≡ true → all_figures hex s ≡ true
    by (Ok order) h ok = h
    by (Err refusal) h ok = cc
