-- `love::frame::order_write` meets its contract, test by test; four decimal figures hold less than 2^32. Assumes nothing.
use Rattle.std.proofs.Common.{◌≡◌, sym, ◌∙◌, ap, Bool, true, false, List, ℕ, ◌<◌, arith, eqb, length, Option, Some, None, IfSome}
use Rattle.wire.specs.Buffer.{part}
use Rattle.wire.proofs.Buffers.{length_part}
use Rattle.wire.proofs.Cases.{cases, yes, no}
use Rattle.figures.specs.Figure.{decimal, hex, all_figures, byte_or_none}
use Rattle.figures.specs.Decimal.{read_of, value_of, no_value, value_or_none}
use Rattle.figures.proofs.Decimals.{read_some, read_none, value_below}
use Rattle.love.specs.Form.{value_at, sign_at, minus_sign, write_length}
use Rattle.love.specs.Frame.{byte_at, sign_right, number_in}
use Rattle.love.specs.Stages.{minus_in, order_write}
use Rattle.love.proofs.Exits.{handed_on, is_given, is_none}
use Rattle.love.proofs.frame.order_write.Goals as goal

pub returns-in_err-value : goal.returns-in_err-value
unfolding order_write
returns-in_err-value c =
    let s = part c.args.characters.now value_at sign_at in
    let none = c.in_err-value.ensures in
    let l : length s ≡ 4 = length_part c.args.characters.now value_at sign_at (omega arith) (omega arith) in
    no _ _ _ _ (read_none s (omega arith) (sym c.value.ensures.read ∙ ap value_or_none none.ok_part)) (handed_on _ _ _ _ none.ok_part none.value c.from_residual.ensures.1)

-- what was read is a number of four figures
read : (characters : List ℕ) (o : Option ℕ) (value : ℕ) → length characters ≡ write_length → o ≡ Some value → value_or_none o ≡ read_of (part characters value_at sign_at) → IfSome o (λ (v : ℕ). v < no_value)
    → (all_figures decimal (part characters value_at sign_at) ≡ true) × ((value ≡ value_of (part characters value_at sign_at)) × (value < 10000))
read characters o value l given is below =
    let s = part characters value_at sign_at in
    let e : value ≡ read_of s = rw given at is in
    let n : value < no_value = rw given at below in
    let r = read_some s (λ z. omega (arith, e, z, n)) in
    let four : length s ≡ 4 = length_part characters value_at sign_at (omega arith) (omega arith) in
    (r.0, (e ∙ r.1, omega (arith, e ∙ r.1, rw four at (value_below s r.0))))

-- a sign that is none, and one that is
not_sign : (characters : List ℕ) (o : Option Bool) (b : Option ℕ) → o ≡ None → o ≡ minus_in (byte_or_none b) → byte_or_none b ≡ byte_at hex characters sign_at → sign_right characters ≡ false
unfolding sign_right
not_sign characters o b none minus sign = is_none _ _ (sym none ∙ minus ∙ ap minus_in sign)

signed : (characters : List ℕ) (o : Option Bool) (b : Option ℕ) (negative : Bool) → o ≡ Some negative → o ≡ minus_in (byte_or_none b) → byte_or_none b ≡ byte_at hex characters sign_at
    → (sign_right characters ≡ true) × (negative ≡ eqb (byte_at hex characters sign_at) minus_sign)
unfolding sign_right
signed characters o b negative given minus sign = is_given _ _ _ (sym given ∙ minus ∙ ap minus_in sign)

pub returns-in_err-negative : goal.returns-in_err-negative
unfolding order_write
returns-in_err-negative c =
    let a = c.args in
    let none = c.in_err-negative.ensures in
    let r = read a.characters.now _ _ c.requires.1 c.in_ok-value.ensures.ok_part c.value.ensures.read c.value.ensures.below in
    yes _ _ _ _ r.0
    (no _ _ _ _ (not_sign a.characters.now _ c.byte_at-sign.result none.ok_part c.is_minus.ensures c.byte_at-sign.ensures)
    (handed_on _ _ _ _ none.ok_part none.value c.from_residual-in_err-negative.ensures.1))

pub overflow_cast-value : goal.overflow_cast-value
overflow_cast-value c =
    let r = read c.args.characters.now _ _ c.requires.1 c.in_ok-value.ensures.ok_part c.value.ensures.read c.value.ensures.below in
    omega (arith, r.1.1)

pub returns-then-not-in_range : goal.returns-then-not-in_range
unfolding order_write number_in
returns-then-not-in_range c =
    let a = c.args in
    let r = read a.characters.now _ _ c.requires.1 c.in_ok-value.ensures.ok_part c.value.ensures.read c.value.ensures.below in
    let m = signed a.characters.now _ c.byte_at-sign.result _ c.in_ok-negative.ensures.ok_part c.is_minus.ensures c.byte_at-sign.ensures in
    yes _ _ _ _ r.0 (yes _ _ _ _ m.0 (rw (← r.1.0, ← m.1, ← c.with_sign-number.ensures) (search cases)))

pub returns : goal.returns
unfolding order_write number_in
returns c =
    let a = c.args in
    let r = read a.characters.now _ _ c.requires.1 c.in_ok-value.ensures.ok_part c.value.ensures.read c.value.ensures.below in
    let m = signed a.characters.now _ c.byte_at-sign.result _ c.in_ok-negative.ensures.ok_part c.is_minus.ensures c.byte_at-sign.ensures in
    yes _ _ _ _ r.0 (yes _ _ _ _ m.0 (rw (← r.1.0, ← m.1, ← c.with_sign-number.ensures) (search cases)))
