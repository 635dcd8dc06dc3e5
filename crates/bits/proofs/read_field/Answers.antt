-- `bits::read_field` meets its contract: the field lies within the window. Assumes nothing.
use Rattle.std.proofs.Common.{◌≡◌, ℕ, ◌+◌, ◌-◌, ◌*◌, ◌/◌, ◌%◌, ◌^◌, ◌≤◌, List, length, ap, ◌∙◌, arith, pow_mono}
use Rattle.bits.specs.Bits.{field, widest, window_bits, Within}
use Rattle.bits.proofs.Reading.{field_lt, field_inside}
use Rattle.bits.proofs.read_field.Goals as goal
use Rattle.bits.proofs.read_field.Goals.{After-middle}

-- the field ends within the window
fits : (image : List ℕ) (place width first : ℕ) → Within image place width
    → ((end : ℕ) → end ≤ place + widest → end ≤ 8 * length image → end ≤ 8 * first + window_bits) → place + width ≤ 8 * first + window_bits
fits image place width first w e = e (place + width) (omega (arith, w.narrow)) w.inside

pub overflow_sub-down : goal.overflow_sub-down
overflow_sub-down c = omega (arith, fits c.args.image.now c.args.place c.args.width c.window_at-first.result c.requires c.window_at-first.ensures.2)

pub middle-requires : goal.middle-requires
middle-requires c =
    let p = c.requires in
    (omega (arith, fits c.args.image.now c.args.place c.args.width c.window_at-first.result p c.window_at-first.ensures.2, p.some), p.narrow)

is_field : (c : After-middle) → c.middle.result ≡ field c.args.image.now c.args.place c.args.width
is_field c =
    let a = c.args in
    let f = c.window_at-first.result in
    c.middle.ensures ∙ ap (λ (n : ℕ). n / 2 ^ (8 * f + window_bits - (a.place + a.width)) % 2 ^ a.width) c.window.ensures
    ∙ field_inside a.image.now (8 * f) window_bits a.place a.width c.window_at-first.ensures.0 (fits a.image.now a.place a.width f c.requires c.window_at-first.ensures.2)

pub overflow_cast-result : goal.overflow_cast-result
overflow_cast-result c =
    let a = c.args in
    let m : 2 ^ a.width ≤ 2 ^ 32 = pow_mono {j = 32} (omega arith) in
    omega (arith, is_field c, m, field_lt a.image.now a.place a.width)

pub returns : goal.returns
returns c = is_field c
