-- `bits::scatter` meets its contract. The invariant: the bytes that are left to write, with what is left of the number, give the whole write. Assumes nothing.
use Rattle.std.proofs.Common.{◌≡◌, ℕ, ◌+◌, ◌-◌, ◌*◌, ◌%◌, sym, ap, ◌∙◌, arith}
use Rattle.bits.specs.Bits.{put_field}
use Rattle.bits.proofs.Writing.{set_bytes, put_field_last, put_field_none}
use Rattle.bits.proofs.scatter.Goals as goal

pub loop-left-preserved : goal.loop-left-preserved
loop-left-preserved c = let a = c.args in
    let l = c.loop-left in (
      set_bytes l.image (a.first + (l.left - 1)) (l.rest % 256) (omega arith) l.invariant.0,
      sym (put_field_last l.image a.first l.left l.rest (omega (arith, l.auto.image)) (omega arith) l.invariant.0) ∙ l.invariant.1,
    )

pub returns : goal.returns
returns c = let l = c.loop-left in
    let z : 8 * l.left ≡ 0 = omega arith in
    sym (put_field_none l.image (8 * c.args.first) l.rest) ∙ ap (λ (w : ℕ). put_field l.image (8 * c.args.first) w l.rest) (sym z) ∙ l.invariant.1
