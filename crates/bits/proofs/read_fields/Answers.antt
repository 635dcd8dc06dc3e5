-- `bits::read_fields` meets its contract. The invariant: the fields read, and then those that are left, are all of them. Assumes nothing.
use Rattle.std.proofs.Common.{◌≡◌, ℕ, suc, ◌+◌, ◌-◌, ◌<◌, List, [], ◌∷◌, ◌++◌, length, take, replicate, sym, ap, ◌∙◌, append-nil, add-one, arith, take_all, take-suc-set}
use lib.Seq.{append_snoc}
use Rattle.bits.specs.Fields.{width_of, fields}
use Rattle.bits.proofs.Sequences.{width_next, fields_next, fields_last}
use Rattle.bits.proofs.read_fields.Goals as goal
use Rattle.bits.proofs.read_fields.Goals.{In-loop-value}

-- the bits of the fields that are left
left : (c : In-loop-value) → let a = c.args in let l = c.loop-value in
    l.here + (a.width + width_of (replicate (length a.out.now - suc l.value-index) a.width)) ≡ a.place + width_of (replicate (length a.out.now) a.width)
left c =
    let a = c.args in
    let l = c.loop-value in
    rw (width_next (length a.out.now) l.value-index a.width (omega arith)) at l.invariant.0

pub read_field-requires : goal.read_field-requires
read_field-requires c = let p = c.requires in
    record { inside = omega (arith, left ((goal.at.read_field-requires c).In-loop-value), p.inside); some = p.some; narrow = p.narrow; long = p.long; short = p.short }

pub loop-value-preserved : goal.loop-value-preserved
loop-value-preserved c = let a = c.args in
    let l = c.loop-value in
    let i = l.value-index in
    let h : i < length l.out = omega arith in
    let x = c.read_field.result in
    let later = fields a.image.now (l.here + a.width) (replicate (length a.out.now - suc i) a.width) in (
      rw add-one (omega (arith, left ((goal.at.loop-value-preserved c).In-loop-value))),
      rw add-one (ap (λ (f : List ℕ). f ++ later) (take-suc-set l.out i x h) ∙ append_snoc (take i l.out) x later
          ∙ ap (λ (y : ℕ). take i l.out ++ y ∷ later) c.read_field.ensures ∙ ap (λ (f : List ℕ). take i l.out ++ f) (sym (fields_next a.image.now l.here (length a.out.now) i a.width (omega arith))) ∙ l.invariant.1),
    )

pub returns : goal.returns
returns c = let a = c.args in
    let l = c.loop-value in
    let i = l.value-index in
    let e : i ≡ length a.out.now = omega arith in
    let none : fields a.image.now l.here (replicate (length a.out.now - i) a.width) ≡ [] = rw e (fields_last a.image.now l.here (length a.out.now) a.width) in
    sym (append-nil (take i l.out) ∙ take_all i l.out (omega arith)) ∙ ap (λ (f : List ℕ). take i l.out ++ f) (sym none) ∙ l.invariant.1
