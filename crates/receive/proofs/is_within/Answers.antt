-- `receive::is_within` meets its contract.
use Rattle.std.proofs.Common.{ap, ◌∙◌, arith}
use Rattle.card.specs.Row.{count_at}
use Rattle.receive.specs.Parts.{held_by}
use Rattle.receive.proofs.Parts.{part_inside, slice_front, within_long, within_held, holds_by}
use Rattle.receive.proofs.is_within.Goals as goal

pub count-n-requires : goal.count-n-requires
count-n-requires g c =
    let p = part_inside g.D.PartFrame.dialect in
    let r = g.met.D.PartFrame.rules in
    omega (arith, c.AT.ensures, r.stands)

pub returns-then-LONGEST-n : goal.returns-then-LONGEST-n
returns-then-LONGEST-n g c =
    let r = g.met.D.PartFrame.rules in
    within_long g.D.PartFrame.dialect _ c.args.ports.now (c.count-n.ensures ∙ ap (λ a. count_at a c.args.ports.now) (c.AT.ensures ∙ r.stands)) (rw (← r.most, ← c.LONGEST.ensures) c.if-LONGEST-n.true)

pub overflow_add-first : goal.overflow_add-first
overflow_add-first g c =
    let p = part_inside g.D.PartFrame.dialect in
    let r = g.met.D.PartFrame.rules in
    omega (arith, c.bytes_at-first.ensures, c.LONGEST.ensures, r.most)

pub slice_bounds-holds-end : goal.slice_bounds-holds-end
slice_bounds-holds-end g c =
    let p = part_inside g.D.PartFrame.dialect in
    let r = g.met.D.PartFrame.rules in
    omega (arith, c.bytes_at-first.ensures, c.LONGEST.ensures, r.most)

pub returns : goal.returns
returns g c =
    let d = g.D.PartFrame.dialect in
    let r = g.met.D.PartFrame.rules in
    let row = c.args.ports.now in
    c.holds.ensures ∙ holds_by r _ ∙ ap (held_by d) (slice_front d _ _ row c.bytes_at-first.ensures)
    ∙ within_held d _ row (c.count-n.ensures ∙ ap (λ a. count_at a row) (c.AT.ensures ∙ r.stands)) (rw (← r.most, ← c.LONGEST.ensures) c.if-LONGEST-n.false)
