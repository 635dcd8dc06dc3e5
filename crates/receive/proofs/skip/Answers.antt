-- `receive::skip` meets its contract.
use Rattle.std.proofs.Common.{◌≡◌, sym, ap, ◌∙◌, subst, true, List, ℕ, ◌+◌, ◌≤◌, arith, length, take, length-take-le}
use Rattle.wire.specs.Buffer.{put}
use Rattle.receiver.specs.Place.{Sure}
use Rattle.receive.specs.Parts.{longest_of, held_by}
use Rattle.receive.specs.Stages.{Skipped}
use Rattle.receive.proofs.Parts.{part_inside, slice_front, front_length, held_to, sure_by}
use Rattle.receive.proofs.Gathering.{skipped_none, skipped}
use Rattle.receive.proofs.skip.Goals as goal

pub overflow_add-first : goal.overflow_add-first
overflow_add-first g c = let p = part_inside g.D.PartFrame.dialect in omega (arith, c.bytes_at-first.ensures, c.requires.0.0.few)

pub slice_bounds-sure-end : goal.slice_bounds-sure-end
slice_bounds-sure-end g c = let p = part_inside g.D.PartFrame.dialect in omega (arith, c.bytes_at-first.ensures, c.requires.0.0.few, c.requires.0.1)

pub sure-most-requires : goal.sure-most-requires
sure-most-requires g c =
    let d = g.D.PartFrame.dialect in
    let k = c.requires.0.0 in
    let e = slice_front d _ c.args.n c.args.ports.now c.bytes_at-first.ensures in
    held_to g.met.D.PartFrame.rules _ (subst (λ (l : List ℕ). held_by d l ≡ true) (sym e) k.held)

pub returns-then-most-eq0 : goal.returns-then-most-eq0
returns-then-most-eq0 g c = skipped_none g.D.PartFrame.dialect c.args.bytes.now c.args.n c.args.ports.now c.requires.0.0 c.requires.1

pub slice_bounds-copy-end : goal.slice_bounds-copy-end
slice_bounds-copy-end g c = sym (length-take-le _ _ (omega arith))

pub overflow_add-first-2 : goal.overflow_add-first-2
overflow_add-first-2 g c = let p = part_inside g.D.PartFrame.dialect in omega (arith, c.bytes_at-first.ensures, c.requires.0.0.few)

-- the bytes that are kept are no more than the longest frame has
pub copy-requires : goal.copy-requires
copy-requires g c = let d = g.D.PartFrame.dialect in
    let row = c.args.ports.now in
    let k = c.requires.0.0 in
    let u = subst (λ (l : List ℕ). Sure (held_by d) (longest_of d) l c.sure-most.result) (slice_front d _ c.args.n row c.bytes_at-first.ensures) (sure_by g.met.D.PartFrame.rules _ _ c.sure-most.ensures) in
    let p = part_inside d in
    let t = length-take-le c.min-m.result c.args.bytes.now (omega arith) in
    omega (arith, c.bytes_at-first.ensures, u.room, front_length d c.args.n row c.requires.0.1 k.few, c.requires.0.1)

pub returns : goal.returns
returns g c = let d = g.D.PartFrame.dialect in
    let row = c.args.ports.now in
    let m = c.min-m.result in
    let at = c.bytes_at-first.ensures in
    let u = subst (λ (l : List ℕ). Sure (held_by d) (longest_of d) l c.sure-most.result) (slice_front d _ c.args.n row at) (sure_by g.met.D.PartFrame.rules _ _ c.sure-most.ensures) in
    subst (λ (x : List ℕ). Skipped d c.args.n row c.args.bytes.now m x)
    (ap (λ (a : ℕ). put row (a + c.args.n) (take m c.args.bytes.now)) (sym at) ∙ sym c.copy.ensures)
    (skipped d c.args.bytes.now c.args.n m row c.sure-most.result c.requires.0.1 c.requires.0.0 u (omega arith) (omega (arith, c.requires.1)))
