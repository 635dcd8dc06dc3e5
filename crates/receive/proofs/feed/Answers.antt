-- `receive::feed` meets its contract.
use Rattle.std.proofs.Common.{◌≡◌, refl, sym, subst, true, List, ℕ, ◌+◌, arith, set}
use Rattle.wire.specs.Buffer.{part}
use Rattle.receiver.specs.Place.{Placed}
use Rattle.receiver.specs.declared.Place.{Place}
use Rattle.receiver.specs.declared.Place.TheVariants.{Behind, First, Nowhere, Last}
use Rattle.receive.specs.Parts.{step_of, longest_of, held_by, bytes_at, front}
use Rattle.receive.specs.Stages.{GoesOn}
use Rattle.receive.specs.declared.Dialect.{Dialect}
use Rattle.receive.proofs.Parts.{part_inside, longest_some, slice_front, front_length, held_to, placed_by}
use Rattle.receive.proofs.Gathering.{goes_behind, goes_first, goes_nowhere}
use Rattle.receive.proofs.feed.Goals as goal

-- the slice that is lent is the front
placed-front : (d : Dialect) (place : Place) (n b : ℕ) (row : List ℕ) {first : ℕ} → first ≡ bytes_at d → Placed (step_of d) (longest_of d) (part row first (first + n)) b place
    → Placed (step_of d) (longest_of d) (front d n row) b place
placed-front d place n b row {first} e p = subst (λ (l : List ℕ). Placed (step_of d) (longest_of d) l b place) (slice_front d first n row e) p

pub overflow_add-first : goal.overflow_add-first
overflow_add-first g c = let p = part_inside g.D.PartFrame.dialect in omega (arith, c.bytes_at-first.ensures, c.requires.0.few)

pub slice_bounds-place-end : goal.slice_bounds-place-end
slice_bounds-place-end g c = let p = part_inside g.D.PartFrame.dialect in omega (arith, c.bytes_at-first.ensures, c.requires.0.few)

pub place-requires : goal.place-requires
place-requires g c = held_to g.met.D.PartFrame.rules _ (subst (λ (l : List ℕ). held_by g.D.PartFrame.dialect l ≡ true) (sym (slice_front g.D.PartFrame.dialect _ c.args.n c.args.ports.now c.bytes_at-first.ensures)) c.requires.0.held)

pub overflow_add-ports : goal.overflow_add-ports
overflow_add-ports g c = let i = part_inside g.D.PartFrame.dialect in
    omega (arith, c.bytes_at-first.ensures, c.requires.0.few)

pub bounds-ports-first : goal.bounds-ports-first
bounds-ports-first g c = let d = g.D.PartFrame.dialect in
    let row = c.args.ports.now in
    let p = placed-front d Behind c.args.n c.args.b row c.bytes_at-first.ensures (placed_by g.met.D.PartFrame.rules _ _ _ (rw c.in-Behind.is at c.place.ensures)) in
    let i = part_inside d in
    omega (arith, c.bytes_at-first.ensures, c.requires.1, p.room, front_length d c.args.n row c.requires.1 c.requires.0.few)

pub overflow_add-result : goal.overflow_add-result
overflow_add-result g c = let i = part_inside g.D.PartFrame.dialect in
    omega (arith, c.bytes_at-first.ensures, c.requires.0.few)

pub bounds-ports-first-in-First : goal.bounds-ports-first-in-First
bounds-ports-first-in-First g c = let i = part_inside g.D.PartFrame.dialect in
    omega (arith, c.bytes_at-first.ensures, c.requires.1, (longest_some g.D.PartFrame.dialect).0)

pub returns-in-Behind : goal.returns-in-Behind
returns-in-Behind g c = let d = g.D.PartFrame.dialect in
    let row = c.args.ports.now in
    let p = placed-front d Behind c.args.n c.args.b row c.bytes_at-first.ensures (placed_by g.met.D.PartFrame.rules _ _ _ (rw c.in-Behind.is at c.place.ensures)) in
    subst (λ (a : ℕ). GoesOn d (front d c.args.n row) c.args.b row (c.args.n + 1) (set row (a + c.args.n) c.args.b)) (sym c.bytes_at-first.ensures)
    (goes_behind d c.args.n row c.args.b c.requires.1 c.requires.0 p.fate p.room)

pub returns-in-First : goal.returns-in-First
returns-in-First g c = let d = g.D.PartFrame.dialect in
    let row = c.args.ports.now in
    let p = placed-front d First c.args.n c.args.b row c.bytes_at-first.ensures (placed_by g.met.D.PartFrame.rules _ _ _ (rw c.in-First.is at c.place.ensures)) in
    subst (λ (a : ℕ). GoesOn d (front d c.args.n row) c.args.b row 1 (set row a c.args.b)) (sym c.bytes_at-first.ensures)
    (goes_first d c.args.n row c.args.b c.requires.1 c.requires.0 p.fate (longest_some d).0)

pub returns-in-Nowhere : goal.returns-in-Nowhere
returns-in-Nowhere g c = let d = g.D.PartFrame.dialect in
    let row = c.args.ports.now in
    let p = placed-front d Nowhere c.args.n c.args.b row c.bytes_at-first.ensures (placed_by g.met.D.PartFrame.rules _ _ _ (rw c.in-Nowhere.is at c.place.ensures)) in
    goes_nowhere d c.args.n row c.args.b c.requires.1 c.requires.0 p.fate

pub returns-in-Last : goal.returns-in-Last
returns-in-Last g c = let d = g.D.PartFrame.dialect in
    let row = c.args.ports.now in
    let p = placed-front d Last c.args.n c.args.b row c.bytes_at-first.ensures (placed_by g.met.D.PartFrame.rules _ _ _ (rw c.in-Last.is at c.place.ensures)) in
    ((p.fate, omega (arith, p.room, front_length d c.args.n row c.requires.1 c.requires.0.few)), refl)
