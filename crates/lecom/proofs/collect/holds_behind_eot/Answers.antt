-- `lecom::collect::holds_behind_eot` meets its contract. The invariant: the bytes from i on decide. Assumes nothing.
use Rattle.std.proofs.Common.{◌≡◌, ℕ, suc, ◌+◌, ◌-◌, List, length, take, drop, sym, ap, ◌∙◌, add-one, arith, length-drop, drop_of_length-le, take_all, drop-cons, eq-eqb, ne_eqb}
use Rattle.wire.specs.Choose.{choose}
use Rattle.wire.proofs.Tests.{and_assoc, not_or}
use Rattle.lecom.specs.Receiver.{held_behind_stx, held_behind_eot}
use Rattle.lecom.proofs.collect.holds_behind_eot.Goals as goal

-- the bytes behind the one at i, as the code takes them
rest : (s : List ℕ) (i : ℕ) → take (length s - (i + 1)) (drop (i + 1) s) ≡ drop (suc i) s
rest s i = take_all (length s - (i + 1)) (drop (i + 1) s) (simp length-drop (omega arith)) ∙ ap (λ (k : ℕ). drop k s) (add-one i)

pub returns-then-b-eq-STX : goal.returns-then-b-eq-STX
unfolding held_behind_eot choose
returns-then-b-eq-STX c =
    let l = c.loop-i in
    let s = c.args.bytes.now in
    c.holds_behind_stx.ensures ∙ ap held_behind_stx (rest s l.i)
    ∙ sym (l.invariant ∙ rw (drop-cons s l.i 0 (omega arith), eq-eqb _ _ c.if-b-eq-STX.true))

pub returns-then-b : goal.returns-then-b
unfolding held_behind_eot choose
returns-then-b c =
    let l = c.loop-i in
    let s = c.args.bytes.now in
    sym (l.invariant ∙ rw (drop-cons s l.i 0 (omega arith), ne_eqb _ _ c.if-b-eq-STX.false, and_assoc, ← not_or, c.if-b.true))

pub loop-i-preserved : goal.loop-i-preserved
unfolding held_behind_eot choose
loop-i-preserved c =
    let l = c.loop-i in
    let s = c.args.bytes.now in
    rw (add-one l.i) (l.invariant ∙ rw (drop-cons s l.i 0 (omega arith), ne_eqb _ _ c.if-b-eq-STX.false, and_assoc, ← not_or, c.if-b.false))

pub returns : goal.returns
unfolding held_behind_eot
returns c =
    let l = c.loop-i in
    let s = c.args.bytes.now in
    sym (l.invariant ∙ rw (drop_of_length-le s {i = l.i} (omega arith)))
