-- `lecom::collect::holds_behind_stx` meets its contract. The invariant: the bytes from i on decide. Assumes nothing.
use Rattle.std.proofs.Common.{◌≡◌, ℕ, suc, ◌+◌, ◌<◌, eqb, List, length, drop, sym, ◌∙◌, add-one, arith, length-drop, drop_of_length-le, drop-cons, eq-eqb, ne_eqb, eqb-true}
use Rattle.wire.specs.Choose.{choose}
use Rattle.wire.proofs.Tests.{same_test}
use Rattle.lecom.specs.Receiver.{held_behind_stx}
use Rattle.lecom.proofs.collect.holds_behind_stx.Goals as goal

-- nothing is left behind the byte at i
last : (s : List ℕ) (i : ℕ) → i < length s → eqb (length (drop (suc i) s)) 0 ≡ eqb (i + 1) (length s)
last s i h =
    let n = length-drop (suc i) s in
    same_test _ _ (λ e. let k = eqb-true (length (drop (suc i) s)) 0 e in eq-eqb (i + 1) (length s) (omega arith))
    (λ e. let k = eqb-true (i + 1) (length s) e in eq-eqb (length (drop (suc i) s)) 0 (omega arith))

pub returns-then-b-eq-ETX : goal.returns-then-b-eq-ETX
unfolding held_behind_stx choose
returns-then-b-eq-ETX c =
    let l = c.loop-i in
    let s = c.args.bytes.now in
    sym (l.invariant ∙ rw (drop-cons s l.i 0 (omega arith), eq-eqb _ _ c.if-b-eq-ETX.true) (last s l.i (omega arith)))

pub returns-then-b-eq-EOT : goal.returns-then-b-eq-EOT
unfolding held_behind_stx choose
returns-then-b-eq-EOT c =
    let l = c.loop-i in
    let s = c.args.bytes.now in
    sym (l.invariant ∙ rw (drop-cons s l.i 0 (omega arith), ne_eqb _ _ c.if-b-eq-ETX.false, eq-eqb _ _ c.if-b-eq-EOT.true))

pub loop-i-preserved : goal.loop-i-preserved
unfolding held_behind_stx choose
loop-i-preserved c =
    let l = c.loop-i in
    let s = c.args.bytes.now in
    rw (add-one l.i) (l.invariant ∙ rw (drop-cons s l.i 0 (omega arith), ne_eqb _ _ c.if-b-eq-ETX.false, ne_eqb _ _ c.if-b-eq-EOT.false))

pub returns : goal.returns
unfolding held_behind_stx
returns c =
    let l = c.loop-i in
    let s = c.args.bytes.now in
    sym (l.invariant ∙ rw (drop_of_length-le s {i = l.i} (omega arith)))
