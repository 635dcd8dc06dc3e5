-- `Sheet::value` meets its contract. The invariant: what is read is what is read of the rest after v, a number of as many figures as
-- have been passed. Assumes nothing.
use Rattle.std.proofs.Common.{◌+◌, ◌*◌, ◌^◌, ◌≤◌, ◌<◌, ◌≡◌, ◌∙◌, sym, refl, get_or, add-one, arith}
use Rattle.std.proofs.Math.Nat.{pow-suc, pow-le-pow_right}
use Rattle.figures.specs.Figure.{figure_of}
use Rattle.figures.specs.Decimal.{read_of}
use Rattle.figures.proofs.Decimals.{read_figure, read_other, read_end}
use Rattle.figures.proofs.sheet.Sheet.value.Goals as goal
use Rattle.figures.proofs.sheet.Sheet.value.Goals.{In-loop-c}

pub loop-c-init : goal.loop-c-init
unfolding read_of
loop-c-init c = (omega arith, refl)

pub returns-then-x-ge-DECIMAL-clause-read : goal.returns-then-x-ge-DECIMAL-clause-read
returns-then-x-ge-DECIMAL-clause-read c = let l = c.loop-c in
    let s = c.args.s.now in
    let f : c.figure-x.result ≡ figure_of (get_or s l.c-index 0) = c.figure-x.ensures in
    sym (l.invariant.1 ∙ read_other l.v s l.c-index (omega arith) (omega (arith, f)))

-- at most eleven characters have been passed
small : (c : In-loop-c) → c.loop-c.v < 10 ^ 11
small c =
    let m : 10 ^ c.loop-c.c-index ≤ 10 ^ 11 = pow-le-pow_right {n = 10} (omega arith) {j = 11} (omega arith) in
    omega (arith, m)

pub overflow_mul-v : goal.overflow_mul-v
overflow_mul-v c = omega (arith, small ((goal.at.overflow_mul-v c).In-loop-c))

pub overflow_add-v : goal.overflow_add-v
overflow_add-v c = omega (arith, small ((goal.at.overflow_add-v c).In-loop-c))

pub loop-c-preserved : goal.loop-c-preserved
loop-c-preserved c = let l = c.loop-c in
    let s = c.args.s.now in
    let f : c.figure-x.result ≡ figure_of (get_or s l.c-index 0) = c.figure-x.ensures in
    let p : 10 ^ (l.c-index + 1) ≡ 10 ^ l.c-index * 10 = rw add-one (pow-suc 10 l.c-index) in
    (omega (arith, p), rw (f, add-one) (l.invariant.1 ∙ read_figure l.v s l.c-index (omega arith) (omega (arith, f))))

pub returns-clause-read : goal.returns-clause-read
returns-clause-read c = let l = c.loop-c in
    sym (l.invariant.1 ∙ read_end l.v c.args.s.now l.c-index (omega arith))
