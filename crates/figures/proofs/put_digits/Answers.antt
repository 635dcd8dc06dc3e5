-- `figures::put_digits` meets its contract. The invariant: with the j figures of v still to put, the buffer is what it becomes. Assumes nothing.
use Rattle.std.proofs.Common.{◌+◌, ◌%◌, ◌≡◌, ◌∙◌, arith, length-set}
use Rattle.figures.specs.Figure.{char_of}
use Rattle.figures.proofs.Characters.{char_decimal}
use Rattle.figures.proofs.Decimals.{digits_none, digits_last}
use Rattle.figures.proofs.put_digits.Goals as goal

pub loop-j-preserved : goal.loop-j-preserved
loop-j-preserved c = let l = c.loop-j in
    let a = c.args in
    let x : char_of (l.v % 10) ≡ 48 + l.v % 10 = char_decimal (l.v % 10) (omega arith) in
    (simp length-set l.invariant.0, rw (← x) (digits_last l.out a.at l.j l.v (omega arith) (omega arith) ∙ l.invariant.1))

pub returns : goal.returns
returns c = let l = c.loop-j in
    let z : l.j ≡ 0 = omega arith in
    cc (digits_none l.out c.args.at l.v, l.invariant.1)
