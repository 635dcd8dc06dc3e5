-- `Sheet::all_figures` meets its contract. The invariant: ok tells of the characters passed. Assumes nothing.
use Rattle.std.proofs.Common.{sym, ◌∙◌, add-one, arith}
use Rattle.figures.proofs.Characters.{all_next, all_end}
use Rattle.figures.proofs.sheet.Sheet.all_figures.Goals as goal

pub loop-c-preserved : goal.loop-c-preserved
loop-c-preserved c = let l = c.loop-c in
    let a = c.args in
    rw (add-one l.c-index, c.figure-here.ensures) (l.invariant ∙ all_next a.limit l.ok a.s.now l.c-index (omega arith))

pub returns : goal.returns
returns c = let l = c.loop-c in
    let a = c.args in
    sym (l.invariant ∙ all_end a.limit l.ok a.s.now l.c-index (omega arith))
