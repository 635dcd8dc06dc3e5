-- `master::answer::is_by_turns` meets its contract.
use Rattle.std.proofs.Common.{refl, sym, ◌∙◌, add-one, arith}
use Rattle.master.proofs.Frames.{turns_next, turns_end}
use Rattle.master.proofs.answer.is_by_turns.Goals as goal

pub loop-i-init : goal.loop-i-init
loop-i-init c = refl

pub loop-i-preserved : goal.loop-i-preserved
loop-i-preserved c = let l = c.loop-i in
    let start = c in
    let a = start.args in
    let next = turns_next l.ok a.shown.now a.masks.now a.states.now l.i start.requires.0 start.requires.1 (omega arith) in
    rw (add-one l.i) (l.invariant ∙ next)

pub returns : goal.returns
returns c = let l = c.loop-i in
    let a = c.args in
    sym (l.invariant ∙ turns_end l.ok a.shown.now a.masks.now a.states.now l.i (omega arith) (omega arith))
