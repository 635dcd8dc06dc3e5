-- `image::store_run` meets its contract. The invariant: the words stored, and then those that are left, are the run. Assumes nothing.
use Rattle.std.proofs.Common.{◌≡◌, List, drop, sym, ap, ◌∙◌, arith}
use Rattle.image.specs.Form.{Entry}
use Rattle.image.specs.Saved.{replaced}
use Rattle.image.proofs.Runs.{left_all, store_left, store_end}
use Rattle.image.proofs.store_run.Goals as goal

pub loop-i-init : goal.loop-i-init
loop-i-init c = let a = c.args in ap (λ (f : List Entry). replaced f a.words.now a.values.now) (left_all a.run)

pub loop-i-preserved : goal.loop-i-preserved
loop-i-preserved c = let l = c.loop-i in
    let a = c.args in
    sym (store_left a.run l.i l.words a.values.now (omega arith) (omega arith)) ∙ l.invariant

pub returns : goal.returns
returns c = let l = c.loop-i in
    let a = c.args in
    let z : a.run.count ≡ l.i = omega arith in
    sym (store_end a.run l.i l.words (drop l.i a.values.now) z) ∙ l.invariant
