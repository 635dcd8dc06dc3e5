-- `wire::move_words` meets its contract. The invariant: the words are as they came with the first i of the run pasted at `to`. Assumes nothing.
use Rattle.std.proofs.Common.{◌≡◌, ◌+◌, refl, add-one, arith, length-set, rules}
use lib.Seq.{paste-zero}
use Rattle.wire.specs.Buffer.{part}
use Rattle.wire.proofs.Moves.{turn, done}
use Rattle.wire.proofs.move_words.Goals as goal

pub loop-i-init : goal.loop-i-init
loop-i-init c = (refl, paste-zero c.args.words.now c.args.to (part c.args.words.now c.args.from (c.args.from + c.args.n)))

pub loop-i-preserved : goal.loop-i-preserved
loop-i-preserved c = let l = c.loop-i in
    let s = c in
    let a = s.args in
    (rw length-set l.invariant.0, rw (add-one, l.invariant.1) (turn a.words.now a.from a.to a.n l.i s.requires.0.0 s.requires.0.1 s.requires.1 (search rules)))

pub returns : goal.returns
returns c = let a = c.args in
    let i : c.loop-i.i ≡ a.n = omega arith in
    rw (c.loop-i.invariant.1, i) (done a.words.now a.from a.to a.n c.requires.0.0)
