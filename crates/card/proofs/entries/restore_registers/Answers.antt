-- `card::entries::restore_registers` meets its contract. The invariant: the words are as they came with the first i registers of both copies replaced. Assumes nothing.
use Rattle.std.proofs.Common.{◌≡◌, ℕ, List, refl, ap, ◌∙◌, add-one, arith, length-set}
use Rattle.std.proofs.Math.Seq.{paste, paste-zero}
use Rattle.card.specs.Layout.{registers, buffer_at, operational_at}
use Rattle.card.proofs.Copies.{saved, copied, copied_next, copied_all}
use Rattle.card.proofs.entries.restore_registers.Goals as goal

pub loop-i-init : goal.loop-i-init
loop-i-init c = let ws = c.args.words.now in
    (c.requires, paste-zero ws operational_at (saved ws) ∙ ap (λ (p : List ℕ). paste p operational_at (saved ws) 0) (paste-zero ws buffer_at (saved ws)))

pub loop-i-preserved : goal.loop-i-preserved
loop-i-preserved c = let l = c.loop-i in
    (simp length-set l.invariant.0, rw (add-one, l.invariant.1) (copied_next c.args.words.now c.requires l.i _ (omega arith) refl))

pub returns : goal.returns
returns c = let l = c.loop-i in
    let i : l.i ≡ registers = omega arith in
    l.invariant.1 ∙ ap (copied c.args.words.now) i ∙ copied_all c.args.words.now c.requires
