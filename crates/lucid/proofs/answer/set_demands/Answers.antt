-- `lucid::answer::set_demands` meets its contract. The invariant: the demands still to be set from here make the words asked for. Assumes nothing.
use Rattle.std.proofs.Common.{ℕ, List, length, sym, ap, ◌∙◌, arith}
use Rattle.std.proofs.Math.ListN.{length-set}
use Rattle.wire.proofs.Cases.{told_true, told_false}
use Rattle.lucid.specs.Answer.{demanded}
use Rattle.lucid.proofs.Channels.{channels_named, channels_passed, channels_done}
use Rattle.lucid.proofs.answer.set_demands.Goals as goal
use Rattle.lucid.proofs.answer.set_demands.Goals.{then-names, else-names}

pub pair-demand-requires : goal.pair-demand-requires
pair-demand-requires c = let l = c.loop-channel in
    omega (arith, l.invariant.left, ap length (channels_named l.channel c.args.mask c.loop-channel-test.true (told_true c.names.ensures c.if-names.true)))

pub returns : goal.returns
unfolding demanded
returns c = let l = c.loop-channel in
    rw (channels_done l.channel c.args.mask c.loop-channel-test.false) at l.invariant.set

pub loop-channel-preserved : goal.loop-channel-preserved
unfolding demanded
loop-channel-preserved c = let l = c.loop-channel in
    let f = c.args.f.now in
    let h = c.loop-channel-test.true in
    elim c.if-names.branch [
      | then-names w ↦
          let e = channels_named l.channel c.args.mask h (told_true c.names.ensures w.if-names.true) in
          record {
            kept = rw (w.words-is, w.set_demand.ensures) (simp length-set l.invariant.kept);
            left = omega (arith, ap length e, w.at-is, l.invariant.left);
            set = rw (w.words-is, w.at-is, w.set_demand.ensures, w.pair-demand.ensures.0) (sym (ap (λ (ks : List ℕ). demanded ks f l.at l.words) e) ∙ l.invariant.set);
          }
      | else-names w ↦
          let e = channels_passed l.channel c.args.mask h (told_false c.names.ensures w.if-names.false) in
          record {
            kept = rw w.words-is l.invariant.kept;
            left = omega (arith, ap length e, w.at-is, l.invariant.left);
            set = rw (w.words-is, w.at-is) (sym (ap (λ (ks : List ℕ). demanded ks f l.at l.words) e) ∙ l.invariant.set);
          }
    ]
