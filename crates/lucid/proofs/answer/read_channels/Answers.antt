-- `lucid::answer::read_channels` meets its contract. The invariant: the values held and those of the channels still to come are those of the whole group. Assumes nothing.
use Rattle.std.proofs.Common.{ℕ, List, ◌++◌, take, refl, sym, ap, ◌∙◌, arith, length-append}
use Rattle.card.proofs.Replies.{told_as}
use Rattle.wire.proofs.Cases.{told_true, told_false}
use Rattle.lucid.specs.Answer.{value_of, read}
use Rattle.lucid.specs.Value.{type_of}
use Rattle.lucid.proofs.Types.{of_probe}
use Rattle.lucid.proofs.Channels.{channels_first}
use Rattle.lucid.proofs.Writes.{length_little, pair_little, joined_none, group_grew, group_passed, group_failed, group_done, value_demand, value_probe, value_fault, length_temperature}
use Rattle.lucid.proofs.answer.read_channels.Goals as goal
use Rattle.lucid.proofs.answer.read_channels.Goals.{then-names+in-Demand, then-names+in-Tenths+in-Temperature, else-names}

pub loop-channel-init : goal.loop-channel-init
loop-channel-init c = record { kept = refl; room = rw c.new-values.ensures (omega arith); joins = rw (c.new-values.ensures, channels_first) (joined_none _) }

pub returns-in_default : goal.returns-in_default
unfolding read
returns-in_default c = let l = c.loop-channel in
    let a = c.args in
    let fault = value_fault a.words.now a.memory.now (type_of a.value_type) l.channel (of_probe a.value_type c.in-Tenths.is) (sym c.read_code.ensures ∙ c.in_default.is) in
    let none = sym l.invariant.joins ∙ group_failed _ l.channel a.mask c.loop-channel-test.true _ (told_true c.names.ensures c.if-names.true) fault in
    told_as _ _ (ap read (sym none)) (rw (← l.invariant.kept) c.respond.ensures)

pub loop-channel-preserved : goal.loop-channel-preserved
loop-channel-preserved c = let l = c.loop-channel in
    let a = c.args in
    let h = c.loop-channel-test.true in
    let value = value_of a.words.now a.memory.now (type_of a.value_type) in
    elim c.if-names.branch [
      | then-names+in-Demand w ↦
          let named = told_true c.names.ensures w.if-names.true in
          let put = w.values-is ∙ w.append.ensures ∙ ap (λ (bytes : List ℕ). l.values ++ bytes) (ap (take 2) w.to_le_bytes.ensures ∙ pair_little _) in
          let e = value_demand a.words.now a.memory.now (type_of a.value_type) l.channel (ap type_of w.in-Demand.is) in
          record {
            kept = l.invariant.kept;
            room = rw put (simp (length-append, length_little) (omega (arith, l.invariant.room)));
            joins = rw put (group_grew value l.channel a.mask h l.values _ named e ∙ l.invariant.joins);
          }
      | then-names+in-Tenths+in-Temperature w ↦
          let named = told_true c.names.ensures w.if-names.true in
          let put = w.values-is ∙ w.put_temperature.ensures in
          let t = w.in-Temperature.t in
          let e = value_probe a.words.now a.memory.now (type_of a.value_type) l.channel t (of_probe a.value_type w.in-Tenths.is) (sym w.read_code.ensures ∙ w.in-Temperature.is) in
          record {
            kept = l.invariant.kept;
            room = rw put (simp length-append (omega (arith, l.invariant.room, length_temperature (type_of a.value_type) t)));
            joins = rw put (group_grew value l.channel a.mask h l.values _ named e ∙ l.invariant.joins);
          }
      | else-names w ↦
          record {
            kept = l.invariant.kept;
            room = rw w.values-is (omega (arith, l.invariant.room));
            joins = rw w.values-is (group_passed value l.channel a.mask h _ (told_false c.names.ensures w.if-names.false) ∙ l.invariant.joins);
          }
    ]

pub returns : goal.returns
unfolding read
returns c = let l = c.loop-channel in
    let whole = sym l.invariant.joins ∙ group_done _ l.channel c.args.mask _ c.loop-channel-test.false in
    told_as _ _ (ap read (sym whole)) (rw (← l.invariant.kept, ← c.bytes.ensures.0) c.respond-2.ensures)
