-- `lucid_master::hear::hear_values` meets its contract. The invariant: the values so far are known, and those to come stand behind them. Assumes nothing.
use Rattle.std.proofs.Common.{refl, ◌*◌}
use Rattle.wire.proofs.Cases.{no, told_true, told_false}
use Rattle.wire.proofs.Tests.{and_false_right}
use Rattle.lucid.specs.Form.{size_of}
use Rattle.lucid_master.specs.Heard.{shaped, heard_values}
use Rattle.lucid_master.proofs.Values.{shaped_length, known_start, known_wrong, known_next, heard_all}
use Rattle.lucid_master.proofs.hear.hear_values.Goals as goal

pub returns-then-not-is_shaped : goal.returns-then-not-is_shaped
unfolding heard_values
returns-then-not-is_shaped c = no _ _ _ _ (rw (← c.size-size.ensures.0, told_false c.is_shaped.ensures c.if-not-is_shaped.true)) refl

pub loop-i-init : goal.loop-i-init
loop-i-init c = let a = c.args in
    let long = shaped_length a.reply.now _ (told_true c.is_shaped.ensures c.if-not-is_shaped.false) in
    known_start a.value_type a.n a.reply.now _ refl (rw (← c.size-size.ensures.0) long)

pub returns-then-not-is_answerable : goal.returns-then-not-is_answerable
unfolding heard_values
returns-then-not-is_answerable c = let l = c.loop-i in
    let a = c.args in
    let none = told_false c.is_answerable.ensures c.if-not-is_answerable.true in
    let wrong = known_wrong a.value_type a.n a.reply.now l.values l.i c.loop-i-test.true _ (rw c.size-size.ensures.0 at c.value_at-value.ensures) none l.invariant in
    no _ _ _ _ (rw wrong (and_false_right (shaped a.reply.now (size_of a.value_type * a.n)))) refl

pub loop-i-preserved : goal.loop-i-preserved
loop-i-preserved c = let l = c.loop-i in
    let a = c.args in
    let value = rw c.size-size.ensures.0 at c.value_at-value.ensures in
    let right = told_true c.is_answerable.ensures c.if-not-is_answerable.false in
    known_next a.value_type a.n a.reply.now l.values l.i c.loop-i-test.true _ value c.requires right l.invariant

pub returns : goal.returns
returns c = let l = c.loop-i in
    let a = c.args in
    let shape = told_true c.is_shaped.ensures c.if-not-is_shaped.false in
    heard_all a.value_type a.n a.reply.now l.values l.i c.loop-i-test.false (rw c.size-size.ensures.0 at shape) l.invariant
