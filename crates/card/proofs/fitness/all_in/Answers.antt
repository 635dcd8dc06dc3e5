-- `card::fitness::all_in` meets its contract. The invariant: the test of the whole is what was found so far and the test of the rest. Assumes nothing.
use Rattle.wire.specs.Word.{word_values}
use Rattle.wire.proofs.Tests.{and_true_right, not_or}
use Rattle.card.proofs.Scans.{all_in_next}
use Rattle.card.proofs.Spans.{span_shifted}
use Rattle.card.specs.Fitness.{in_span}
use Rattle.card.specs.Scans.{half, all_in}
use Rattle.std.proofs.Common.{◌≡◌, ◌+◌, ◌-◌, ◌%◌, not, get_or, sym, refl, ap, ◌∙◌, add-one, arith, drop_of_length-le, rules}
use Rattle.card.proofs.fitness.all_in.Goals as goal

pub returns : goal.returns
unfolding all_in
returns c = let a = c.args in
    rw (c.loop-x.invariant, drop_of_length-le a.s.now c.loop-x-test.false) (sym (and_true_right (not c.loop-x.bad)))

pub loop-x-preserved : goal.loop-x-preserved
loop-x-preserved c =
    let l = c.loop-x in
    let a = c.args in
    let word = get_or a.s.now l.x-index 0 in
    let base = (half + (word_values - a.lo)) % word_values in
    let above = (a.hi + (word_values - a.lo)) % word_values in
    let x = c.type_inv.s l.x-index in
    let h = span_shifted a.lo a.hi word base above ((above + half) % word_values) (omega arith) (omega (arith, x)) (omega arith) (omega arith) (omega arith) refl in
    let here : not c.is_beyond-here.result ≡ in_span a.lo a.hi word = ap not c.is_beyond-here.ensures ∙ sym h in
    rw (add-one, not_or l.bad c.is_beyond-here.result) (l.invariant ∙ all_in_next a.lo a.hi a.s.now l.x-index (not l.bad) (not c.is_beyond-here.result) (search rules) here)
