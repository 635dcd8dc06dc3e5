-- `figures::put_text` meets its contract: a sign where the word is negative, then the figures of its magnitude. Assumes nothing.
use Rattle.std.proofs.Common.{true, false, ◌+◌, ◌≡◌, ◌∙◌, ap, arith, set, length-set}
use Rattle.wire.specs.Buffer.{put}
use Rattle.wire.proofs.Cases.{told_true, told_false}
use Rattle.figures.specs.Decimal.{digits, size_of}
use Rattle.figures.specs.Signed.{minus_char, is_negative, magnitude}
use Rattle.figures.proofs.Decimals.{size_at_most, shortest_length}
use Rattle.figures.proofs.Texts.{text_negative, text_positive, put_negative, put_positive}
use Rattle.figures.proofs.put_text.Goals as goal

pub put_digits-requires : goal.put_digits-requires
put_digits-requires c = let k = c.size-k in
    let m = c.magnitude-m in
    simp length-set (omega (arith, k.ensures, size_at_most 9 m.result (omega arith)))

pub overflow_add-result : goal.overflow_add-result
overflow_add-result c = omega (arith, c.size-k.ensures, size_at_most 9 c.magnitude-m.result (omega arith))

pub put_digits-requires-2 : goal.put_digits-requires-2
put_digits-requires-2 c = let k = c.size-k in
    let m = c.magnitude-m in
    omega (arith, k.ensures, size_at_most 9 m.result (omega arith))

pub returns-then-is_negative : goal.returns-then-is_negative
returns-then-is_negative c = let a = c.args in
    let n = c.magnitude-m in
    let size = c.size-k in
    let m : n.result ≡ magnitude a.w = n.ensures in
    let k : size.result ≡ size_of (magnitude a.w) = size.ensures ∙ ap size_of m in
    let t : is_negative a.w ≡ true = told_true c.is_negative.ensures c.if-is_negative.true in
    let p : c.put_digits.new.out ≡ put (set a.out.now a.at minus_char) (a.at + 1) (digits size.result n.result) = c.put_digits.ensures in
    (rw (text_negative a.w t) (omega (arith, k, shortest_length (magnitude a.w))), p ∙ rw (k, m) (put_negative a.out.now a.at a.w (omega arith) t))

pub returns : goal.returns
returns c = let a = c.args in
    let n = c.magnitude-m in
    let size = c.size-k in
    let m : n.result ≡ magnitude a.w = n.ensures in
    let k : size.result ≡ size_of (magnitude a.w) = size.ensures ∙ ap size_of m in
    let t : is_negative a.w ≡ false = told_false c.is_negative.ensures c.if-is_negative.false in
    let p : c.put_digits-2.new.out ≡ put a.out.now a.at (digits size.result n.result) = c.put_digits-2.ensures in
    (rw (text_positive a.w t) (omega (arith, k, shortest_length (magnitude a.w))), p ∙ rw (k, m) (put_positive a.out.now a.at a.w t))
