-- `love_master::hear::hear_error` meets its contract: the code is known by the second of its characters. Assumes nothing.
use Rattle.std.proofs.Common.{refl, arith, rules}
use Rattle.wire.proofs.Cases.{told_false, told_true}
use Rattle.love_master.proofs.Errors.{error_length_law, error_other, error_none, error_some}
use Rattle.love_master.proofs.Written.{front, within, counted}
use Rattle.love_master.proofs.hear.hear_error.Goals as goal

pub slice_bounds-expected-end : goal.slice_bounds-expected-end
slice_bounds-expected-end c = within _ _ c.put_error-len.ensures (rw error_length_law (omega arith))

pub slice_bounds-is_same-end : goal.slice_bounds-is_same-end
slice_bounds-is_same-end c = counted _ _ c.put_error-len.ensures (rw error_length_law (omega arith))

pub is_same-requires : goal.is_same-requires
is_same-requires c = rw (front _ _ c.put_error-len.ensures, error_length_law) (search rules)

pub returns-then-not-is_code : goal.returns-then-not-is_code
returns-then-not-is_code c = error_other _ _ _ refl (told_false c.is_code.ensures c.if-not-is_code.true)

pub returns-then-not-is_same : goal.returns-then-not-is_same
returns-then-not-is_same c =
    let other = told_false c.is_same.ensures c.if-not-is_same.true in
    let known = told_true c.is_code.ensures c.if-not-is_code.false in
    error_none _ _ _ refl known (rw (front _ _ c.put_error-len.ensures) at other)

pub returns : goal.returns
returns c =
    let whole = told_true c.is_same.ensures c.if-not-is_same.false in
    let known = told_true c.is_code.ensures c.if-not-is_code.false in
    error_some _ _ _ refl known (rw (front _ _ c.put_error-len.ensures) at whole)
