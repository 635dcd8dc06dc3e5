-- `lecom_master::request::write_right` meets its contract, test by test. Assumes nothing.
use Rattle.std.proofs.Common.{Option, ◌≡◌, true, false, sym, ap, ◌∙◌}
use Rattle.wire.proofs.Cases.{told_true, told_false}
use Rattle.lecom.specs.Form.{named_by, writable, takes}
use Rattle.lecom.specs.declared.form.Named.{Named}
use Rattle.lecom_master.specs.Request.{task_right}
use Rattle.lecom_master.proofs.request.write_right.Goals as goal

pub returns-then-not-is_writable : goal.returns-then-not-is_writable
unfolding task_right
returns-then-not-is_writable c =
    let w : writable (named_by c.args.code) ≡ false = ap writable (sym c.named_by-named.ensures) ∙ told_false c.is_writable.ensures c.if-not-is_writable.true in
    rw w

pub returns-then-not-in_span : goal.returns-then-not-in_span
unfolding task_right
returns-then-not-in_span c =
    let w : writable (named_by c.args.code) ≡ true = ap writable (sym c.named_by-named.ensures) ∙ told_true c.is_writable.ensures c.if-not-is_writable.false in
    rw (w, told_false c.in_span.ensures c.if-not-in_span.true)

pub returns : goal.returns
unfolding task_right
returns c =
    let w : writable (named_by c.args.code) ≡ true = ap writable (sym c.named_by-named.ensures) ∙ told_true c.is_writable.ensures c.if-not-is_writable.false in
    rw (w, told_true c.in_span.ensures c.if-not-in_span.false) (c.is_taken.ensures ∙ ap (λ (n : Option Named). takes n c.args.value) c.named_by-named.ensures)
