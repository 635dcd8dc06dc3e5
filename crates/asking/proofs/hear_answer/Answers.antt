-- `asking::hear_answer` meets its contract. Assumes nothing.
use Rattle.std.proofs.Common.{sym}
use Rattle.std.proofs.lemmas.Result.{err_from_is_err_and}
use Rattle.asking.specs.Hearing.{said_of}
use Rattle.asking.proofs.Hearings.{heard_passed, heard_unread}
use Rattle.asking.proofs.hear_answer.Goals as goal

pub returns-in_err-compare : goal.returns-in_err-compare
returns-in_err-compare c = let p = err_from_is_err_and c.from_residual.result c.from_residual.ensures.1 in
    rw (p.1, p.2) (sym (heard_unread c.in_err-compare.field-0.0 (said_of c.args.said) c.in_err-compare.ensures))

pub returns : goal.returns
returns c = sym (heard_passed (said_of c.args.said) c.in_ok-compare.ensures)
