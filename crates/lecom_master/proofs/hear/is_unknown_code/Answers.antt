-- `lecom_master::hear::is_unknown_code` meets its contract, test by test. Assumes nothing.
use Rattle.std.proofs.Common.{◌∙◌, arith}
use Rattle.lecom_master.proofs.Unknowns.{unknown_by_code, too_short, other_last, other_first}
use Rattle.lecom_master.proofs.hear.is_unknown_code.Goals as goal

pub returns-then-n-lt-UNKNOWN_SHORTEST : goal.returns-then-n-lt-UNKNOWN_SHORTEST
returns-then-n-lt-UNKNOWN_SHORTEST c address most = too_short address c.args.reply.now c.if-n-lt-UNKNOWN_SHORTEST.true

pub returns-then-reply-n-ne-EOT : goal.returns-then-reply-n-ne-EOT
returns-then-reply-n-ne-EOT c address most = other_last address c.args.reply.now c.if-reply-n-ne-EOT.true

pub returns-then-reply-ne-STX : goal.returns-then-reply-ne-STX
returns-then-reply-ne-STX c address most = other_first address c.args.reply.now c.if-reply-ne-STX.true

pub returns : goal.returns
returns c address most =
    let first = c.if-n-lt-UNKNOWN_SHORTEST in
    let second = c.if-reply-n-ne-EOT in
    c.is_refused_code.ensures address most ∙ unknown_by_code address c.args.reply.now (omega (arith, first.false)) c.if-reply-ne-STX.false second.false
