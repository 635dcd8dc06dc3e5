-- `lecom_master::hear::is_refusal` meets its contract, test by test. Assumes nothing.
use Rattle.std.proofs.Common.{[], ◌∷◌, sym, arith}
use Rattle.wire.proofs.Pieces.{same_one}
use Rattle.wire.proofs.Same.{lengths_apart}
use Rattle.wire.proofs.Tests.{or_false_right}
use Rattle.lecom.specs.Form.{nak}
use Rattle.lecom_master.specs.Heard.{is_refusal}
use Rattle.lecom_master.proofs.Unknowns.{too_short}
use Rattle.lecom_master.proofs.hear.is_refusal.Goals as goal

pub returns-then-reply-eq1 : goal.returns-then-reply-eq1
unfolding is_refusal
returns-then-reply-eq1 c address most =
    let reply = c.args.reply.now in
    let one = c.if-reply-eq1.true in
    rw (same_one reply nak one, ← (too_short address reply (omega (arith, one)))) (sym (or_false_right _))

pub returns : goal.returns
unfolding is_refusal
returns c address most = rw (lengths_apart c.args.reply.now (nak ∷ []) c.if-reply-eq1.false) (c.is_unknown_code.ensures address most)
