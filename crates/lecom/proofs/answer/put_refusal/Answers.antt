-- `lecom::answer::put_refusal` meets its contract, test by test. Assumes nothing.
use Rattle.card.proofs.Replies.{wrote_as, wrote_one}
use Rattle.wire.proofs.Cases.{yes, no}
use Rattle.std.proofs.Common.{refl, rules}
use Rattle.lecom.specs.Form.{nak}
use Rattle.lecom.specs.Answer.{refusal_bytes}
use Rattle.lecom.proofs.answer.put_refusal.Goals as goal

pub returns-then-number-f : goal.returns-then-number-f
unfolding refusal_bytes
returns-then-number-f c = wrote_as _ _ (yes _ _ _ _ (rw (← c.args.f.outlined.writes) c.if-number-f.true) refl) c.put_unknown.ensures

pub returns : goal.returns
unfolding refusal_bytes
returns c = wrote_as _ _ (no _ _ _ _ (rw (← c.args.f.outlined.writes) c.if-number-f.false) refl) (wrote_one nak c.args.out.now (search rules))
