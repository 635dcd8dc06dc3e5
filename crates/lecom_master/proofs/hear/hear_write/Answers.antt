-- `lecom_master::hear::hear_write` meets its contract, test by test. Assumes nothing.
use Rattle.std.proofs.Common.{[], ◌∷◌, refl, ◌∙◌, arith, eq-eqb}
use Rattle.wire.proofs.Pieces.{same_one}
use Rattle.wire.proofs.Same.{lengths_apart}
use Rattle.wire.proofs.Cases.{yes, no}
use Rattle.lecom.specs.Form.{ack}
use Rattle.lecom_master.proofs.hear.hear_write.Goals as goal

pub returns-then-reply-ne1 : goal.returns-then-reply-ne1
returns-then-reply-ne1 c = no _ _ _ _ (lengths_apart c.args.reply.now (ack ∷ []) c.if-reply-ne1.true) refl

pub returns : goal.returns
returns c = yes _ _ _ _ (same_one c.args.reply.now ack c.if-reply-ne1.false ∙ eq-eqb _ _ (omega arith)) refl
