-- `lucid_master::hear::bare_status` meets its contract, test by test. Assumes nothing.
use Rattle.std.proofs.Common.{refl, ◌∙◌, eq-eqb, ne_eqb}
use Rattle.wire.proofs.Cases.{yes, no}
use Rattle.lucid_master.specs.Stages.{bare_status}
use Rattle.lucid_master.proofs.Values.{bare_test}
use Rattle.lucid_master.proofs.hear.bare_status.Goals as goal

pub returns-then-reply-ne-HEAD : goal.returns-then-reply-ne-HEAD
unfolding bare_status
returns-then-reply-ne-HEAD c = no _ _ _ _ (bare_test c.args.reply.now ∙ rw (ne_eqb _ _ c.if-reply-ne-HEAD.true)) refl

pub returns-then-reply-ne0 : goal.returns-then-reply-ne0
unfolding bare_status
returns-then-reply-ne0 c = no _ _ _ _ (bare_test c.args.reply.now ∙ rw (eq-eqb _ _ c.if-reply-ne-HEAD.false, ne_eqb _ _ c.if-reply-ne0.true)) refl

pub returns : goal.returns
unfolding bare_status
returns c = yes _ _ _ _ (bare_test c.args.reply.now ∙ rw (eq-eqb _ _ c.if-reply-ne-HEAD.false, eq-eqb _ _ c.if-reply-ne0.false)) refl
