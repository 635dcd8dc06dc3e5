-- `lucid_master::request::group_set_right` meets its contract, test by test. Assumes nothing.
use Rattle.std.proofs.Common.{sym, ◌∙◌}
use Rattle.wire.proofs.Cases.{told_true, told_false}
use Rattle.lucid_master.proofs.Requests.{ask_set_group}
use Rattle.lucid_master.proofs.request.group_set_right.Goals as goal

pub returns-then-not-mask_right : goal.returns-then-not-mask_right
returns-then-not-mask_right c = sym (ask_set_group c.args.request c.args.values.now c.requires ∙ rw (told_false c.mask_right.ensures c.if-not-mask_right.true))

pub returns : goal.returns
returns c = let mask = told_true c.mask_right.ensures c.if-not-mask_right.false in
    c.set_right.ensures ∙ sym (ask_set_group c.args.request c.args.values.now c.requires ∙ rw (mask, ← c.count.ensures.0))
