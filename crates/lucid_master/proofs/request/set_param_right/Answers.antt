-- `lucid_master::request::set_param_right` meets its contract, test by test. Assumes nothing.
use Rattle.std.proofs.Common.{sym, ◌∙◌, eq-eqb, ne_eqb}
use Rattle.wire.proofs.Cases.{told_true, told_false}
use Rattle.lucid_master.proofs.Requests.{ask_set_param}
use Rattle.lucid_master.proofs.request.set_param_right.Goals as goal

pub returns-then-not-channel_right : goal.returns-then-not-channel_right
returns-then-not-channel_right c = let channel = told_false c.channel_right.ensures c.if-not-channel_right.true in
    sym (ask_set_param c.args.request c.args.values.now c.requires ∙ rw channel)

pub returns-then-not-option : goal.returns-then-not-option
returns-then-not-option c = let channel = told_true c.channel_right.ensures c.if-not-channel_right.false in
    sym (ask_set_param c.args.request c.args.values.now c.requires ∙ rw (channel, c.if-not-option.true))

pub returns-then-not-address_known : goal.returns-then-not-address_known
returns-then-not-address_known c = let channel = told_true c.channel_right.ensures c.if-not-channel_right.false in
    sym (ask_set_param c.args.request c.args.values.now c.requires ∙ rw (channel, c.if-not-option.false, told_false c.address_known.ensures c.if-not-address_known.true))

pub returns-then-values-ne1 : goal.returns-then-values-ne1
returns-then-values-ne1 c = let channel = told_true c.channel_right.ensures c.if-not-channel_right.false in
    let known = told_true c.address_known.ensures c.if-not-address_known.false in
    sym (ask_set_param c.args.request c.args.values.now c.requires ∙ rw (channel, c.if-not-option.false, known, ne_eqb _ _ c.if-values-ne1.true))

pub returns : goal.returns
returns c = let channel = told_true c.channel_right.ensures c.if-not-channel_right.false in
    let known = told_true c.address_known.ensures c.if-not-address_known.false in
    let one = eq-eqb _ _ c.if-values-ne1.false in
    c.in_range.ensures ∙ sym (ask_set_param c.args.request c.args.values.now c.requires ∙ rw (channel, c.if-not-option.false, known, one, ← c.place_of-place.ensures))
