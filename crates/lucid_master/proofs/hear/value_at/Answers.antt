-- `lucid_master::hear::value_at` meets its contract, type by type. Assumes nothing.
use Rattle.std.proofs.Common.{subst, sym, ap, ◌∙◌, arith}
use Rattle.lucid.specs.Form.{tenths}
use Rattle.lucid.specs.Value.{Types}
use Rattle.lucid_master.specs.Heard.{word_of}
use Rattle.lucid_master.proofs.Values.{size_demand, size_tenths, size_other, word_demand, word_tenths, word_other}
use Rattle.lucid_master.proofs.hear.value_at.Goals as goal

pub pair-requires : goal.pair-requires
pair-requires c = let e = subst (Types c.args.value_type) c.in-Demand.is c.from.ensures in
    omega (arith, size_demand c.args.value_type e)

pub returns-in-Demand : goal.returns-in-Demand
returns-in-Demand c = let a = c.args in
    let e = subst (Types a.value_type) c.in-Demand.is c.from.ensures in
    c.pair.ensures.0 ∙ sym (word_demand a.value_type a.reply.now a.at e)

pub pair-requires-in-Tenths : goal.pair-requires-in-Tenths
pair-requires-in-Tenths c = let e = subst (Types c.args.value_type) c.in-Tenths.is c.from.ensures in
    omega (arith, size_tenths c.args.value_type e)

pub returns-in-Tenths : goal.returns-in-Tenths
returns-in-Tenths c = let a = c.args in
    let e = subst (Types a.value_type) c.in-Tenths.is c.from.ensures in
    c.short_word.ensures ∙ ap (word_of tenths) c.pair-in-Tenths.ensures.0 ∙ sym (word_tenths a.value_type a.reply.now a.at e)

pub quad-requires : goal.quad-requires
quad-requires c = let other = subst (Types c.args.value_type) c.in-Hundredths.is c.from.ensures in
    omega (arith, size_other c.args.value_type other.0 other.1)

pub returns-in-Hundredths : goal.returns-in-Hundredths
returns-in-Hundredths c = let a = c.args in
    let other = subst (Types a.value_type) c.in-Hundredths.is c.from.ensures in
    c.quad.ensures ∙ sym (word_other a.value_type a.reply.now a.at other.0 other.1)
