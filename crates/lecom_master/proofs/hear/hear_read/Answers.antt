-- `lecom_master::hear::hear_read` meets its contract, test by test. Assumes nothing.
use Rattle.std.proofs.Common.{◌≡◌, sym, ap, ◌∙◌, None}
use Rattle.lecom_master.specs.Heard.{data_read, heard_value}
use Rattle.lecom_master.proofs.Hearings.{short_heard, long_heard}
use Rattle.lecom_master.proofs.hear.hear_read.Goals as goal

pub returns-then-n-lt-ANSWER_SHORTEST : goal.returns-then-n-lt-ANSWER_SHORTEST
returns-then-n-lt-ANSWER_SHORTEST c = short_heard _ c.args.reply.now c.if-n-lt-ANSWER_SHORTEST.true

pub returns-then-n-gt-ANSWER_LONGEST : goal.returns-then-n-gt-ANSWER_LONGEST
returns-then-n-gt-ANSWER_LONGEST c = long_heard _ c.args.reply.now _ c.if-n-gt-ANSWER_LONGEST.true

pub returns-in_default : goal.returns-in_default
unfolding data_read heard_value
returns-in_default c =
    let e : data_read c.args.reply.now ≡ None = sym c.parse.ensures ∙ c.in_default.is in
    rw e

pub returns : goal.returns
unfolding data_read
returns c =
    let parsed = c.parse in
    c.hear_value.ensures ∙ ap (heard_value c.args.code c.args.reply.now) (sym c.in-Some.is ∙ parsed.ensures)
