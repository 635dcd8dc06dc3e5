-- `lecom_master::hear::hear_value` meets its contract, test by test. Assumes nothing.
use Rattle.std.proofs.Common.{Option, List, ◌≡◌, ℕ, [], ◌∷◌, take, replicate, sym, refl, ap, ◌∙◌, arith, length-take-le}
use Rattle.wire.proofs.Pieces.{put_behind}
use Rattle.wire.proofs.Cases.{yes, no, told_true, told_false}
use Rattle.figures.proofs.Texts.{text_length}
use Rattle.lecom.specs.Form.{stx}
use Rattle.lecom.specs.declared.form.Named.{Named}
use Rattle.asking.specs.Against.{against}
use Rattle.asking.specs.Hearing.{heard_by}
use Rattle.asking.specs.Hearing.Hearing.{Gives}
use Rattle.lecom_master.specs.Request.{checked}
use Rattle.lecom_master.specs.Heard.{check_size, answerable, answer_bytes, heard_value}
use Rattle.lecom_master.proofs.Requests.{checked_length}
use Rattle.lecom_master.proofs.hear.hear_value.Goals as goal
use Rattle.lecom_master.proofs.hear.hear_value.Goals.{After-put_checked-len}

pub returns-in_default : goal.returns-in_default
unfolding heard_value answerable
returns-in_default c = no _ _ _ _ (ap (λ (n : Option Named). answerable n c.args.value) (sym c.named_by.ensures ∙ c.in_default.is)) refl

pub returns-then-not-is_answerable : goal.returns-then-not-is_answerable
unfolding heard_value
returns-then-not-is_answerable c =
    no _ _ _ _ (ap (λ (n : Option Named). answerable n c.args.value) (sym c.named_by.ensures ∙ c.in-Some.is) ∙ told_false c.is_answerable.ensures c.if-not-is_answerable.true) refl

pub slice_bounds-answer-end : goal.slice_bounds-answer-end
slice_bounds-answer-end c = omega (arith, c.put_checked-len.ensures.0, checked_length c.args.code c.args.value, text_length c.args.value)

pub slice_bounds-hear_answer-end : goal.slice_bounds-hear_answer-end
slice_bounds-hear_answer-end c =
    sym (length-take-le _ _ (omega (arith, c.put_checked-len.ensures.0, checked_length c.args.code c.args.value, text_length c.args.value)))

-- what was written is the answer
front : (c : After-put_checked-len) → take c.put_checked-len.result c.put_checked-len.new.out ≡ stx ∷ checked c.args.code c.args.value
front c =
    let put = c.put_checked-len in
    ap (take put.result) put.ensures.1 ∙ put_behind (replicate 16 0) stx (checked c.args.code c.args.value) put.result (omega arith) put.ensures.0

pub returns : goal.returns
unfolding heard_value answer_bytes
returns c =
    let value = c.args.value in
    yes _ _ _ _ (ap (λ (n : Option Named). answerable n value) (sym c.named_by.ensures ∙ c.in-Some.is) ∙ told_true c.is_answerable.ensures c.if-not-is_answerable.false)
    (c.hear_answer.ensures ∙ ap (λ (l : List ℕ). heard_by (against check_size check_size c.args.reply.now l) (Gives (value ∷ []))) (front ((goal.at.returns c).After-put_checked-len)))
