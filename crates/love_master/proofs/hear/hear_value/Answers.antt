-- `love_master::hear::hear_value` meets its contract. Assumes nothing.
use Rattle.std.proofs.Common.{◌≡◌, ℕ, List, length, sym, refl, ap, ◌∙◌, arith, rules}
use Rattle.wire.proofs.Cases.{yes, no, told_false, told_true}
use Rattle.figures.specs.Figure.{pair_of}
use Rattle.figures.specs.Decimal.{digits}
use Rattle.love.specs.Answer.{unit_of, normal_reply, value_data}
use Rattle.love_master.specs.Heard.{heard_data, heard_value}
use Rattle.love_master.specs.Stages.{value_reply_length}
use Rattle.love_master.proofs.Shown.{value_length, said_value, value_settled}
use Rattle.love_master.proofs.hear.hear_value.Goals as goal
use Rattle.love_master.proofs.hear.hear_value.Goals.{After-with_sign-word}

-- what is heard by the word that was read
module _ (c : After-with_sign-word) where
  abbrev reply : List ℕ
  reply = c.args.reply.now

  settled : heard_value c.args.address.value c.args.place reply ≡ said_value c.args.address.value c.args.place reply c.with_sign-word.result
  settled =
      let a = c.args in
      let n = c.number_at-number in
      value_settled a.address.value a.place reply n.result (search rules) (search rules) n.ensures (rw (← c.with_sign-word.ensures) (search rules))
      ∙ ap (said_value a.address.value a.place reply) (sym c.with_sign-word.ensures)

pub returns-then-reply-ne-VALUE_LENGTH : goal.returns-then-reply-ne-VALUE_LENGTH
returns-then-reply-ne-VALUE_LENGTH c = sym (value_length _ _ _ c.if-reply-ne-VALUE_LENGTH.true)

pub returns-then-not-in_range : goal.returns-then-not-in_range
unfolding said_value
returns-then-not-in_range c = no _ _ _ _ (told_false c.in_range.ensures c.if-not-in_range.true) refl ∙ sym (settled ((goal.at.returns-then-not-in_range c).After-with_sign-word))

whole : (address word : ℕ) → length (normal_reply address (value_data word)) ≡ value_reply_length
unfolding normal_reply unit_of pair_of value_data digits
whole address word = refl

pub compared-requires : goal.compared-requires
compared-requires c =
    let a = c.args.address.value in
    let word = c.with_sign-word.result in
    record {
      bytes = normal_reply a (value_data word);
      writes = record { may = λ p h. search rules; does = λ p q len h e. search rules };
      checked = omega (arith, whole a word);
      fits = omega (arith, whole a word);
    }

pub returns : goal.returns
unfolding said_value heard_data
returns c =
    let said = c.compared.ensures (normal_reply c.args.address.value (value_data c.with_sign-word.result)) (record { may = λ p h. search rules; does = λ p q len h e. search rules }) in
    said ∙ yes _ _ _ _ (told_true c.in_range.ensures c.if-not-in_range.false) refl ∙ sym (settled ((goal.at.returns c).After-with_sign-word))
