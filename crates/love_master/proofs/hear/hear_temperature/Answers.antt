-- `love_master::hear::hear_temperature` meets its contract. Assumes nothing.
use Rattle.std.proofs.Common.{◌≡◌, ℕ, List, sym, refl, ap, ◌∙◌, arith, rules}
use Rattle.wire.proofs.Cases.{yes, no, told_false, told_true}
use Rattle.love.specs.Answer.{normal_reply, fine_char, status_data, probe_data}
use Rattle.love_master.specs.Heard.{heard_data}
use Rattle.love_master.specs.Stages.{heard_temperature}
use Rattle.love_master.proofs.Shown.{said_status, status_settled, status_whole}
use Rattle.love_master.proofs.hear.hear_temperature.Goals as goal
use Rattle.love_master.proofs.hear.hear_temperature.Goals.{After-with_sign-word}

-- what is heard by the word that was read
module _ (c : After-with_sign-word) where
  abbrev reply : List ℕ
  reply = c.args.reply.now

  settled : heard_temperature c.args.address.value reply ≡ said_status c.args.address.value reply c.with_sign-word.result
  settled =
      let a = c.args.address.value in
      let n = c.number_at-number in
      status_settled a reply n.result (search rules) n.ensures (rw (← c.with_sign-word.ensures) (search rules)) ∙ ap (said_status a reply) (sym c.with_sign-word.ensures)

pub returns-then-not-is_temperature : goal.returns-then-not-is_temperature
unfolding said_status
returns-then-not-is_temperature c = no _ _ _ _ (told_false c.is_temperature.ensures c.if-not-is_temperature.true) refl ∙ sym (settled ((goal.at.returns-then-not-is_temperature c).After-with_sign-word))

pub compared-requires : goal.compared-requires
compared-requires c =
    let a = c.args.address.value in
    record {
      bytes = normal_reply a (status_data fine_char c.by_sign-fourth.result c.magnitude-size.result);
      writes = record { may = λ p h. search rules; does = λ p q len h e. search rules };
      checked = omega (arith, status_whole a fine_char c.by_sign-fourth.result c.magnitude-size.result);
      fits = omega (arith, status_whole a fine_char c.by_sign-fourth.result c.magnitude-size.result);
    }

pub returns : goal.returns
unfolding said_status heard_data probe_data
returns c =
    let said = c.compared.ensures (normal_reply c.args.address.value (status_data fine_char c.by_sign-fourth.result c.magnitude-size.result)) (record { may = λ p h. search rules; does = λ p q len h e. search rules }) in
    rw (c.magnitude-size.ensures, c.by_sign-fourth.ensures) at said
    ∙ yes _ _ _ _ (told_true c.is_temperature.ensures c.if-not-is_temperature.false) refl ∙ sym (settled ((goal.at.returns c).After-with_sign-word))
