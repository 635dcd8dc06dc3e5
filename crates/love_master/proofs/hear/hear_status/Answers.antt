-- `love_master::hear::hear_status` meets its contract. Assumes nothing.
use Rattle.std.proofs.Common.{sym, eq-eqb, ne_eqb, arith, rules}
use Rattle.wire.proofs.Cases.{yes, no}
use Rattle.figures.specs.Figure.{zero_char}
use Rattle.love.specs.Answer.{normal_reply, fault_char, status_data, probe_data}
use Rattle.love_master.specs.Heard.{heard_data, heard_status}
use Rattle.love_master.specs.Stages.{heard_temperature}
use Rattle.love_master.proofs.Shown.{status_whole, status_length_law}
use Rattle.love_master.proofs.hear.hear_status.Goals as goal

pub returns-then-reply-ne-STATUS_LENGTH : goal.returns-then-reply-ne-STATUS_LENGTH
returns-then-reply-ne-STATUS_LENGTH c = sym (status_length_law _ _ c.if-reply-ne-STATUS_LENGTH.true)

pub compared-requires : goal.compared-requires
compared-requires c =
    let a = c.args.address.value in
    record {
      bytes = normal_reply a (status_data fault_char zero_char 0);
      writes = record { may = λ p h. search rules; does = λ p q len h e. search rules };
      checked = omega (arith, status_whole a fault_char zero_char 0);
      fits = omega (arith, status_whole a fault_char zero_char 0);
    }

pub returns-then-reply-eq-FAULT : goal.returns-then-reply-eq-FAULT
unfolding heard_status heard_data probe_data
returns-then-reply-eq-FAULT c =
    yes _ _ _ _ (eq-eqb _ _ c.if-reply-eq-FAULT.true)
    (c.compared.ensures (normal_reply c.args.address.value (status_data fault_char zero_char 0)) (record { may = λ p h. search rules; does = λ p q len h e. search rules }))

pub returns : goal.returns
unfolding heard_status heard_temperature
returns c = no _ _ _ _ (ne_eqb _ _ c.if-reply-eq-FAULT.false) c.hear_temperature.ensures
