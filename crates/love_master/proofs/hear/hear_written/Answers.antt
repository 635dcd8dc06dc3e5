-- `love_master::hear::hear_written` meets its contract. Assumes nothing.
use Rattle.std.proofs.Common.{◌≡◌, ℕ, length, sym, refl, arith, rules}
use Rattle.figures.specs.Figure.{pair_of}
use Rattle.love.specs.Answer.{unit_of, normal_reply, written_data}
use Rattle.love_master.specs.Heard.{heard_data}
use Rattle.love_master.specs.Stages.{written_reply_length}
use Rattle.love_master.proofs.Errors.{written_length}
use Rattle.love_master.proofs.hear.hear_written.Goals as goal

whole : (address : ℕ) → length (normal_reply address written_data) ≡ written_reply_length
unfolding normal_reply unit_of pair_of written_data
whole address = refl

pub returns-then-reply-ne-WRITTEN_LENGTH : goal.returns-then-reply-ne-WRITTEN_LENGTH
returns-then-reply-ne-WRITTEN_LENGTH c = sym (written_length _ _ c.if-reply-ne-WRITTEN_LENGTH.true)

pub compared-requires : goal.compared-requires
compared-requires c = record {
  bytes = normal_reply c.args.address.value written_data;
  writes = record { may = λ p h. search rules; does = λ p q len h e. search rules };
  checked = omega (arith, whole c.args.address.value);
  fits = omega (arith, whole c.args.address.value);
}

pub returns : goal.returns
unfolding heard_data
returns c = c.compared.ensures (normal_reply c.args.address.value written_data) (record { may = λ p h. search rules; does = λ p q len h e. search rules })
