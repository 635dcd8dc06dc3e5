-- `lucid::answer::put_temperature` meets its contract, type by type. Assumes nothing.
use Rattle.std.proofs.Common.{ℕ, List, ◌++◌, take, ap, ◌∙◌}
use Rattle.wire.specs.Choose.{choose}
use Rattle.lucid.specs.Answer.{hundredths_of, temperature_in}
use Rattle.lucid.proofs.Types.{no_tenths}
use Rattle.lucid.proofs.Writes.{word_little, pair_little}
use Rattle.lucid.proofs.answer.put_temperature.Goals as goal

pub returns-in-Tenths : goal.returns-in-Tenths
unfolding temperature_in choose
returns-in-Tenths c = let bytes = ap (take 2) c.to_le_bytes.ensures ∙ rw c.word.ensures (pair_little c.args.t.0) in
    rw c.in-Tenths.is (c.append.ensures ∙ ap (λ (bytes : List ℕ). c.args.values.now ++ bytes) bytes)

pub returns-in_default : goal.returns-in_default
unfolding temperature_in choose
returns-in_default c = let bytes = c.to_le_bytes-in_default.ensures ∙ rw c.of.ensures (word_little (hundredths_of c.args.t).0) in
    rw (no_tenths _ c.in_default.not-Tenths) (c.append-in_default.ensures ∙ ap (λ (bytes : List ℕ). c.args.values.now ++ bytes) bytes)
