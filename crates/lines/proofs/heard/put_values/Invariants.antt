-- The loop of `lines::heard::put_values`: the values so far stand in out.
use Rattle.std.proofs.Common.{◌*◌, take}
use Rattle.lines.specs.Text.{Put}
use Rattle.lines.specs.Heard.{value_most, values_text}
use Rattle.lines.proofs.heard.put_values.Given as goal

abbrev pub invariant-loop-value : goal.invariant-loop-value
invariant-loop-value g l = Put (value_most * l.value-index) l.initial.answer.len (values_text (take l.value-index l.values)) l.initial.answer.out l.answer.len l.answer.out
