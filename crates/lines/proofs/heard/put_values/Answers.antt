-- `lines::heard::put_values` meets its contract.
use Rattle.std.proofs.Common.{arith}
use Rattle.lines.specs.Heard.{values_text}
use Rattle.lines.proofs.Hearings.{values_append, values_one}
use Rattle.lines.proofs.Puts.{put_none, put_next, put_as}
use Rattle.lines.proofs.heard.put_values.Goals as goal

pub loop-value-init : goal.loop-value-init
unfolding values_text
loop-value-init g c = put_none _ _

pub loop-value-preserved : goal.loop-value-preserved
loop-value-preserved g c = put_next values_text values_append _ _ (omega arith) (omega arith) c.loop-value.invariant (put_as (values_one _) c.put_value.ensures)
