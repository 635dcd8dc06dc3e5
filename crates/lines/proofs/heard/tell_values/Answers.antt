-- `lines::heard::tell_values` meets its contract.
use Rattle.std.proofs.Common.{arith, rules}
use Rattle.lines.specs.Heard.{given_text}
use Rattle.lines.proofs.Puts.{put_then, put_within}
use Rattle.lines.proofs.heard.tell_values.Goals as goal

pub returns : goal.returns
unfolding given_text
returns g c = put_within (omega arith) (put_then (search rules) c.tell_word.ensures c.put_values.ensures)
