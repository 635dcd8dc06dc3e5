-- `lines::heard::put_value` meets its contract.
use Rattle.std.proofs.Common.{arith, rules}
use Rattle.wire.specs.Choose.{choose}
use Rattle.lines.specs.Text.{entry_of}
use Rattle.lines.specs.Heard.{value_text}
use Rattle.lines.proofs.Puts.{put_then, put_within}
use Rattle.lines.proofs.heard.put_value.Goals as goal

pub returns : goal.returns
unfolding value_text entry_of choose
returns g c = put_within (omega arith) (put_then (search rules) c.put_words.ensures c.put_entry.ensures)
