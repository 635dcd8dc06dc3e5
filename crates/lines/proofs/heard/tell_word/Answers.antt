-- `lines::heard::tell_word` meets its contract.
use Rattle.std.proofs.Common.{arith, rules}
use Rattle.lines.proofs.Puts.{put_anew, put_then, put_within}
use Rattle.lines.proofs.heard.tell_word.Goals as goal

pub returns : goal.returns
returns g c = put_within (omega arith) (put_anew c.clear.ensures.len c.clear.ensures.out (put_then (search rules) c.put_number.ensures c.put_words.ensures))
