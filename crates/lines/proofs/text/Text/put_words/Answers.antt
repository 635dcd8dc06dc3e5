-- `lines::text::Text::put_words` meets its contract: a record, so that a wrong program breaks a field of it.
use Rattle.std.proofs.Common.{arith}
use Rattle.lines.proofs.text.Text.put_words.Goals as goal

pub returns : goal.returns
returns g c = record {
  measured = omega arith;
  short = omega arith;
  written = c.copy.ensures;
}
