-- `console::output::hold` meets its contract. Assumes nothing.
use Rattle.std.proofs.Common.{rules}
use Rattle.lines.proofs.Puts.{put_as, put_then}
use Rattle.console.proofs.Holding.{followed}
use Rattle.console.proofs.output.hold.Goals as goal

pub returns : goal.returns
returns c = followed (search rules) (put_then (search rules) (put_as c.text.ensures c.put_words.ensures) c.put_words-2.ensures)
