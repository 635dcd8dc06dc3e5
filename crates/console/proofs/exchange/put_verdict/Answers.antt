-- `console::exchange::put_verdict` meets its contract. Assumes nothing.
use Rattle.std.proofs.Common.{sym, ap, arith}
use Rattle.lines.proofs.Puts.{put_as, put_within}
use Rattle.console.specs.Stepped.{verdict_of}
use Rattle.console.proofs.exchange.put_verdict.Goals as goal

pub returns-in-Open : goal.returns-in-Open
unfolding verdict_of
returns-in-Open c = put_as (ap verdict_of (sym c.in-Open.is)) (put_within (omega arith) c.put_words.ensures)

pub returns-in-Done : goal.returns-in-Done
unfolding verdict_of
returns-in-Done c = put_as (ap verdict_of (sym c.in-Done.is)) (put_within (omega arith) c.put_words-in-Done.ensures)

pub returns-in-Unknown : goal.returns-in-Unknown
unfolding verdict_of
returns-in-Unknown c = put_as (ap verdict_of (sym c.in-Unknown.is)) (put_within (omega arith) c.put_words-in-Unknown.ensures)
