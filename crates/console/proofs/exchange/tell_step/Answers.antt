-- `console::exchange::tell_step` meets its contract. Assumes nothing.
use Rattle.std.proofs.Common.{rules, arith}
use Rattle.lines.proofs.Puts.{put_anew, put_then, put_within}
use Rattle.console.specs.Stepped.{stepped}
use Rattle.console.proofs.exchange.tell_step.Goals as goal

pub returns : goal.returns
unfolding stepped
returns c =
    let number = put_anew c.clear.ensures.len c.clear.ensures.out c.put_number.ensures in
    put_within (omega arith) (put_then (search rules) (put_then (search rules) number c.put_verdict.ensures) c.put_bytes.ensures)
