-- `console::receiver_calls::tell_received` meets its contract. Assumes nothing.
use Rattle.std.proofs.Common.{rules, arith}
use Rattle.lines.proofs.Puts.{put_anew, put_then, put_within, put_as}
use Rattle.console.proofs.Receipts.{received_done, received_refused}
use Rattle.console.proofs.receiver_calls.tell_received.Goals as goal

pub returns-then-number-gt-DONE : goal.returns-then-number-gt-DONE
returns-then-number-gt-DONE c = put_within (omega arith) (put_as (received_refused _ _ _ c.if-number-gt-DONE.true) c.tell_number.ensures)

pub returns : goal.returns
returns c =
    let number = put_anew c.clear.ensures.len c.clear.ensures.out c.put_number.ensures in
    let taken = put_then (search rules) (put_then (search rules) number c.put_words.ensures) c.put_number-2.ensures in
    put_within (omega arith) (put_as (received_done _ _ _ (search rules)) (put_then (search rules) taken c.put_bytes.ensures))
