-- `lines::heard::tell_heard` meets its contract.
use Rattle.std.proofs.Common.{ℕ, [], Result, sym, ap, ◌∙◌, arith}
use Rattle.asking.specs.Hearing.{hearing_of}
use Rattle.asking.specs.declared.hearing.Heard.{Heard}
use Rattle.asking.specs.declared.hearing.Unread.{Unread}
use Rattle.lines.specs.Text.{told}
use Rattle.lines.specs.Heard.{heard_text}
use Rattle.lines.proofs.Puts.{put_within, put_as}
use Rattle.lines.proofs.heard.tell_heard.Goals as goal

pub returns-in-Ok : goal.returns-in-Ok
returns-in-Ok g c = put_as (ap (λ (h : Result Heard Unread). heard_text (hearing_of h)) (sym c.in-Ok.is)) c.tell_said.ensures

pub returns-in-Err : goal.returns-in-Err
unfolding heard_text
returns-in-Err g c = put_within (omega arith) (put_as (ap (λ (n : ℕ). told n []) c.number.ensures ∙ ap (λ (h : Result Heard Unread). heard_text (hearing_of h)) (sym c.in-Err.is)) c.tell_number.ensures)
