-- `lines::heard::tell_said` meets its contract.
use Rattle.std.proofs.Common.{sym, ap, ◌∙◌, arith}
use Rattle.asking.specs.Hearing.{said_of}
use Rattle.asking.specs.declared.hearing.Heard.{Heard}
use Rattle.lines.specs.Heard.{heard_text}
use Rattle.lines.proofs.Puts.{put_within, put_as}
use Rattle.lines.proofs.Hearings.{no_code}
use Rattle.lines.proofs.heard.tell_said.Goals as goal

pub returns-in-Value : goal.returns-in-Value
unfolding heard_text
returns-in-Value g c = put_as (ap (λ (h : Heard). heard_text (said_of h)) (sym c.in-Value.is)) c.tell_values.ensures

pub returns-in-Values : goal.returns-in-Values
unfolding heard_text
returns-in-Values g c = put_as (ap (λ (h : Heard). heard_text (said_of h)) (sym c.in-Values.is)) c.tell_group.ensures

pub returns-in-Done : goal.returns-in-Done
unfolding heard_text
returns-in-Done g c = put_as (ap (λ (h : Heard). heard_text (said_of h)) (sym c.in-Done.is)) (put_within (omega arith) c.tell_word.ensures)

pub returns-in-Fault : goal.returns-in-Fault
unfolding heard_text
returns-in-Fault g c = put_as (ap (λ (h : Heard). heard_text (said_of h)) (sym c.in-Fault.is)) (put_within (omega arith) c.tell_word-in-Fault.ensures)

pub returns-in-Refused : goal.returns-in-Refused
unfolding heard_text
returns-in-Refused g c = put_as (no_code ∙ ap (λ (h : Heard). heard_text (said_of h)) (sym c.in-Refused.is)) (put_within (omega arith) c.tell_word-in-Refused.ensures)

pub returns-in-RefusedFor : goal.returns-in-RefusedFor
unfolding heard_text
returns-in-RefusedFor g c = put_as (ap (λ (h : Heard). heard_text (said_of h)) (sym c.in-RefusedFor.is)) c.tell_refused_for.ensures
