-- `lines::text::Text::tell_reading` meets its contract.
use Rattle.std.proofs.Common.{T, sym, ap, subst, arith}
use Rattle.card.specs.declared.governor.Governor.{Governor}
use Rattle.lines.specs.Text.{reading, told, spaced, values, is_real}
use Rattle.lines.proofs.Puts.{put_as, put_within}
use Rattle.lines.proofs.text.Text.tell_reading.Goals as goal

pub float_to_bits-d : goal.float_to_bits-d
float_to_bits-d g c = subst (λ (t : Governor). T (is_real t)) c.in-Degrees.is c.requires.0

pub returns-in-Degrees : goal.returns-in-Degrees
unfolding reading
returns-in-Degrees g c = put_as (ap reading (sym c.in-Degrees.is)) c.tell_bits.ensures

pub returns-in-Fault : goal.returns-in-Fault
unfolding reading told spaced values
returns-in-Fault g c = put_as (ap reading (sym c.in-Fault.is)) (put_within (omega arith) c.tell_number.ensures)

pub returns-in-Refused : goal.returns-in-Refused
unfolding reading told spaced values
returns-in-Refused g c = put_as (ap reading (sym c.in-Refused.is)) (put_within (omega arith) c.tell_number-in-Refused.ensures)
