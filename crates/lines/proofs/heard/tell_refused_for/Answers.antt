-- `lines::heard::tell_refused_for` meets its contract.
use Rattle.std.proofs.Common.{ℕ, List, ◌++◌, sym, ap, append-nil, arith, rules}
use Rattle.figures.specs.Decimal.{shortest}
use Rattle.card.specs.Numbers.{done}
use Rattle.lines.specs.Heard.{values_text, refused_word, heard_text}
use Rattle.lines.proofs.Puts.{put_then, put_within, put_as}
use Rattle.lines.proofs.heard.tell_refused_for.Goals as goal

pub returns : goal.returns
unfolding heard_text values_text
returns g c = put_within (omega arith) (put_as (ap (λ (l : List ℕ). (shortest done ++ refused_word) ++ l) (sym (append-nil _))) (put_then (search rules) c.tell_word.ensures c.put_value.ensures))
