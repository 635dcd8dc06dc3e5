-- `lines::text::Text::tell_number` meets its contract.
use Rattle.lines.proofs.Puts.{put_anew, put_as, told_none}
use Rattle.lines.proofs.text.Text.tell_number.Goals as goal

pub returns : goal.returns
returns g c = put_as (told_none _) (put_anew c.clear.ensures.len c.clear.ensures.out c.put_number.ensures)
