-- `lines::text::Text::tell_bits` meets its contract.
use Rattle.std.proofs.Common.{rules}
use Rattle.figures.specs.Decimal.{shortest}
use Rattle.card.specs.Numbers.{answered}
use Rattle.lines.proofs.Puts.{put_anew, put_as, put_then, values_one}
use Rattle.lines.proofs.text.Text.tell_bits.Goals as goal

pub returns : goal.returns
returns g c = let number = put_anew c.clear.ensures.len c.clear.ensures.out c.put_number.ensures in
    put_as (values_one (shortest answered) c.args.bits) (put_then (search rules) (put_then (search rules) number c.put_words.ensures) c.put_bits.ensures)
