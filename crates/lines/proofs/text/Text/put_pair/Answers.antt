-- `lines::text::Text::put_pair` meets its contract.
use Rattle.std.proofs.Common.{refl, arith}
use Rattle.figures.specs.Figure.{pair_of}
use Rattle.lines.proofs.text.Text.put_pair.Goals as goal

pub returns : goal.returns
unfolding pair_of
returns g c = record { measured = refl; short = omega arith; written = c.put_pair.ensures }
