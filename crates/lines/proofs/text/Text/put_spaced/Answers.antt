-- `lines::text::Text::put_spaced` meets its contract.
use Rattle.std.proofs.Common.{◌∙◌, arith}
use Rattle.figures.specs.Figure.{pair_of}
use Rattle.figures.proofs.Texts.{put_before}
use Rattle.lines.proofs.Puts.{put_as, spaced_one}
use Rattle.lines.proofs.text.Text.put_spaced.Goals as goal

pub returns : goal.returns
unfolding pair_of
returns g c = put_as (spaced_one _)
    (record {
      measured = omega arith;
      short = omega arith;
      written = c.put_pair.ensures ∙ put_before _ _ _ _ (omega arith);
    })
