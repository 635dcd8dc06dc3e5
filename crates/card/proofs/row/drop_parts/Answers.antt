-- `card::row::drop_parts` meets its contract. Assumes nothing.
use Rattle.std.proofs.Common.{ap, ◌∙◌}
use Rattle.card.specs.Layout.{lecom_part_at, love_part_at, lucid_part_at}
use Rattle.card.specs.Row.{with_count, no_parts}
use Rattle.card.proofs.row.drop_parts.Goals as goal

pub returns : goal.returns
unfolding no_parts
returns c = c.set_count-4.ensures
    ∙ ap (with_count lucid_part_at 0) (c.set_count-3.ensures
    ∙ ap (with_count love_part_at 0) (c.set_count-2.ensures
    ∙ ap (with_count lecom_part_at 0) c.set_count.ensures))
