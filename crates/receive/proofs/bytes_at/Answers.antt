-- `receive::bytes_at` meets its contract.
use Rattle.std.proofs.Common.{ap, ◌∙◌, arith, ◌+◌}
use Rattle.card.specs.Layout.{count_size}
use Rattle.receive.proofs.Parts.{part_inside}
use Rattle.receive.proofs.bytes_at.Goals as goal

pub overflow_add-result : goal.overflow_add-result
overflow_add-result g c = omega (arith, part_inside g.D.PartFrame.dialect, g.met.D.PartFrame.rules.stands, c.AT.ensures)

pub returns : goal.returns
returns g c = ap (λ n. n + count_size) (c.AT.ensures ∙ g.met.D.PartFrame.rules.stands)
