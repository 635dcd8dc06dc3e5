-- `image::form::entries_right` meets its contract: run by run it tests all entries. Assumes nothing.
use Rattle.std.proofs.Common.{arith}
use Rattle.image.proofs.Judging.{judged}
use Rattle.image.proofs.form.entries_right.Goals as goal

pub returns : goal.returns
returns c =
    rw (c.in_range-ia.ensures, c.in_range-lecom.ensures, c.in_range-love.ensures, c.all_in-registers.ensures, c.fit_parameters-parameters.ensures, c.all_in-limits.ensures)
    (judged c.args.values.now c.requires (λ k. omega (arith, c.type_inv.values k)))
