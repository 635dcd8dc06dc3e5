-- `image::form::Run::bits` meets its contract. Assumes nothing.
use Rattle.std.proofs.Common.{◌≡◌, ◌*◌, sym, arith}
use Rattle.image.specs.declared.form.Run.{Run}
use Rattle.image.specs.Form.{entries_of_run, used}
use Rattle.image.proofs.Runs.{form_used, used_run}
use Rattle.image.proofs.form.Run.bits.Goals as goal

bits : (r : Run) → r.count * r.width ≡ used (entries_of_run r)
bits r = sym (used_run r.word r.count r.width r.bias)

pub overflow_mul-result : goal.overflow_mul-result
overflow_mul-result c = record { fits = omega (arith, bits c.args.self, form_used, c.requires) }

pub returns : goal.returns
returns c = bits c.args.self
