-- `lecom::form::is_known` meets its contract. Assumes nothing.
use Rattle.std.proofs.Common.{Option, Some, None, ◌≡◌, is_some, refl, ◌∙◌}
use Rattle.lecom.specs.Form.{known}
use Rattle.lecom.specs.declared.form.Named.{Named}
use Rattle.lecom.proofs.form.is_known.Goals as goal

-- a code names something, or nothing
some_known : (named : Option Named) → is_some named ≡ known named
some_known (Some named) = refl
some_known None = refl

pub returns : goal.returns
returns c = c.is_some.ensures ∙ some_known _
