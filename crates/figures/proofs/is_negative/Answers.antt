-- `figures::is_negative` meets its contract: the code is the definition. Assumes nothing.
use Rattle.std.proofs.Common.{refl}
use Rattle.figures.specs.Signed.{is_negative}
use Rattle.figures.proofs.is_negative.Goals as goal

pub returns : goal.returns
unfolding is_negative
returns c = refl
