-- `love_master::hear::number_of` meets its contract. Assumes nothing.
use Rattle.love_master.proofs.Shown.{weighed}
use Rattle.std.proofs.Common.{refl}
use Rattle.love_master.proofs.hear.number_of.Goals as goal

pub returns : goal.returns
returns c = weighed _ _ _ _ _ refl
