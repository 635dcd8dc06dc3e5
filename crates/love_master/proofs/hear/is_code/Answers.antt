-- `love_master::hear::is_code` meets its contract. Assumes nothing.
use Rattle.std.proofs.Common.{refl}
use Rattle.love_master.specs.Heard.{is_code}
use Rattle.love_master.proofs.hear.is_code.Goals as goal

pub returns : goal.returns
unfolding is_code
returns c = refl
