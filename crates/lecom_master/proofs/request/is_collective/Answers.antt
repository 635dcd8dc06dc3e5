-- `lecom_master::request::is_collective` meets its contract. Assumes nothing.
use Rattle.std.proofs.Common.{refl}
use Rattle.lecom_master.specs.Request.{is_collective}
use Rattle.lecom_master.proofs.request.is_collective.Goals as goal

pub returns : goal.returns
unfolding is_collective
returns c = refl
