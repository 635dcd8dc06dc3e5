-- `lecom_master::request::address_right` meets its contract. Assumes nothing.
use Rattle.std.proofs.Common.{Bool, ◌||◌, ap₂}
use Rattle.lecom_master.specs.Request.{address_right}
use Rattle.lecom_master.proofs.request.address_right.Goals as goal

pub returns : goal.returns
unfolding address_right
returns c = ap₂ (λ (a b : Bool). a || b) c.lecom_right.ensures c.is_collective.ensures
