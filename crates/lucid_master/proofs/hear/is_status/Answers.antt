-- `lucid_master::hear::is_status` meets its contract. Assumes nothing.
use Rattle.std.proofs.Common.{arith}
use Rattle.std.proofs.lemmas.Bool.Decides.{nat_tests}
use Rattle.lucid_master.specs.Heard.{is_status}
use Rattle.lucid_master.proofs.hear.is_status.Goals as goal

pub returns-in-160 : goal.returns-in-160
unfolding is_status
returns-in-160 c = grind (arith, nat_tests)

pub returns-in_default : goal.returns-in_default
unfolding is_status
returns-in_default c = grind (arith, nat_tests)
