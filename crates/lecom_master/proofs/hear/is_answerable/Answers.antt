-- `lecom_master::hear::is_answerable` meets its contract, way by way. Assumes nothing.
use Rattle.std.proofs.Common.{inl, inr}
use Rattle.lecom_master.specs.Heard.{answerable}
use Rattle.lecom_master.proofs.hear.is_answerable.Goals as goal

pub returns-in-Register : goal.returns-in-Register
unfolding answerable
returns-in-Register c = rw c.in-Register.is

pub returns-in-Probe : goal.returns-in-Probe
unfolding answerable
returns-in-Probe c = rw c.in-Probe.is c.is_temperature.ensures

pub returns-in-Activate : goal.returns-in-Activate
unfolding answerable
returns-in-Activate c = elim c.in-Activate.is [ inl e ↦ rw e | inr e ↦ rw e ]
