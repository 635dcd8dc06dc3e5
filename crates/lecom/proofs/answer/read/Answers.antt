-- `lecom::answer::read` meets its contract, by what is named. Assumes nothing.
use Rattle.std.proofs.Common.{inl, inr}
use Rattle.lecom.specs.Answer.{read_answer}
use Rattle.lecom.proofs.answer.read.Goals as goal

pub returns-in-Register : goal.returns-in-Register
unfolding read_answer
returns-in-Register c = rw c.in-Register.is c.tell.ensures

pub returns-in-Probe : goal.returns-in-Probe
unfolding read_answer
returns-in-Probe c = rw c.in-Probe.is c.read_probe.ensures

pub returns-in-Activate : goal.returns-in-Activate
unfolding read_answer
returns-in-Activate c = elim c.in-Activate.is [ inl e ↦ rw e c.tell-in-Activate.ensures | inr e ↦ rw e c.tell-in-Activate.ensures ]
