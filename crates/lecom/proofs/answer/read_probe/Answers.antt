-- `lecom::answer::read_probe` meets its contract, test by test. Assumes nothing.
use Rattle.lecom.specs.Answer.{probe_answer}
use Rattle.lecom.proofs.answer.read_probe.Goals as goal

pub returns-in_default : goal.returns-in_default
unfolding probe_answer
returns-in_default c = rw (← c.read_code.ensures, c.in_default.is) c.refuse.ensures

pub returns : goal.returns
unfolding probe_answer
returns c = rw (← c.read_code.ensures, c.in-Temperature.is, ← c.word.ensures) c.tell.ensures
