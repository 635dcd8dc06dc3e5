-- `datalink::answer::respond` meets its contract: a response is a frame. Assumes nothing.
use Rattle.datalink.specs.Answer.{response}
use Rattle.datalink.proofs.answer.respond.Goals as goal

pub returns : goal.returns
unfolding response
returns c = c.write_frame.ensures
