-- `master::frame::write` meets its contract.
use Rattle.master.proofs.frame.write.Goals as goal

pub returns : goal.returns
returns c = rw c.place_in.ensures at c.write_frame.ensures
