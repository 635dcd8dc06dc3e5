-- `master::request::Ask::is_paired` meets its contract.
use Rattle.master.proofs.request.Ask.is_paired.Goals as goal

pub returns-in-Bits : goal.returns-in-Bits
returns-in-Bits c = rw c.in-Bits.is
