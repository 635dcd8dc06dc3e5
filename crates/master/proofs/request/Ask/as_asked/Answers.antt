-- `master::request::Ask::as_asked` meets its contract, kind by kind.
use Rattle.std.proofs.Common.{arith}
use Rattle.master.proofs.Requests.{paired_bits}
use Rattle.master.specs.Request.{as_asked}
use Rattle.master.proofs.request.Ask.as_asked.Goals as goal

pub bounds-states-i : goal.bounds-states-i
bounds-states-i c =
    let a = c.args.self in
    omega (arith, paired_bits a.kind a.sent.now a.states.now c.in-Bits.is c.requires.1)

pub returns-in-Bytes : goal.returns-in-Bytes
unfolding as_asked
returns-in-Bytes c = rw c.in-Bytes.is

pub returns-in-Bits : goal.returns-in-Bits
unfolding as_asked
returns-in-Bits c = rw c.in-Bits.is
