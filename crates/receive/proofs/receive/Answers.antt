-- `receive::receive` meets its contract, dialect by dialect.
use Rattle.receive.proofs.receive.Goals as goal

pub returns-in-Datalink : goal.returns-in-Datalink
returns-in-Datalink c = rw c.in-Datalink.is c.receive_in.ensures

pub returns-in-Lecom : goal.returns-in-Lecom
returns-in-Lecom c = rw c.in-Lecom.is c.receive_in-in-Lecom.ensures

pub returns-in-Love : goal.returns-in-Love
returns-in-Love c = rw c.in-Love.is c.receive_in-in-Love.ensures

pub returns-in-Lucid : goal.returns-in-Lucid
returns-in-Lucid c = rw c.in-Lucid.is c.receive_in-in-Lucid.ensures
