-- `tables::entry::index` meets its contract.
use Rattle.std.proofs.Common.{arith}
use Rattle.wire.proofs.Cases.{cases}
use Rattle.tables.specs.Entries.{index_of}
use Rattle.tables.proofs.entry.index.Goals as goal

pub returns-in-1 : goal.returns-in-1
unfolding index_of
returns-in-1 c = (search cases, omega arith)

pub returns-in-2 : goal.returns-in-2
unfolding index_of
returns-in-2 c = (search cases, omega arith)

pub returns-in-3 : goal.returns-in-3
unfolding index_of
returns-in-3 c = (search cases, omega arith)

pub returns-in_default : goal.returns-in_default
unfolding index_of
returns-in_default c = (search cases, omega arith)
