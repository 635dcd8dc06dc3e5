-- `tables::Tables::store` meets its contract.
use Rattle.std.proofs.Common.{arith, rules}
use Rattle.tables.proofs.Entries.{most_byte, most_row}
use Rattle.tables.proofs.Tables.store.Goals as goal

pub overflow_cast-self : goal.overflow_cast-self
overflow_cast-self c = omega (arith, most_byte c.args.entry (omega arith) (omega arith))

pub store_row-requires : goal.store_row-requires
store_row-requires c = (search rules, omega (arith, most_row c.args.entry (omega arith) (omega arith)))
