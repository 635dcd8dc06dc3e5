-- `tables::Tables::store_row` meets its contract.
use Rattle.std.proofs.Common.{arith}
use Rattle.tables.proofs.Entries.{row_two, row_byte}
use Rattle.tables.proofs.Tables.store_row.Goals as goal

pub overflow_cast-self-then-is_second : goal.overflow_cast-self-then-is_second
overflow_cast-self-then-is_second c = omega (arith, row_two _ c.index-i.ensures.0 c.is_second.ensures.0 c.if-is_second.true)

pub overflow_cast-self-2 : goal.overflow_cast-self-2
overflow_cast-self-2 c = omega (arith, row_byte _ c.index-i.ensures.0 c.is_second.ensures.0 c.if-is_second.false)
