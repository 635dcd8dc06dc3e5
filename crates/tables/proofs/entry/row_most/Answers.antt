-- `tables::entry::row_most` meets its contract.
use Rattle.std.proofs.Common.{sym}
use Rattle.tables.proofs.Entries.{row_two, row_byte}
use Rattle.tables.proofs.entry.row_most.Goals as goal

pub returns-then-is_second : goal.returns-then-is_second
returns-then-is_second c = sym (row_two _ c.index-i.ensures.0 c.is_second.ensures.0 c.if-is_second.true)

pub returns : goal.returns
returns c = sym (row_byte _ c.index-i.ensures.0 c.is_second.ensures.0 c.if-is_second.false)
