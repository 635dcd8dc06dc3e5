-- `tables::entry::most` meets its contract.
use Rattle.std.proofs.Common.{sym, ◌∙◌, rules}
use Rattle.tables.proofs.Entries.{most_byte, most_row}
use Rattle.tables.proofs.entry.most.Goals as goal

pub returns-then-entry-lt-ROW_FROM : goal.returns-then-entry-lt-ROW_FROM
returns-then-entry-lt-ROW_FROM c = sym (most_byte _ (search rules) c.if-entry-lt-ROW_FROM.true)

pub returns : goal.returns
returns c = c.row_most.ensures ∙ sym (most_row _ (search rules) (search rules))
