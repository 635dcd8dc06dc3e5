-- The loop of `tables::Tables::show`: how far the line has come.
use Rattle.std.proofs.Common.{◌-◌, ◌*◌, ◌≤◌}
use Rattle.tables.proofs.Tables.show.Given as goal

abbrev pub invariant-loop-entry : goal.invariant-loop-entry
invariant-loop-entry l = l.answer.len ≤ 12 * (l.entry - l.first)
