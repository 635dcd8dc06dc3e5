-- `tables::entry::is_second` meets its contract.
use Rattle.std.proofs.Common.{refl}
use Rattle.tables.specs.Entries.{is_second}
use Rattle.tables.proofs.Entries.{second_behind}
use Rattle.tables.proofs.entry.is_second.Goals as goal

pub returns : goal.returns
unfolding is_second
returns c = (refl, second_behind _)
