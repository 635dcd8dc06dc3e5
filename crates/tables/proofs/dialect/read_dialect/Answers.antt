-- `tables::dialect::read_dialect` meets its contract.
use Rattle.std.proofs.Common.{ℕ, List, length, subst}
use Rattle.tables.specs.Names.{Named}
use Rattle.tables.proofs.dialect.read_dialect.Goals as goal

pub returns-clause-named : goal.returns-clause-named
returns-clause-named c = let word = c.word.ensures in
    record { size = length c.word.result.now; named = subst (λ (name : List ℕ). Named name c.dialect_of.result) word.stands c.dialect_of.ensures }
