-- `tables::read_value` meets its contract.
use Rattle.std.proofs.Common.{arith}
use Rattle.std.proofs.lemmas.Option.{IfSome_then}
use Rattle.tables.proofs.Entries.{most_word}
use Rattle.tables.proofs.read_value.Goals as goal

pub returns-then-is_signed-clause-most : goal.returns-then-is_signed-clause-most
returns-then-is_signed-clause-most c = IfSome_then c.signed.result c.signed.ensures.most (λ v h. omega (arith, most_word c.args.entry (omega arith)))

pub returns-clause-most : goal.returns-clause-most
returns-clause-most c = IfSome_then c.number-2.result c.number-2.ensures.most (λ v h. omega (arith, most_word c.args.entry (omega arith)))
