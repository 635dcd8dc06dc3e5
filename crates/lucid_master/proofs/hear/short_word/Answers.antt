-- `lucid_master::hear::short_word` meets its contract, half by half. Assumes nothing.
use Rattle.std.proofs.Common.{arith}
use Rattle.std.proofs.lemmas.Bool.Decides.{nat_tests}
use Rattle.std.proofs.lemmas.Int.{ints}
use Rattle.wire.specs.Choose.{choose}
use Rattle.lucid_master.specs.Heard.{word_of}
use Rattle.lucid_master.proofs.hear.short_word.Goals as goal

pub returns : goal.returns
unfolding word_of choose
returns c = grind (arith, nat_tests, ints)
