-- `lucid_master::hear::hear_values` meets its contract. The invariant: the values so far are known, and those to come stand behind them. Assumes nothing.
use Rattle.lucid_master.proofs.Values.{Known}
use Rattle.lucid_master.proofs.hear.hear_values.Given as goal

abbrev pub invariant-loop-i : goal.invariant-loop-i
invariant-loop-i l = Known l.value_type l.n l.reply l.values l.i
