-- `card::entries::restore_registers` meets its contract. The invariant: the words are as they came with the first i registers of both copies replaced. Assumes nothing.
use Rattle.std.proofs.Common.{◌≡◌, length}
use Rattle.card.specs.Layout.{word_count}
use Rattle.card.proofs.Copies.{copied}
use Rattle.card.proofs.entries.restore_registers.Given as goal

abbrev pub invariant-loop-i : goal.invariant-loop-i
invariant-loop-i l = (length l.words ≡ word_count) × (l.words ≡ copied l.initial.words l.i)
