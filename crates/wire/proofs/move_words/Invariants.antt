-- `wire::move_words` meets its contract. The invariant: the words are as they came with the first i of the run pasted at `to`. Assumes nothing.
use Rattle.std.proofs.Common.{◌≡◌, ◌+◌, length}
use lib.Seq.{paste}
use Rattle.wire.specs.Buffer.{part}
use Rattle.wire.proofs.move_words.Given as goal

abbrev pub invariant-loop-i : goal.invariant-loop-i
invariant-loop-i l = (length l.words ≡ length l.initial.words) × (l.words ≡ paste l.initial.words l.to (part l.initial.words l.from (l.from + l.n)) l.i)
