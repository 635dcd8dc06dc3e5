-- The loop of `console::ask_lucid::Numbers::read`: each number takes a word of the line.
use Rattle.std.proofs.Common.{◌≡◌, ◌+◌, ◌-◌, ◌≤◌, length}
use Rattle.card.specs.Layout.{channels}
use Rattle.console.proofs.ask_lucid.Numbers.read.Given as goal

abbrev pub invariant-loop-line : goal.invariant-loop-line
invariant-loop-line l = (l.count ≤ channels + 1) × (l.line.bytes.now ≡ l.initial.line.bytes.now)

abbrev pub decreases-loop-line : goal.decreases-loop-line
decreases-loop-line l = length l.initial.line.bytes.now - l.line.at
