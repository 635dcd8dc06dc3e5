-- The loop of `lines::line::Line::bytes`: a byte takes two characters of the line at least.
use Rattle.std.proofs.Common.{◌≡◌, ◌-◌, ◌*◌, ◌≤◌, length}
use Rattle.lines.proofs.line.Line.bytes.Given as goal

abbrev pub invariant-loop-b : goal.invariant-loop-b
invariant-loop-b l = record {
  on : l.initial.self.at ≤ l.self.at;
  few : 2 * l.count ≤ l.self.at - l.initial.self.at;
  stays : l.self.bytes.now ≡ l.initial.self.bytes.now;
}

abbrev pub decreases-loop-b : goal.decreases-loop-b
decreases-loop-b l = length l.initial.self.bytes.now - l.self.at
