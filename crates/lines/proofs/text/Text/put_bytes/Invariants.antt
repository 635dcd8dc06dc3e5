-- The loop of `lines::text::Text::put_bytes`: the bytes so far stand in out.
use Rattle.std.proofs.Common.{◌*◌, take}
use Rattle.lines.specs.Text.{Put, spaced}
use Rattle.lines.proofs.text.Text.put_bytes.Given as goal

abbrev pub invariant-loop-b : goal.invariant-loop-b
invariant-loop-b g l = Put (3 * l.b-index) l.initial.self.len (spaced (take l.b-index l.bytes)) l.initial.self.out l.self.len l.self.out
