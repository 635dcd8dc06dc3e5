-- `lucid::answer::ValueBytes::append` meets its contract. Assumes nothing.
use Rattle.std.proofs.Common.{◌≡◌, length, sym, ap, ◌∙◌, arith}
use Rattle.std.proofs.Math.Seq.{length-take-le}
use Rattle.lucid.proofs.Writes.{put_held}
use Rattle.lucid.proofs.answer.ValueBytes.append.Goals as goal

pub returns : goal.returns
returns c = let s = c.self.inside in
    let held : length c.args.self.now ≡ s.len = sym (ap length c.self.view_is) ∙ length-take-le s.len s.bytes (omega (arith, c.self.invariant, c.self.told)) in
    rw (c.copy.ensures, ← c.self.view_is) (put_held s.len s.bytes c.args.bytes.now (omega (arith, held, c.self.told)))
