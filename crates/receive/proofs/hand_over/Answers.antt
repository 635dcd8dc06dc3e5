-- `receive::hand_over` meets its contract.
use Rattle.std.proofs.Common.{arith}
use Rattle.receive.proofs.Parts.{part_inside}
use Rattle.receive.proofs.Gathering.{wrote_frame}
use Rattle.receive.proofs.hand_over.Goals as goal

pub overflow_add-first : goal.overflow_add-first
overflow_add-first g c = let p = part_inside g.D.PartFrame.dialect in omega (arith, c.bytes_at-first.ensures)

pub slice_bounds-copy-end : goal.slice_bounds-copy-end
slice_bounds-copy-end g c = let p = part_inside g.D.PartFrame.dialect in omega (arith, c.bytes_at-first.ensures)

pub returns : goal.returns
returns g c = wrote_frame g.D.PartFrame.dialect c.args.n c.args.ports.now c.args.last c.args.frame.now c.bytes_at-first.ensures c.requires.0.1 (omega arith) (omega arith) c.copy.ensures
