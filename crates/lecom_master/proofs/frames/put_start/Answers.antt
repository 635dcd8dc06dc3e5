-- `lecom_master::frames::put_start` meets its contract, byte by byte. Assumes nothing.
use Rattle.std.proofs.Common.{◌/◌, ◌%◌, [], ◌∷◌, refl, arith}
use Rattle.wire.proofs.Buffers.{overlay_sets}
use Rattle.figures.specs.Figure.{decimal, char_of}
use Rattle.lecom.specs.Form.{eot}
use Rattle.lecom_master.proofs.frames.put_start.Goals as goal

pub returns : goal.returns
returns c =
    let address = c.args.address in
    let front = eot ∷ char_of (address / decimal) ∷ char_of (address % decimal) ∷ [] in
    record {
      measured = refl;
      written = rw (c.figure_char.ensures, c.figure_char-2.ensures) (overlay_sets front c.args.out.now (omega (arith, c.requires.1)));
    }
