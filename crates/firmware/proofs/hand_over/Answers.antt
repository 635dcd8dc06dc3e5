-- `firmware::hand_over` meets its contract. Assumes nothing.
use Rattle.std.proofs.Common.{refl}
use Rattle.firmware.proofs.hand_over.Goals as goal

pub returns : goal.returns
returns c = record {
  numbered = refl;
  measured = refl;
}
