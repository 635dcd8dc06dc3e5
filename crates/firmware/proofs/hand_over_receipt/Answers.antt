-- `firmware::hand_over_receipt` meets its contract. Assumes nothing.
use Rattle.std.proofs.Common.{refl}
use Rattle.firmware.proofs.hand_over_receipt.Goals as goal

pub returns : goal.returns
returns c = record {
  numbered = refl;
  counted = refl;
  measured = refl;
}
