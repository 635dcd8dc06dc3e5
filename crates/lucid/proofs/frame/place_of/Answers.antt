-- `lucid::frame::place_of` meets its contract, test by test. Assumes nothing.
use Rattle.lucid.specs.Frame.{place_of}
use Rattle.wire.proofs.Cases.{yes, no}
use Rattle.std.proofs.Common.{eq-eqb, ne_eqb}
use Rattle.lucid.proofs.frame.place_of.Goals as goal

pub returns-then-address-eq-CYCLE : goal.returns-then-address-eq-CYCLE
unfolding place_of
returns-then-address-eq-CYCLE c = search (yes, no, eq-eqb, ne_eqb)

pub returns : goal.returns
unfolding place_of
returns c = search (yes, no, eq-eqb, ne_eqb)
