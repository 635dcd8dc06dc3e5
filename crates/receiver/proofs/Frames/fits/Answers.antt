-- `receiver::Frames::fits` meets its contract, in every dialect: the tests are those of the definition. Assumes nothing.
use Rattle.std.proofs.Common.{rules}
use Rattle.wire.specs.Length.{between}
use Rattle.receiver.proofs.Frames.fits.Goals as goal

pub returns : goal.returns
unfolding between
returns g c = search rules
