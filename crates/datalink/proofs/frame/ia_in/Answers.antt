-- `datalink::frame::ia_in` meets its contract: the tests are those of the definition. Assumes nothing.
use Rattle.datalink.specs.Frame.{ia_in}
use Rattle.std.proofs.Common.{rules}
use Rattle.datalink.proofs.frame.ia_in.Goals as goal

pub returns : goal.returns
unfolding ia_in
returns c = search rules
