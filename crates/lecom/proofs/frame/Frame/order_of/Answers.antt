-- `lecom::frame::Frame::order_of` meets its contract, test by test. Assumes nothing.
use Rattle.wire.proofs.Cases.{cases}
use Rattle.lecom.specs.Frame.{asked, figures_right}
use Rattle.lecom.specs.Stages.{order_here}
use Rattle.lecom.proofs.frame.Frame.order_of.Goals as goal

pub returns-then-self-ne-EOT : goal.returns-then-self-ne-EOT
unfolding asked figures_right
returns-then-self-ne-EOT c = search cases

pub returns-then-not-all_figures : goal.returns-then-not-all_figures
unfolding asked figures_right
returns-then-not-all_figures c = search cases

pub returns-then-not-is_reached : goal.returns-then-not-is_reached
unfolding asked figures_right
returns-then-not-is_reached c = search cases

pub returns : goal.returns
unfolding asked figures_right order_here
returns c = search cases
