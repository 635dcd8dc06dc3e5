-- `love::frame::order_here` meets its contract, test by test: an order shows that the characters are figures. Assumes nothing.
use Rattle.std.proofs.Common.{sym, ◌∙◌}
use Rattle.wire.proofs.Cases.{cases}
use Rattle.love.specs.Frame.{data_of}
use Rattle.love.specs.Stages.{order_here}
use Rattle.love.proofs.Carried.{all_figured}
use Rattle.love.proofs.frame.order_here.Goals as goal

pub returns-then-is_ok : goal.returns-then-is_ok
unfolding order_here
returns-then-is_ok c =
    let all = all_figured (data_of c.args.f.now) c.order_in-order.result c.order_in-order.ensures (sym c.is_ok.ensures.value ∙ c.if-is_ok.true) in
    search (cases, all)
