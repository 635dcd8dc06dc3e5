-- `card::entries::fill_demands` meets its contract: the demands filled are one `put`. Assumes nothing.
use Rattle.wire.specs.Buffer.{put}
use Rattle.card.specs.Layout.{channels, demands_at}
use Rattle.card.specs.Entries.{full_demands}
use Rattle.std.proofs.Common.{◌≡◌, length, take, drop, arith, length-take-le, length-drop, drop-drop}
use Rattle.card.proofs.entries.fill_demands.Goals as goal

pub returns : goal.returns
unfolding full_demands put
returns c = let ws = c.args.words.now in
    let filled : length (take channels (drop demands_at ws)) ≡ channels = length-take-le channels (drop demands_at ws) (simp length-drop (omega arith)) in
    rw (c.fill.ensures.after (λ y e. e), filled, drop-drop channels demands_at ws)
