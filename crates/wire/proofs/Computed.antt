-- To unfold `computed` is to unfold every definition of this crate's written meanings, for examples and runs that are computed. Assumes nothing.
use Prim.{Unit, tt}
use Rattle.wire.specs.Choose.{choose}
use Rattle.wire.specs.Buffer.{put, overlay, same}
use Rattle.wire.specs.Sum.{total, sum_of}
use Rattle.wire.specs.Length.{between}

unfoldable pub computed : Unit {0}
unfolding choose put overlay same total sum_of between
computed = tt
