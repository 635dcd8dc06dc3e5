-- To unfold `computed` is to unfold every definition of this crate's written meanings, for examples and runs that are computed. Assumes nothing.
use Prim.{Unit, tt}
use Rattle.receiver.specs.Step.{among, grown}
use Rattle.receiver.specs.Line.{counted, onward, collect, along, heard, run, as_bytes, took, lend_rest, joined}
use Rattle.receiver.specs.Store.{storing, stored}

unfoldable pub computed : Unit {0}
unfolding among grown counted onward collect along heard run as_bytes took lend_rest joined storing stored
computed = tt
