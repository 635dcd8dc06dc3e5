-- `lucid::frame::parameter_asked` meets its contract, test by test. Assumes nothing.
use Rattle.lucid.specs.Stages.{parameter_asked}
use Rattle.wire.proofs.Cases.{yes, no, told_true, told_false, told_yes, told_no}
use Rattle.lucid.proofs.frame.parameter_asked.Goals as goal

pub returns-then-not-address_known : goal.returns-then-not-address_known
unfolding parameter_asked
returns-then-not-address_known c = rw (← c.pair-address.ensures.0) (search (yes, no, told_yes, told_no) depth 12)

pub returns-then-is_read : goal.returns-then-is_read
unfolding parameter_asked
returns-then-is_read c = rw (← c.pair-address.ensures.0, ← c.place_of-place.ensures) (search (yes, no, told_true, told_false, told_yes, told_no) depth 12)

pub returns-then-is_reset : goal.returns-then-is_reset
unfolding parameter_asked
returns-then-is_reset c = rw (← c.pair-address.ensures.0, ← c.place_of-place.ensures, ← c.is_saved.ensures) (search (yes, no, told_true, told_false, told_yes, told_no) depth 14)

pub returns-then-not-in_range : goal.returns-then-not-in_range
unfolding parameter_asked
returns-then-not-in_range c = rw (← c.pair-address.ensures.0, ← c.place_of-place.ensures, ← c.quad-value.ensures) (search (yes, no, told_true, told_false, told_yes, told_no) depth 14)

pub returns : goal.returns
unfolding parameter_asked
returns c = rw (← c.pair-address.ensures.0, ← c.place_of-place.ensures, ← c.quad-value.ensures, ← c.is_saved-2.ensures) (search (yes, no, told_true, told_false, told_yes, told_no) depth 14)
