-- `bits::read_fields` meets its contract. The invariant: the fields read, and then those that are left, are all of them. Assumes nothing.
use Rattle.std.proofs.Common.{◌≡◌, ◌+◌, ◌-◌, ◌++◌, length, take, replicate}
use Rattle.bits.specs.Fields.{width_of, fields}
use Rattle.bits.proofs.read_fields.Given as goal

abbrev pub invariant-loop-value : goal.invariant-loop-value
invariant-loop-value l = (l.here + width_of (replicate (length l.initial.out - l.value-index) l.width) ≡ l.place + width_of (replicate (length l.initial.out) l.width))
    × (take l.value-index l.out ++ fields l.image l.here (replicate (length l.initial.out - l.value-index) l.width) ≡ fields l.image l.place (replicate (length l.initial.out) l.width))
