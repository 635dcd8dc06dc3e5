-- `bits::window` meets its contract. The invariant: the first i bytes are those of the image from `first` on. Assumes nothing.
use Rattle.std.proofs.Common.{◌≡◌, ℕ, ◌+◌, ◌<◌, get_or, length}
use Rattle.bits.specs.Bits.{window_bytes}
use Rattle.bits.proofs.window.Given as goal

abbrev pub invariant-loop-i : goal.invariant-loop-i
invariant-loop-i l = (length l.bytes ≡ window_bytes) × ((j : ℕ) → j < l.i → get_or l.bytes j 0 ≡ get_or l.image (l.first + j) 0)
