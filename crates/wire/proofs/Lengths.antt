-- Laws of specs/Length.antt. Assumes nothing.
use Rattle.std.proofs.Common.{◌≡◌, ℕ, ◌≤◌, true, leb, leb-true}
use Rattle.wire.specs.Length.{between}
use Rattle.wire.proofs.Tests.{and_true}

pub between_facts : (shortest longest n : ℕ) → between shortest longest n ≡ true → (shortest ≤ n) × (n ≤ longest)
unfolding between
between_facts shortest longest n h =
    let b = and_true (leb shortest n) (leb n longest) h in
    (leb-true shortest n b.0, leb-true n longest b.1)
