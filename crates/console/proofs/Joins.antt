-- How much of a line has come after bytes joined it. Assumes nothing.
use Rattle.std.proofs.Common.{ℕ, ◌+◌, ◌≤◌, leb, List, length, Option, arith, leb-true}
use Rattle.wire.proofs.Cases.{by_choice}
use Rattle.lines.specs.Lent.{line_most, Joined}
use Rattle.console.specs.Lent.{come}

pub come_joined : {n : ℕ} {bytes text text' : List ℕ} {r : Option ℕ} → Joined n bytes text r text' → come r ≤ line_most
come_joined {n} {bytes} j =
    rw j.measured (by_choice (λ (r : Option ℕ). come r ≤ line_most) (leb (n + length bytes) line_most) _ _ (λ h. leb-true _ _ h) (λ _. omega arith))
