-- `figures::with_sign` meets its contract. Assumes nothing.
use Rattle.wire.proofs.Cases.{cases}
use Rattle.figures.specs.Signed.{with_sign}
use Rattle.std.proofs.Math.Decide.{dec_le}
use Rattle.std.proofs.Common.{◌≤◌, ◌≡◌, not, eqb}
use Rattle.wire.specs.Choose.{choose}
use Rattle.wire.specs.Word.{minus}
use Rattle.figures.proofs.with_sign.Goals as goal

pub returns-then-not-negative : goal.returns-then-not-negative
unfolding with_sign
returns-then-not-negative c = search cases

pub returns : goal.returns
unfolding with_sign
returns c = by_zero (dec_le 1 c.args.m)
  where
    by_zero : Dec (1 ≤ c.args.m) → c.wrapping_neg.result ≡ choose (not c.args.negative) c.args.m (choose (eqb c.args.m 0) 0 (minus c.args.m))
    by_zero (yes p) = search cases
    by_zero (no p) = search cases
