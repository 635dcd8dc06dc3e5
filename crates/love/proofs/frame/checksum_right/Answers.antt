-- `love::frame::checksum_right` meets its contract. Assumes nothing.
use Rattle.std.proofs.Common.{ap₂, ◌∙◌, ℕ, eqb, arith}
use Rattle.love.specs.Frame.{checksum_right}
use Rattle.love.proofs.Exits.{is_byte}
use Rattle.love.proofs.frame.checksum_right.Goals as goal

pub returns : goal.returns
unfolding checksum_right
returns c = c.eq.ensures ∙ is_byte c.byte_at.result c.sum-sum.result (omega arith) ∙ ap₂ (λ (x y : ℕ). eqb x y) c.byte_at.ensures c.sum-sum.ensures
