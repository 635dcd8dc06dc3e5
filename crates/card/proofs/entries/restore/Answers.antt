-- `card::entries::restore` meets its contract: registers, then parameters. Assumes nothing.
use Rattle.wire.specs.Buffer.{put, part}
use Rattle.std.proofs.Common.{ℕ, List, ap, ◌∙◌}
use Rattle.card.specs.Entries.{restored_parameters}
use Rattle.card.proofs.entries.restore.Goals as goal

pub returns : goal.returns
unfolding restored_parameters
returns c = c.move_words.ensures ∙ ap (λ (l : List ℕ). put l 11 (part l 19 27)) c.restore_registers.ensures
