-- An outcome that is handed over keeps its contract. Assumes nothing.
use Rattle.std.proofs.Common.{ℕ, List, ◌∙◌}
use Rattle.card.specs.Reply.{Answer, Told}
use Rattle.firmware.specs.Lent.{Handed}

pub told_handed : {a : Answer} {out out' : List ℕ} {number len number' len' : ℕ} → Told a out number len out' → Handed number len number' len' → Told a out number' len' out'
told_handed t h = record { numbered = h.numbered ∙ t.numbered; wrote = record { measured = h.measured ∙ t.wrote.measured; written = t.wrote.written } }
