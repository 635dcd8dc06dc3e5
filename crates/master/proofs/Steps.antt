-- Laws of specs/Step.antt: what makes a step the one that is written. Assumes nothing.
use Rattle.std.proofs.Common.{◌≡◌, refl, sym, ap, ◌∙◌, subst, List, ℕ}
use Rattle.wire.proofs.Buffers.{overlay_none}
use Rattle.card.specs.Numbers.{answered}
use Rattle.card.specs.Reply.{Wrote}
use Rattle.master.specs.Request.{Request}
use Rattle.master.specs.Step.{Move, sends, refuses, move, Stepped}
use Rattle.master.specs.declared.Phase.{Phase}

module _ {frame frame' : List ℕ} {number len : ℕ} {phase : Phase} where
  -- a move known under another name
  pub stepped_as : (m n : Move Phase) → m ≡ n → Stepped m frame number len phase frame' → Stepped n frame number len phase frame'
  stepped_as m n e = subst (λ (x : Move Phase). Stepped x frame number len phase frame') e

-- a step without a frame: refused, or the end
pub stepped_quiet : (m : Move Phase) (k : ℕ) (p : Phase) (frame : List ℕ) {number len : ℕ} {phase : Phase} → refuses k p ≡ m → ((number ≡ k) × (len ≡ 0)) × (phase ≡ p)
    → Stepped m frame number len phase frame
stepped_quiet m k p frame e gave =
    stepped_as (refuses k p) m e (record { numbered = gave.0.0; measured = gave.0.1; written = sym (overlay_none frame); moved = gave.1 })

-- a step that sent a frame
pub stepped_sent : (m : Move Phase) (bytes : List ℕ) (p : Phase) (frame frame' : List ℕ) (len : ℕ) → sends bytes p ≡ m → Wrote bytes frame len frame'
    → Stepped m frame answered len p frame'
stepped_sent m bytes p frame frame' len e w =
    stepped_as (sends bytes p) m e (record { numbered = refl; measured = w.measured; written = w.written; moved = refl })

-- the move of a phase that is known
pub moved : (q : Request) (phase p : Phase) (heard : List ℕ) (m : Move Phase) → phase ≡ p → m ≡ move q p heard → m ≡ move q phase heard
moved q phase p heard m e h = h ∙ ap (λ (x : Phase). move q x heard) (sym e)
