-- What an entry gave: its answer fits the buffer lent to it; the governor's degrees are a number. Assumes nothing.
use Rattle.std.proofs.Common.{ℕ, zero, suc, ◌≤◌, Bool, not, T, List, length, arith, length-append, rules}
use lib.Ieee.{odd, is_nan}
use Rattle.wire.specs.Buffer.{overlay}
use Rattle.wire.proofs.Cases.{by_choice}
use Rattle.card.specs.Layout.{Card}
use Rattle.card.specs.declared.Outcome.{Outcome}
use Rattle.card.specs.Reply.{Reply, Answer, Gave, Told}
use Rattle.master.specs.declared.Phase.{Phase}
use Rattle.master.specs.Step.{Move, Stepped}
use Rattle.card.specs.declared.governor.Governor.TheVariants.{Degrees}
use Rattle.card.specs.Governor.{degrees_of, governor_of}
use Rattle.card.proofs.Governed.{governor_cases}
use Rattle.lines.specs.Text.{is_real}

-- an entry's answer is in the buffer
pub answer_fits : {reply : Reply} {out out' : List ℕ} {o : Outcome} {card' : Card} → Gave reply out o card' out' → o.len ≤ length out'
unfolding overlay
answer_fits g = rw (g.measured, g.written, length-append) (omega arith)

-- and so is the frame of a master's step
pub frame_fits : {m : Move Phase} {frame frame' : List ℕ} {number len : ℕ} {phase : Phase} → Stepped m frame number len phase frame' → len ≤ length frame'
unfolding overlay
frame_fits g = rw (g.measured, g.written, length-append) (omega arith)

-- and a frame that a master made
pub made_fits : {a : Answer} {out out' : List ℕ} {number len : ℕ} → Told a out number len out' → len ≤ length out'
unfolding overlay
made_fits t = rw (t.wrote.measured, t.wrote.written, length-append) (omega arith)

pub ruleset answers = (answer_fits, frame_fits, rules)

-- degrees are never a NaN
odd_real : (d : ℕ) (s : Bool) (q k l : ℕ) → T (not (is_nan (odd d s q k l)))
unfolding odd is_nan
odd_real d s zero k l = tt
odd_real d s (suc q) k l = tt

degrees_real : (code : ℕ) → T (is_real (Degrees (degrees_of code)))
unfolding degrees_of
degrees_real code = by_choice (λ d. T (is_real (Degrees d))) _ _ _ (λ _. odd_real _ _ _ _ _) (λ _. odd_real _ _ _ _ _)

pub governor_real : (card : Card) (channel : ℕ) → T (is_real (governor_of card channel))
governor_real card channel = governor_cases (λ g. T (is_real g)) card channel (λ _. degrees_real _) tt tt tt
