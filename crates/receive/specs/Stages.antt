-- What the functions under the entries tell.
use Rattle.std.specs.Prelude.{ℕ, ◌+◌, ◌≤◌, ◌<◌, ◌≡◌, true, List, [], ◌∷◌, ◌++◌, length, drop, Option, Some, None}
use Rattle.card.specs.Reply.{Wrote}
use Rattle.receiver.specs.Step.Fate.{Finished}
use Rattle.receiver.specs.Line.{Collected, counted, collect}
use Rattle.receiver.specs.Store.{stored}
use Rattle.receive.specs.Parts.{step_of, longest_of, held_by, bytes_at, front}
use Rattle.receive.specs.Receive.{frame_in}
use Rattle.receive.specs.declared.Dialect.{Dialect}
use Rattle.receive.specs.declared.Gathered.{Gathered}

-- n bytes collected are a part frame within the rules
pub record Held (d : Dialect) (n : ℕ) (row : List ℕ) : Type 0 where
  pub few : n ≤ longest_of d
  pub held : held_by d (front d n row) ≡ true

-- a call that goes on behind its first byte, from this row and part frame, goes as from that row with n bytes collected
pub record GoesOn (d : Dialect) (part : List ℕ) (b : ℕ) (row : List ℕ) (n : ℕ) (row' : List ℕ) : Type 0 where
  pub collects : (bytes : List ℕ) → collect (step_of d) part (b ∷ bytes) ≡ counted (collect (step_of d) (front d n row') bytes)
  pub stores : (bytes : List ℕ) → stored (step_of d) (bytes_at d) part (b ∷ bytes) row ≡ stored (step_of d) (bytes_at d) (front d n row') bytes row'
  pub holds : Held d n row'

-- what a byte left: so many bytes collected, or it finished a frame
abbrev pub TookByte : Dialect → ℕ → List ℕ → ℕ → Option ℕ → List ℕ → Type 0
TookByte d n row b (Some m) row' = GoesOn d (front d n row) b row m row'
TookByte d n row b None row' = ((step_of d (front d n row) b ≡ Finished (front d n row ++ (b ∷ []))) × (n < longest_of d)) × (row' ≡ row)

-- a call with i bytes more
abbrev pub later : ℕ → Collected → Collected
later i c = record { taken = i + c.taken; handed = c.handed; part = c.part }

-- the first i bytes of a call have left count bytes collected and this row
pub record SoFar (d : Dialect) (n : ℕ) (row bytes : List ℕ) (i count : ℕ) (row' : List ℕ) : Type 0 where
  pub collects : collect (step_of d) (front d n row) bytes ≡ later i (collect (step_of d) (front d count row') (drop i bytes))
  pub stores : stored (step_of d) (bytes_at d) (front d n row) bytes row ≡ stored (step_of d) (bytes_at d) (front d count row') (drop i bytes) row'

-- m bytes, not all, were kept one behind the other
pub record Skipped (d : Dialect) (n : ℕ) (row bytes : List ℕ) (m : ℕ) (row' : List ℕ) : Type 0 where
  pub fewer : m < length bytes
  pub holds : Held d (n + m) row'
  pub sofar : SoFar d n row bytes m (n + m) row'

-- what all the bytes of a call left: how many were taken, the frame that they finished, how many bytes are then collected, and the row
pub record TookAll (d : Dialect) (n : ℕ) (row bytes frame : List ℕ) (r : Gathered) (row' frame' : List ℕ) : Type 0 where
  pub taken : r.taken ≡ (collect (step_of d) (front d n row) bytes).taken
  pub wrote : Wrote (frame_in (collect (step_of d) (front d n row) bytes).handed) frame r.len frame'
  pub counted : r.count ≡ length (collect (step_of d) (front d n row) bytes).part
  pub few : r.count ≤ longest_of d
  pub stands : row' ≡ stored (step_of d) (bytes_at d) (front d n row) bytes row
