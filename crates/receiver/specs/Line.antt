-- Document 02, M-100, over any dialect's step: one call of a receiver, a list of calls, and the line as it is heard byte by byte.
use Rattle.std.specs.Prelude.{ℕ, zero, suc, ◌≡◌, List, [], ◌∷◌, ◌++◌, length, take, drop}
use Rattle.receiver.specs.Step.{Fate, Step, at_rest}
use Rattle.receiver.specs.Step.Fate.{Kept, Dropped, Finished}

-- what one call gives: how many bytes it took, the frame that it hands over (none or one), and the part frame that it leaves
pub record Collected : Type 0 where
  pub taken : ℕ
  pub handed : List (List ℕ)
  pub part : List ℕ

-- one byte more was taken
unfoldable pub counted : Collected → Collected
counted c = record { taken = suc c.taken; handed = c.handed; part = c.part }

-- "A call stops after a finished frame and tells how many bytes it took"
unfoldable pub onward : Fate → (List ℕ → Collected) → Collected
onward (Kept part) more = counted (more part)
onward Dropped more = counted (more at_rest)
onward (Finished f) more = record { taken = 1; handed = f ∷ []; part = at_rest }

unfoldable pub collect : Step → List ℕ → List ℕ → Collected
collect step part [] = record { taken = 0; handed = []; part = part }
collect step part (b ∷ bytes) = onward (step part b) (λ left. collect step left bytes)

-- a "receiver state" within the rules: its own bytes, fed to a receiver at rest, lead to it
abbrev pub Reachable : Step → List ℕ → Type 0
Reachable step part = collect step at_rest part ≡ record { taken = length part; handed = []; part = part }

-- a frame that is handed over with its last byte, byte for byte, and leaves the receiver at rest
abbrev pub Whole : Step → List ℕ → Type 0
Whole step f = collect step at_rest f ≡ record { taken = length f; handed = f ∷ []; part = at_rest }

-- the line: bytes and quiet marks ("Quiet or a restart drops a part frame")
pub data Mark : Type 0 where
  Byte : ℕ → Mark
  Quiet : Mark

-- the frames of a line, in their order, and the part frame that is left
pub record Heard : Type 0 where
  pub frames : List (List ℕ)
  pub part : List ℕ

unfoldable pub along : Fate → (List ℕ → Heard) → Heard
along (Kept part) rest = rest part
along Dropped rest = rest at_rest
along (Finished f) rest = record { frames = f ∷ (rest at_rest).frames; part = (rest at_rest).part }

-- the line heard byte by byte
unfoldable pub heard : Step → List ℕ → List Mark → Heard
heard step part [] = record { frames = []; part = part }
heard step part (Byte b ∷ marks) = along (step part b) (λ left. heard step left marks)
heard step part (Quiet ∷ marks) = heard step at_rest marks

-- the calls: bytes are lent; the line is quiet, or the card restarts; a call is refused, which takes no byte and changes nothing
pub data Call : Type 0 where
  Lent : List ℕ → Call
  Silence : Call
  Refused : Call

-- the frames that a list of calls hands over, in their order, and the part frame that it leaves
unfoldable pub run : Step → List ℕ → List Call → Heard
run step part [] = record { frames = []; part = part }
run step part (Lent bytes ∷ calls) =
    record {
      frames = (collect step part bytes).handed ++ (run step (collect step part bytes).part calls).frames;
      part = (run step (collect step part bytes).part calls).part;
    }
run step part (Silence ∷ calls) = run step at_rest calls
run step part (Refused ∷ calls) = run step part calls

unfoldable pub as_bytes : List ℕ → List Mark
as_bytes [] = []
as_bytes (b ∷ bytes) = Byte b ∷ as_bytes bytes

-- the bytes that a list of calls took, with its quiet marks
unfoldable pub took : Step → List ℕ → List Call → List Mark
took step part [] = []
took step part (Lent bytes ∷ calls) = as_bytes (take (collect step part bytes).taken bytes) ++ took step (collect step part bytes).part calls
took step part (Silence ∷ calls) = Quiet ∷ took step at_rest calls
took step part (Refused ∷ calls) = took step part calls

-- the calls of a caller that lends the rest again, n times
unfoldable pub lend_rest : Step → ℕ → List ℕ → List ℕ → List Call
lend_rest step zero part bytes = []
lend_rest step (suc n) part bytes = Lent bytes ∷ lend_rest step n (collect step part bytes).part (drop (collect step part bytes).taken bytes)

-- frames one behind the other, as a line
unfoldable pub joined : List (List ℕ) → List Mark
joined [] = []
joined (f ∷ fs) = as_bytes f ++ joined fs
