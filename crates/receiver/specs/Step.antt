-- What a receiver does with one byte. Document 02, M-100: "a receiver for each dialect that collects bytes, hands over each finished frame and
-- is told of a quiet line". A receiver's state is its part frame, the bytes collected so far; at rest it has none.
use Rattle.std.specs.Prelude.{ℕ, Bool, false, ◌||◌, List, [], ◌∷◌, eqb, ltb, length}
use Rattle.wire.specs.Choose.{choose}

-- a byte is kept (the part frame is then this), or drops what was collected and itself, or finishes a frame
pub data Fate : Type 0 where
  Kept : List ℕ → Fate
  Dropped : Fate
  Finished : List ℕ → Fate

-- a dialect's rule: what comes of a part frame and the byte behind it
abbrev pub Step : Type 0
Step = List ℕ → ℕ → Fate

abbrev pub at_rest : List ℕ
at_rest = []

-- a byte is among some
unfoldable pub among : ℕ → List ℕ → Bool
among x [] = false
among x (b ∷ bytes) = eqb b x || among x bytes

-- "A byte past the dialect's longest drops the frame": what comes of a byte where there is room for it
unfoldable pub grown : ℕ → List ℕ → Fate → Fate
grown longest part fate = choose (ltb (length part) longest) fate Dropped
