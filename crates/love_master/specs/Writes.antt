-- What a step that writes an answer is to a comparison.
use Prim.{Unit}
use Rattle.std.specs.Prelude.{ℕ, ◌≤◌, List, length}
use Rattle.std.specs.Borrow.{MutBor}
use Rattle.std.specs.Fn.{Once}
use Rattle.card.specs.Reply.{Wrote, room_least}
use Rattle.love_master.specs.Heard.{check_back}

-- f may be called once with a buffer that has room for an answer, and then writes these bytes to its front and gives how many they are
pub record Writes {F : Type 0} (g : Once F (MutBor (List ℕ) × Unit {0}) (ℕ × (MutBor (List ℕ) × Unit {0}))) (f : F) (bytes : List ℕ) : Type 0 where
  pub may : (p : MutBor (List ℕ)) → room_least ≤ length p.now → g.pre f (p, tt)
  pub does : (p q : MutBor (List ℕ)) (len : ℕ) → room_least ≤ length p.now → g.post f (p, tt) (len, (q, tt)) → Wrote bytes p.now len q.now

-- the same of some bytes: an answer that fits, with its check characters
pub record WritesSome {F : Type 0} (g : Once F (MutBor (List ℕ) × Unit {0}) (ℕ × (MutBor (List ℕ) × Unit {0}))) (f : F) : Type 0 where
  pub bytes : List ℕ
  pub writes : Writes g f bytes
  pub checked : check_back ≤ length bytes
  pub fits : length bytes ≤ room_least
