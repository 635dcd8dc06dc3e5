-- Everything that may stand in the list of calls, with any arguments.
use Rattle.std.specs.Prelude.{ℕ}
use Rattle.calls.specs.Calls.{Call as Entry}

-- which of its round's answers a step gets: none, or one, counted from the last
pub data Choice : Type 0 where
  none : Choice
  answer : ℕ → Choice

-- a call of the list
pub data Call : Type 0 where
  -- the master's step, with one of its round's answers or none, and a frame buffer of this room
  Step : Choice → ℕ → Call
  -- the frame last sent reaches the card, with an answer buffer of this room
  Arrival : ℕ → Call
  -- "restarts and every other call of the card", another Datalink frame too
  Other : Entry → Call
