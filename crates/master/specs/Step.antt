-- The line master's step. Document 01, "Datalink", second half.
use Rattle.std.specs.Prelude.{ℕ, ◌≡◌, List, [], leb, length}
use Rattle.wire.specs.Choose.{choose}
use Rattle.wire.specs.Buffer.{overlay}
use Rattle.card.specs.Numbers.{answered, done, value_outside, nothing_pending, buffer_short}
use Rattle.datalink.specs.Form.{longest}
use Rattle.master.specs.Request.{Request, askable}
use Rattle.master.specs.Frames.{change_frame, acknowledge_frame, interrogate_frame, is_echo, confirms}
use Rattle.master.specs.declared.Phase.{Phase}
use Rattle.master.specs.declared.Phase.TheVariants.{New, Changing, Acknowledging, Reading, EndedDone, EndedUnknown}
use Rattle.master.specs.declared.Verdict.{Verdict}
use Rattle.master.specs.declared.Verdict.TheVariants.{Open, Done, Unknown}

-- what the master says in a phase, so after a refused step too
abbrev pub says_of : Phase → Verdict
says_of New = Open
says_of Changing = Open
says_of Acknowledging = Open
says_of Reading = Open
says_of EndedDone = Done
says_of EndedUnknown = Unknown

-- what a step gives: its number, the bytes of the frame that it sends, and the state that it leaves. The master's own state is a phase
pub record Move (State : Type 0) : Type 0 where
  pub number : ℕ
  pub bytes : List ℕ
  pub state : State

-- a frame is sent: 0
abbrev pub sends : {State : Type 0} → List ℕ → State → Move State
sends frame state = record { number = answered; bytes = frame; state = state }

-- the exchange ends with no frame: 1
abbrev pub ends : {State : Type 0} → State → Move State
ends state = record { number = done; bytes = []; state = state }

-- "It refuses, sending nothing and moving no step"
abbrev pub refuses : {State : Type 0} → ℕ → State → Move State
refuses number state = record { number = number; bytes = []; state = state }

-- the move in each phase, by the answer heard, [] for none: "It acknowledges only on an exact echo and says done only if the read-back has every byte, or every forced bit, as asked.
-- Otherwise unknown; without an exact echo the exchange ends there." After the acknowledge it reads back, whatever it heard. "10 exactly if a step is asked after the end"
unfoldable pub move : Request → Phase → List ℕ → Move Phase
move q New heard = sends (change_frame q) Changing
move q Changing heard = choose (is_echo q heard) (sends (acknowledge_frame q) Acknowledging) (ends EndedUnknown)
move q Acknowledging heard = sends (interrogate_frame q) Reading
move q Reading heard = choose (confirms q heard) (ends EndedDone) (ends EndedUnknown)
move q EndedDone heard = refuses nothing_pending EndedDone
move q EndedUnknown heard = refuses nothing_pending EndedUnknown

-- the step: 7, "then with 11 exactly if its frame buffer is below 38; then with 10"
unfoldable pub step_of : Request → Phase → List ℕ → ℕ → Move Phase
step_of q phase heard room =
    choose (askable q) (choose (leb longest room) (move q phase heard) (refuses buffer_short phase)) (refuses value_outside phase)

-- a step gave this move: the number, the frame's length, the whole frame buffer and the state
pub record Stepped {State : Type 0} (m : Move State) (frame : List ℕ) (number len : ℕ) (state : State) (frame' : List ℕ) : Type 0 where
  pub numbered : number ≡ m.number
  pub measured : len ≡ length m.bytes
  pub written : frame' ≡ overlay m.bytes frame
  pub moved : state ≡ m.state
