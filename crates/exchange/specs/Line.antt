-- The line between master and card, and what a list of calls makes of master, card and line.
-- Document 01, "Datalink", second half: rounds, arrivals, and what a lossless round is.
use Rattle.std.specs.Prelude.{ℕ, zero, suc, Bool, true, false, ◌&&◌, ◌||◌, not, List, [], ◌∷◌, ltb, eqb, length}
use Rattle.wire.specs.Choose.{choose}
use Rattle.card.specs.Numbers.{answered}
use Rattle.card.specs.Layout.{Card}
use Rattle.card.specs.Change.{no_change}
use Rattle.card.specs.Reply.{Reply}
use Rattle.datalink.specs.Frame.{kind_in, is_acknowledge}
use Rattle.master.specs.Request.{Request}
use Rattle.master.specs.Step.{Move, says_of, step_of}
use Rattle.master.specs.declared.Verdict.{Verdict}
use Rattle.master.specs.declared.Phase.{Phase}
use Rattle.master.specs.declared.Phase.TheVariants.{New}
use Rattle.receive.specs.declared.Dialect.TheVariants.{Datalink}
use Rattle.calls.specs.Calls.{Call as Entry, reply_of, refused}
use Rattle.calls.specs.Calls.Call.{SetCode, Restart, Governor, Frame, Receive, Quiet, WriteImage, ReadImage}
use Rattle.exchange.specs.Calls.{Choice, Call}
use Rattle.exchange.specs.Calls.Choice.{none, answer}
use Rattle.exchange.specs.Calls.Call.{Step, Arrival, Other}

-- the line: the round that is open and those that were closed. A round is a frame sent by a step, its arrivals and the step after it;
-- an arrival is that frame reaching the card
pub record Line : Type 0 where
  -- the frame last sent; none is [], before the first one and after the end
  pub frame : List ℕ
  -- how many frames were sent
  pub frames : ℕ
  -- the answers that its arrivals in this round got with 0, the last first
  pub answers : List (List ℕ)
  -- how often it arrived in this round
  pub arrivals : ℕ
  -- it arrived in this round, and its first arrival was not refused
  pub reached : Bool
  -- for each round that was closed, the last first: whether it was lossless
  pub closed : List Bool
  -- a change has arrived, in this round or an earlier one; so has an acknowledge
  pub changed : Bool
  pub acknowledged : Bool
  -- a restart fell between the first arrivals of change and acknowledge
  pub between : Bool

-- the rounds by their frames' number; the interrogate's is the last
abbrev pub change_round : ℕ
change_round = 1

abbrev pub acknowledge_round : ℕ
acknowledge_round = 2

abbrev pub interrogate_round : ℕ
interrogate_round = 3

-- "with none or one of the answers that this frame's arrivals in the round got with 0": [] is none
abbrev pub nth : List (List ℕ) → ℕ → List ℕ
nth [] k = []
nth (a ∷ rest) zero = a
nth (a ∷ rest) (suc k) = nth rest k

abbrev pub heard : Line → Choice → List ℕ
heard line none = []
heard line (answer k) = nth line.answers k

abbrev pub is_answer : List ℕ → Bool
is_answer [] = false
is_answer (b ∷ bytes) = true

-- a frame that is a Change or a Change Bits
abbrev pub is_change : List ℕ → Bool
is_change f = not (eqb (kind_in f) no_change)

-- "A round is lossless if its frame arrives, the first arrival is not refused and, but for acknowledge, its closing step gets an answer":
-- the acknowledge's round is known by its frame
abbrev pub lossless : Line → List ℕ → Bool
lossless line got = line.reached && (is_acknowledge line.frame || is_answer got)

-- the rounds closed by a step that is not refused: "each later such step closes the round of the frame last sent"
unfoldable pub closing : Line → List ℕ → List Bool
closing line got = choose (ltb (length line.closed) line.frames) (lossless line got ∷ line.closed) line.closed

-- the line after a step; a refused one closes no round
unfoldable pub after_step : {State : Type 0} → Line → List ℕ → Move State → Line
after_step line got m =
    choose (refused m.number)
    line
    (record {
      frame = m.bytes;
      frames = choose (eqb m.number answered) (suc line.frames) line.frames;
      answers = [];
      arrivals = 0;
      reached = false;
      closed = closing line got;
      changed = line.changed;
      acknowledged = line.acknowledged;
      between = line.between;
    })

-- the line after an arrival of the frame last sent, which got this reply
unfoldable pub after_arrival : Line → Reply → Line
after_arrival line r =
    record {
      frame = line.frame;
      frames = line.frames;
      answers = choose (eqb r.number answered) (r.bytes ∷ line.answers) line.answers;
      arrivals = suc line.arrivals;
      reached = choose (eqb line.arrivals 0) (not (refused r.number)) line.reached;
      closed = line.closed;
      changed = line.changed || is_change line.frame;
      acknowledged = line.acknowledged || is_acknowledge line.frame;
      between = line.between;
    }

unfoldable pub after_restart : Line → Line
after_restart line =
    record {
      frame = line.frame;
      frames = line.frames;
      answers = line.answers;
      arrivals = line.arrivals;
      reached = line.reached;
      closed = line.closed;
      changed = line.changed;
      acknowledged = line.acknowledged;
      between = line.between || (line.changed && not line.acknowledged);
    }

-- the line after another call of the card: only a restart is noted
abbrev pub after_other : Line → Entry → Line
after_other line (SetCode channel code) = line
after_other line Restart = after_restart line
after_other line (Governor channel) = line
after_other line (Frame dialect room f) = line
after_other line (Receive dialect room bytes) = line
after_other line (Quiet dialect) = line
after_other line (WriteImage room) = line
after_other line (ReadImage img) = line

-- A master and a card, so that wrong ones can be put to the claim. The master has a state of any type: a new one's, what the master says
-- in each, and its step
pub record Build (State : Type 0) : Type 0 where
  pub new : State
  pub says : State → Verdict
  pub step : Request → State → List ℕ → ℕ → Move State
  pub card : Card → Entry → Reply

-- the written meanings, which the entries' contracts equate with the code
abbrev pub as_written : Build Phase
as_written = record { new = New; says = says_of; step = step_of; card = reply_of }

-- the card's tables, the master's state and the line
pub record World (State : Type 0) : Type 0 where
  pub card : Card
  pub state : State
  pub line : Line

-- "The list starts from a new master .. and any tables, fit or not"
abbrev pub begin : {State : Type 0} → Build State → Card → World State
begin b card =
    record {
      card = card;
      state = b.new;
      line = record { frame = []; frames = 0; answers = []; arrivals = 0; reached = false; closed = []; changed = false; acknowledged = false; between = false };
    }

-- "Each step gets that request and the master's state as the last step returned it, each call of the card the tables as the last one left them"
unfoldable pub called : {State : Type 0} → Build State → Request → World State → Call → World State
called b q w (Step choice room) =
    let got = heard w.line choice in
    let m = b.step q w.state got room in
    record { card = w.card; state = m.state; line = after_step w.line got m }
called b q w (Arrival room) =
    let r = b.card w.card (Frame Datalink room w.line.frame) in
    record { card = r.card; state = w.state; line = after_arrival w.line r }
called b q w (Other e) = record { card = (b.card w.card e).card; state = w.state; line = after_other w.line e }

-- what a list of calls makes of a world
unfoldable pub run : {State : Type 0} → Build State → Request → World State → List Call → World State
run b q w [] = w
run b q w (c ∷ calls) = run b q (called b q w c) calls
