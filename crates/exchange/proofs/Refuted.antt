-- The claim says something: runs that break a clause, without the premise, with a wrong master and with a wrong card. Assumes nothing.
use Rattle.std.proofs.Common.{◌≡◌, ℕ, true, eqb, leb, List, [], ◌∷◌, get_or, set, Ok, Err, Result, refl, ⊎_elim, arith, lit<, lit≤}
use Prim.{tt}
use Rattle.wire.specs.Choose.{choose}
use Rattle.card.specs.Numbers.{answered, buffer_short, value_outside, nothing_pending, done}
use Rattle.card.specs.Layout.{Card, card_of}
use Rattle.card.specs.Entries.{with_code}
use Rattle.card.specs.Reply.{Reply, silent}
use Rattle.datalink.specs.Form.{framed, longest}
use Rattle.datalink.specs.Frame.{refused, asked}
use Rattle.datalink.specs.Answer.{ia_of, applied_to}
use Rattle.datalink.specs.declared.frame.Order.{Order}
use Rattle.datalink.specs.declared.frame.Silent.{Silent}
use Rattle.datalink.specs.declared.frame.Order.TheVariants.{Interrogate, Change, Acknowledge}
use Rattle.master.specs.Request.{Request, askable}
use Rattle.master.specs.Request.Ask.{bytes}
use Rattle.master.specs.Frames.{body, change_frame, acknowledge_frame, interrogate_frame, is_echo, confirms}
use Rattle.master.specs.Step.{Move, says_of, sends, ends, refuses, step_of}
use Rattle.master.specs.declared.Phase.{Phase}
use Rattle.master.specs.declared.Phase.TheVariants.{New, Changing, Acknowledging, Reading, EndedDone, EndedUnknown}
use Rattle.master.specs.declared.Verdict.{Verdict}
use Rattle.master.specs.declared.Verdict.TheVariants.{Open, Done, Unknown}
use Rattle.receive.specs.declared.Dialect.{Dialect}
use Rattle.receive.specs.declared.Dialect.TheVariants.{Datalink, Lecom, Love, Lucid}
use Rattle.calls.specs.Calls.{Call as Entry, reply_of}
use Rattle.calls.specs.Calls.Call.{SetCode, Restart, Governor, Frame, Receive, Quiet, WriteImage, ReadImage}
use Rattle.exchange.specs.Calls.{Call}
use Rattle.exchange.specs.Calls.Choice.{none}
use Rattle.exchange.specs.Calls.Call.{Step, Other}
use Rattle.exchange.specs.Line.{Build, begin, as_written, run}
use Rattle.exchange.specs.Premise.{AsWorded}
use Rattle.exchange.specs.Demand.{Writable, Named, Demand3}
use Rattle.exchange.proofs.Computed.{computed, allows, allowed, fresh, stale, two, hears, alone, arrives, whole}

free : Writable 0x1020
free = record { low = lit≤ tt; high = lit< tt }

not_named : Named two 0x1020 → ⊥
not_named n = omega (arith, n.high)

first_named : Named two 0x1010
first_named = record { low = lit≤ tt; high = lit< tt }

-- without the premise

-- another's change, accepted between echo and acknowledge
another_change : Demand3 as_written two fresh (run as_written two (begin as_written fresh) (alone ∷ arrives ∷ hears ∷ Other (Frame Datalink 38 (framed 0xA3 (body 1 0x1020 (7 ∷ [])))) ∷ arrives ∷ [])) → ⊥
unfolding computed
another_change h = let e : ◌≡◌ {A = ℕ} 7 255 = h.others 0x1020 free not_named in omega arith

-- another's acknowledge, accepted before the first step, where a change is pending from before
another_acknowledge : Demand3 as_written two stale (run as_written two (begin as_written stale) (Other (Frame Datalink 38 (0x7E ∷ 0x83 ∷ [])) ∷ [])) → ⊥
unfolding computed
another_acknowledge h = let e : ◌≡◌ {A = ℕ} 7 255 = h.others 0x1020 free not_named in omega arith

-- a build that a run refutes: the premise, word for word, allows it, and a clause is broken
pub record Refuted {State : Type 0} (b : Build State) : Type 0 where
  pub request : Request
  pub accepted : askable request ≡ true
  pub start : Card
  pub calls : List Call
  pub worded : AsWorded b request (begin b start) calls
  pub broken : Demand3 b request start (run b request (begin b start) calls) → ⊥

-- such a run of a request to a card, where both tests compute
refuted : {State : Type 0} (b : Build State) (q : Request) (start : Card) (calls : List Call) → askable q ≡ true → allows b q (begin b start) calls ≡ true
    → (Demand3 b q start (run b q (begin b start) calls) → ⊥) → Refuted b
refuted b q start calls e a broken = record { request = q; accepted = e; start = start; calls = calls; worded = allowed b q (begin b start) calls a; broken = broken }

-- wrong masters, with the right card

-- a master by what it does in each phase before the end; 7, 11 and 10 are as they should be
abbrev Moves : Type 0
Moves = Request → List ℕ → Move Phase

unfoldable moved : Moves → Moves → Moves → Moves → Request → Phase → List ℕ → Move Phase
moved new changing acknowledging reading q New got = new q got
moved new changing acknowledging reading q Changing got = changing q got
moved new changing acknowledging reading q Acknowledging got = acknowledging q got
moved new changing acknowledging reading q Reading got = reading q got
moved new changing acknowledging reading q EndedDone got = refuses nothing_pending EndedDone
moved new changing acknowledging reading q EndedUnknown got = refuses nothing_pending EndedUnknown

abbrev master_of : Moves → Moves → Moves → Moves → Build Phase
master_of new changing acknowledging reading =
    record {
      new = New;
      says = says_of;
      step = λ q phase got room.
          choose (askable q) (choose (leb longest room) (moved new changing acknowledging reading q phase got) (refuses buffer_short phase)) (refuses value_outside phase);
      card = reply_of;
    }

-- what the right master does in each phase
abbrev changes : Moves
changes q got = sends (change_frame q) Changing

abbrev acknowledges : Moves
acknowledges q got = choose (is_echo q got) (sends (acknowledge_frame q) Acknowledging) (ends EndedUnknown)

abbrev interrogates : Moves
interrogates q got = sends (interrogate_frame q) Reading

abbrev concludes : Moves
concludes q got = choose (confirms q got) (ends EndedDone) (ends EndedUnknown)

abbrev stops : Moves
stops q got = ends EndedUnknown

said : {A : Type 0} → Unknown ≡ Done → A
said e = let z : ◌≡◌ {A = ℕ} 0 1 = cc in let y : ⊥ = omega arith in absurd y

gave_up : {A : Type 0} → Unknown ≡ Open → A
gave_up e = let z : ◌≡◌ {A = ℕ} 0 1 = cc in let y : ⊥ = omega arith in absurd y

-- one that always says unknown
abbrev always_unknown : Build Phase
always_unknown = master_of changes acknowledges interrogates stops

refute_always_unknown : Refuted always_unknown
unfolding computed allows moved
refute_always_unknown = refuted always_unknown two fresh whole refl refl (λ h. said (h.third refl refl refl))

-- one that always says unknown and sends its change twice, so that the acknowledge is its third frame
abbrev dawdles : Build Phase
dawdles =
    master_of changes (λ q got. choose (is_echo q got) (sends (change_frame q) Acknowledging) (ends EndedUnknown))
    (λ q got. sends (acknowledge_frame q) Reading) stops

refute_dawdles : Refuted dawdles
unfolding computed allows moved
refute_dawdles = refuted dawdles two fresh (alone ∷ arrives ∷ hears ∷ arrives ∷ hears ∷ arrives ∷ alone ∷ []) refl refl (λ h. said (h.third refl refl refl))

-- one that gives up after an exact echo: the customer's clauses do not catch it, since it never closes a third round; `steady` does
abbrev gives_up : Build Phase
gives_up = master_of changes stops stops stops

refute_gives_up : Refuted gives_up
unfolding computed allows moved
refute_gives_up = refuted gives_up two fresh (alone ∷ arrives ∷ hears ∷ []) refl refl (λ h. gave_up (h.steady refl))

-- one that says done on the echo
abbrev done_on_echo : Build Phase
done_on_echo = master_of changes (λ q got. choose (is_echo q got) (ends EndedDone) (ends EndedUnknown)) stops stops

refute_done_on_echo : Refuted done_on_echo
unfolding computed allows moved
refute_done_on_echo =
    refuted done_on_echo two fresh (alone ∷ arrives ∷ hears ∷ []) refl refl (λ h. let e : ◌≡◌ {A = ℕ} 255 8 = h.sure refl 0x1010 first_named in omega arith)

-- "a repeated echo taken for a read-back": the change is sent once more in the interrogate's place, and the acknowledge is lost
abbrev echo_as_read_back : Build Phase
echo_as_read_back = master_of changes acknowledges (λ q got. sends (change_frame q) Reading) concludes

refute_echo_as_read_back : Refuted echo_as_read_back
unfolding computed allows moved
refute_echo_as_read_back =
    refuted echo_as_read_back two fresh (alone ∷ arrives ∷ hears ∷ alone ∷ arrives ∷ hears ∷ []) refl refl
    (λ h. let e : ◌≡◌ {A = ℕ} 255 8 = h.sure refl 0x1010 first_named in omega arith)

-- one that acknowledges without an exact echo, where another's change is pending from before
abbrev blind : Build Phase
blind = master_of changes (λ q got. sends (acknowledge_frame q) Acknowledging) interrogates concludes

refute_blind : Refuted blind
unfolding computed allows moved
refute_blind =
    refuted blind two stale (alone ∷ alone ∷ arrives ∷ []) refl refl (λ h. let e : ◌≡◌ {A = ℕ} 7 255 = h.others 0x1020 free not_named in omega arith)

-- one that says done at once, of a byte outside memory: `byte_at` reads the first one there, and it is as asked
abbrev done_at_once : Build Phase
done_at_once = master_of (λ q got. ends EndedDone) stops stops stops

abbrev outside : Request
outside = record { ia = 3; address = 0x0FFF; ask = bytes (255 ∷ []) }

refute_done_outside : Refuted done_at_once
unfolding computed allows moved
refute_done_outside =
    refuted done_at_once outside fresh (alone ∷ []) refl refl
    (λ h. let w = h.within refl 0x0FFF (record { low = lit≤ tt; high = lit< tt }) in omega (arith, w.low))

-- one that moves although it refuses: 11, and it says done of a change that it never sent
unfoldable moves_when_refused : Request → Phase → List ℕ → ℕ → Move Phase
moves_when_refused q phase got room = choose (leb longest room) (step_of q phase got room) (refuses buffer_short EndedDone)

abbrev restless : Build Phase
restless = record { new = New; says = says_of; step = moves_when_refused; card = reply_of }

refute_moves_when_refused : Refuted restless
unfolding computed allows moves_when_refused
refute_moves_when_refused =
    refuted restless two fresh (Step none 37 ∷ []) refl refl (λ h. let e : ◌≡◌ {A = ℕ} 255 8 = h.sure refl 0x1010 first_named in omega arith)

-- one with a state of its own: it counts its steps and says done after the fourth, whatever it heard
abbrev sent_after : Request → ℕ → Move ℕ
sent_after q n =
    choose (eqb n 0) (sends (change_frame q) 1)
    (choose (eqb n 1) (sends (acknowledge_frame q) 2)
    (choose (eqb n 2) (sends (interrogate_frame q) 3)
    (ends 4)))

abbrev said_after : ℕ → Verdict
said_after n = choose (eqb n 4) Done Open

abbrev counts : Build ℕ
counts = record { new = 0; says = said_after; step = λ q n got room. sent_after q n; card = reply_of }

refute_counts : Refuted counts
unfolding computed allows
refute_counts =
    refuted counts two fresh (alone ∷ alone ∷ alone ∷ alone ∷ []) refl refl (λ h. let e : ◌≡◌ {A = ℕ} 255 8 = h.sure refl 0x1010 first_named in omega arith)

-- wrong cards, with the right master

abbrev card_by : (Card → Entry → Reply) → Build Phase
card_by replies = record { new = New; says = says_of; step = step_of; card = replies }

-- what a call asks of the Datalink entry
abbrev frame_asks : Card → Dialect → List ℕ → Result Order Silent
frame_asks card Datalink f = asked (ia_of card) f
frame_asks card Lecom f = refused 0
frame_asks card Love f = refused 0
frame_asks card Lucid f = refused 0

abbrev asks : Card → Entry → Result Order Silent
asks card (SetCode channel code) = refused 0
asks card Restart = refused 0
asks card (Governor channel) = refused 0
asks card (Frame dialect room f) = frame_asks card dialect f
asks card (Receive dialect room come) = refused 0
asks card (Quiet dialect) = refused 0
asks card (WriteImage room) = refused 0
asks card (ReadImage img) = refused 0

-- one that applies a change at its echo, and once more at the acknowledge: the customer's clauses do not catch it, since to ask once more changes nothing; `untouched` does
unfoldable eagerly : Result Order Silent → Reply → Reply
eagerly (Err refusal) r = r
eagerly (Ok (Interrogate at n)) r = r
eagerly (Ok (Change kind num)) r =
    choose (eqb r.number answered) (record { number = r.number; bytes = r.bytes; card = card_of r.card.words (applied_to r.card.memory r.card.ports) r.card.ports }) r
eagerly (Ok Acknowledge) r = r

abbrev eager : Build Phase
eager = card_by (λ card e. eagerly (asks card e) (reply_of card e))

refute_eager : Refuted eager
unfolding computed allows eagerly
refute_eager =
    refuted eager two fresh (alone ∷ arrives ∷ []) refl refl (λ h. let e : ◌≡◌ {A = ℕ} 8 255 = h.untouched (lit≤ tt) 0x1010 (record { low = lit≤ tt; high = lit< tt }) in omega arith)

-- one whose acknowledge leaves the byte 1011h as it was
unfoldable halved : Card → Result Order Silent → Reply → Reply
halved card (Err refusal) r = r
halved card (Ok (Interrogate at n)) r = r
halved card (Ok (Change kind num)) r = r
halved card (Ok Acknowledge) r =
    record { number = r.number; bytes = r.bytes; card = card_of r.card.words (set r.card.memory 0x11 (get_or card.memory 0x11 0)) r.card.ports }

abbrev half : Build Phase
half = card_by (λ card e. halved card (asks card e) (reply_of card e))

second_named : Named two 0x1011
second_named = record { low = lit≤ tt; high = lit< tt }

refute_half : Refuted half
unfolding computed allows halved
refute_half =
    refuted half two fresh (alone ∷ arrives ∷ hears ∷ arrives ∷ []) refl refl
    (λ h. ⊎_elim
    (λ old. let e : ◌≡◌ {A = ℕ} 8 255 = old 0x1010 (record { low = lit≤ tt; high = lit< tt }) first_named in omega arith)
    (λ asked. let e : ◌≡◌ {A = ℕ} 255 12 = asked 0x1011 (record { low = lit≤ tt; high = lit< tt }) second_named in omega arith)
    h.whole)

-- one whose set code takes any channel
unfoldable any_channel : Card → Entry → Reply
any_channel card (SetCode channel code) = silent done (with_code card channel code)
any_channel card Restart = reply_of card Restart
any_channel card (Governor channel) = reply_of card (Governor channel)
any_channel card (Frame dialect room f) = reply_of card (Frame dialect room f)
any_channel card (Receive dialect room come) = reply_of card (Receive dialect room come)
any_channel card (Quiet dialect) = reply_of card (Quiet dialect)
any_channel card (WriteImage room) = reply_of card (WriteImage room)
any_channel card (ReadImage img) = reply_of card (ReadImage img)

abbrev unbounded : Build Phase
unbounded = card_by any_channel

refute_any_channel : Refuted unbounded
unfolding computed allows any_channel
refute_any_channel =
    refuted unbounded two fresh (Other (SetCode 0x20 7) ∷ []) refl refl (λ h. let e : ◌≡◌ {A = ℕ} 7 255 = h.others 0x1020 free not_named in omega arith)
