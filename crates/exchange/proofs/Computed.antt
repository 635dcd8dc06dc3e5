-- What the runs are computed with: every definition open, a test of the premise, and a card and requests to run. Assumes nothing.
use Rattle.std.proofs.Common.{◌≡◌, ℕ, ◌-◌, Bool, true, false, not, ◌&&◌, ◌||◌, leb, List, [], ◌∷◌, replicate, arith, leb-true}
use Prim.{Unit, tt}
use Rattle.wire.proofs.Tests.{and_true}
use Rattle.wire.proofs.Computed.{computed as wire-computed}
use Rattle.card.proofs.Computed.{computed as card-computed}
use Rattle.datalink.proofs.Computed.{computed as datalink-computed}
use Rattle.master.proofs.Computed.{computed as master-computed}
use Rattle.card.specs.Layout.{Card, card_of, memory_size, row_size}
use Rattle.card.specs.Change.{change}
use Rattle.card.specs.Start.{start_words}
use Rattle.master.specs.Request.{Request}
use Rattle.master.specs.Request.Ask.{bytes}
use Rattle.calls.specs.Calls.{frame_reply, reply_of, refused, asks_write}
use Rattle.exchange.specs.Calls.{Call}
use Rattle.exchange.specs.Calls.Choice.{none, answer}
use Rattle.exchange.specs.Calls.Call.{Step, Arrival, Other}
use Rattle.exchange.specs.Line.{World, Build, closing, after_step, after_arrival, after_restart, called, run}
use Rattle.exchange.specs.Premise.{AtMostTwice, Quiet, AsWorded}

-- to unfold this is to unfold every definition of a run
unfoldable pub computed : Unit {0}
unfolding wire-computed card-computed datalink-computed master-computed frame_reply reply_of closing after_step after_arrival after_restart called run
computed = tt

-- the premise word for word, as a test

abbrev pub allows_call : {State : Type 0} → Build State → World State → Call → Bool
allows_call b w (Step choice room) = true
allows_call b w (Arrival room) = leb w.line.arrivals 1
allows_call b w (Other e) = not (asks_write w.card e) || refused (b.card w.card e).number

unfoldable pub allows : {State : Type 0} → Build State → Request → World State → List Call → Bool
allows b q w [] = true
allows b q w (c ∷ calls) = allows_call b w c && allows b q (called b q w c) calls

or_holds : (s t : Bool) → (not s || t) ≡ true → s ≡ true → t ≡ true
or_holds true t e h = e
or_holds false t e h = let z : ◌≡◌ {A = ℕ} 0 1 = cc in let y : ⊥ = omega arith in absurd y

allowed_call : {State : Type 0} (b : Build State) (w : World State) (c : Call) → allows_call b w c ≡ true → AtMostTwice w c × Quiet b w c
allowed_call b w (Step choice room) e = (tt, tt)
allowed_call b w (Arrival room) e = (leb-true w.line.arrivals 1 e, tt)
allowed_call b w (Other x) e = (tt, or_holds (asks_write w.card x) (refused (b.card w.card x).number) e)

pub allowed : {State : Type 0} (b : Build State) (q : Request) (w : World State) (calls : List Call) → allows b q w calls ≡ true → AsWorded b q w calls
unfolding allows AsWorded
allowed b q w [] e = tt
allowed b q w (c ∷ calls) e =
    let p = and_true (allows_call b w c) (allows b q (called b q w c) calls) e in
    (allowed_call b w c p.0, allowed b q (called b q w c) calls p.1)

-- a card of I.A. 3 whose memory is FFh throughout, with this pending change
abbrev pub card_with : List ℕ → Card
card_with ports = card_of start_words (replicate memory_size 0xFF) ports

abbrev pub fresh : Card
fresh = card_with (replicate row_size 0)

-- another's Change of the byte 1020h to 7 is pending
abbrev pub stale : Card
stale = card_with (change ∷ 1 ∷ 0x20 ∷ 0x10 ∷ 7 ∷ replicate (row_size - 5) 0)

-- 08h and 0Ch to 1010h and 1011h
abbrev pub two : Request
two = record { ia = 3; address = 0x1010; ask = bytes (8 ∷ 12 ∷ []) }

-- a step that gets an answer, one that gets none, an arrival: each with a buffer that is long enough
abbrev pub hears : Call
hears = Step (answer 0) 38

abbrev pub alone : Call
alone = Step none 38

abbrev pub arrives : Call
arrives = Arrival 38

-- three rounds without loss
abbrev pub whole : List Call
whole = alone ∷ arrives ∷ hears ∷ arrives ∷ alone ∷ arrives ∷ hears ∷ []
