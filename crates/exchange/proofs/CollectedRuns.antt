-- Runs over collected frames, computed: what is an arrival, and what is another frame. Assumes nothing.
use Rattle.std.proofs.Common.{◌≡◌, ℕ, zero, suc, Bool, true, false, ◌&&◌, List, [], ◌∷◌, ◌++◌, refl}
use Prim.{Unit, tt}
use Rattle.receiver.proofs.Computed.{computed as receiver-computed}
use Rattle.card.specs.Layout.{Card}
use Rattle.lecom.proofs.Computed.{computed as lecom_computed}
use Rattle.love.proofs.Computed.{computed as love_computed}
use Rattle.lucid.proofs.Computed.{computed as lucid_computed}
use Rattle.receive.proofs.Computed.{computed as receive-computed}
use Rattle.receive.specs.declared.Dialect.TheVariants.{Datalink}
use Rattle.master.specs.Request.{Request, askable}
use Rattle.master.specs.Request.Ask.{bytes}
use Rattle.master.specs.Step.{says_of}
use Rattle.master.specs.declared.Phase.{Phase}
use Rattle.master.specs.declared.Verdict.{Verdict}
use Rattle.master.specs.declared.Verdict.TheVariants.{Open, Done, Unknown}
use Rattle.calls.specs.Calls.Call.{Restart, Quiet}
use Rattle.exchange.specs.Calls.Choice.{none, answer}
use Rattle.exchange.specs.Calls.Call.{Other}
use Rattle.exchange.specs.Line.{as_written}
use Rattle.exchange.specs.Demand.{byte_at}
use Rattle.exchange.specs.Collected.{Coming, Feed, Watched, bytes_of, sources_of, from_host, one_sending, watch, arrives, handing, fed, feeding}
use Rattle.exchange.specs.Collected.Coming.{Sent, Noise}
use Rattle.exchange.specs.Collected.Feed.{Turn, Lend, Hand, Else}
use Rattle.exchange.proofs.Computed.{computed as line-computed, allows_call, fresh, two}

unfoldable computed : Unit {0}
unfolding line-computed receiver-computed lecom_computed love_computed lucid_computed receive-computed bytes_of sources_of from_host one_sending arrives fed feeding
computed = tt

-- n places of a sending, from one on
unfoldable places : ℕ → ℕ → ℕ → List Coming
places sending place zero = []
places sending place (suc n) = Sent sending place ∷ places sending (suc place) n

-- the premise as a test
abbrev calm_call : Watched Phase → Feed → Bool
calm_call w (Turn choice room) = true
calm_call w (Lend room comings) = true
calm_call w (Hand room) = allows_call as_written w.world (handing w room)
calm_call w (Else e) = allows_call as_written w.world (Other e)

unfoldable calms : Request → Watched Phase → List Feed → Bool
calms q w [] = true
calms q w (c ∷ feeds) = calm_call w c && calms q (fed as_written q w c) feeds

-- after these calls, which the premise allows, the master says this and the byte at an address is this
record Collects (q : Request) (start : Card) (feeds : List Feed) (says : Verdict) (address byte : ℕ) : Type 0 where
  asked : askable q ≡ true
  allowed : calms q (watch as_written start) feeds ≡ true
  said : says_of (feeding as_written q (watch as_written start) feeds).world.state ≡ says
  held : byte_at (feeding as_written q (watch as_written start) feeds).world.card address ≡ byte

-- the premise excludes these calls
abbrev Excluded : Request → Card → List Feed → Type 0
Excluded q start feeds = calms q (watch as_written start) feeds ≡ false

abbrev alone : Feed
alone = Turn none 38

abbrev hears : Feed
hears = Turn (answer 0) 38

abbrev lend : List Coming → Feed
lend comings = Lend 38 comings

abbrev hand : Feed
hand = Hand 38

-- three rounds without loss: the change cut in two with noise before it, the acknowledge, and the interrogate byte by byte
collected_done : Collects two fresh (alone ∷ lend (Noise 0x55 ∷ places 1 0 3) ∷ lend (places 1 3 5) ∷ hand ∷ hears ∷ lend (places 1 0 2) ∷ hand ∷ alone ∷ lend (places 1 0 1) ∷ lend (places 1 1 1) ∷ lend (places 1 2 4) ∷ hand ∷ hears ∷ []) Done 0x1011 12
unfolding computed calms places
collected_done = record { asked = refl; allowed = refl; said = refl; held = refl }

-- a quiet mark inside the change: it is lost
quiet_inside : Collects two fresh (alone ∷ lend (places 1 0 3) ∷ Else (Quiet Datalink) ∷ lend (places 1 3 5) ∷ hand ∷ alone ∷ []) Unknown 0x1010 255
unfolding computed calms places
quiet_inside = record { asked = refl; allowed = refl; said = refl; held = refl }

-- a change of 7Eh, 83h: where a restart has dropped its head, its data are collected as an acknowledge, another frame; nothing is pending, so it
-- is refused
abbrev inner : Request
inner = record { ia = 3; address = 0x1010; ask = bytes (0x7E ∷ 0x83 ∷ []) }

data_as_acknowledge : Collects inner fresh (alone ∷ lend (places 1 0 5) ∷ Else Restart ∷ lend (places 1 5 3) ∷ hand ∷ []) Open 0x1010 255
unfolding computed calms places
data_as_acknowledge = record { asked = refl; allowed = refl; said = refl; held = refl }

-- where the change is pending, that acknowledge would be accepted: the premise excludes it
data_as_accepted : Excluded inner fresh (alone ∷ lend (places 1 0 8) ∷ hand ∷ lend (places 2 0 5) ∷ Else (Quiet Datalink) ∷ lend (places 2 5 3) ∷ hand ∷ [])
unfolding computed calms places
data_as_accepted = refl

-- the first half of one sending and the second of another: another frame, which the premise excludes, since it is a change that is accepted
two_sendings : Excluded two fresh (alone ∷ lend (places 1 0 4 ++ places 2 4 4) ∷ hand ∷ [])
unfolding computed calms places
two_sendings = refl

-- a third arrival in its round is another frame: a change is then excluded, an interrogate is not
third_change : Excluded two fresh (alone ∷ lend (places 1 0 8) ∷ hand ∷ hand ∷ hand ∷ [])
unfolding computed calms places
third_change = refl

-- a frame of the round before is another one in this round: the change once more, while the acknowledge is awaited
earlier_round : Excluded two fresh (alone ∷ lend (places 1 0 8) ∷ hand ∷ hears ∷ hand ∷ [])
unfolding computed calms places
earlier_round = refl
