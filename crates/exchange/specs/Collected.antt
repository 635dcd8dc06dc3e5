-- The list of calls where frames reach the Datalink entry by its receiver. Document 02, M-100: "a host frame arrives when the Datalink entry gets it,
-- collected whole and as sent, else it is lost".
use Prim.{Unit}
use Rattle.std.specs.Prelude.{ℕ, suc, ◌-◌, Bool, false, ◌&&◌, List, [], ◌∷◌, ◌++◌, ltb, eqb, length, get_or, take, drop, replicate}
use Rattle.wire.specs.Choose.{choose}
use Rattle.wire.specs.Buffer.{same}
use Rattle.card.specs.Layout.{Card}
use Rattle.receive.specs.Parts.{part_of}
use Rattle.receive.specs.Receive.{receive_reply}
use Rattle.receive.specs.declared.Dialect.TheVariants.{Datalink, Lecom, Love, Lucid}
use Rattle.master.specs.Request.{Request}
use Rattle.calls.specs.Calls.{Call as Entry, refused}
use Rattle.calls.specs.Calls.Call.{SetCode, Restart, Governor, Frame, Receive, Quiet as Hush, WriteImage, ReadImage}
use Rattle.exchange.specs.Calls.{Choice, Call}
use Rattle.exchange.specs.Calls.Call.{Step, Arrival, Other}
use Rattle.exchange.specs.Line.{World, Build, heard, begin, called}
use Rattle.exchange.specs.Premise.{Quiet}

-- a byte on its way to the Datalink receiver: that of a place in a sending of the frame last sent (the line may bring a frame more than once, so
-- sendings are numbered), or any other
pub data Coming : Type 0 where
  -- sending, place
  Sent : ℕ → ℕ → Coming
  Noise : ℕ → Coming

-- where a byte that was taken comes from
pub data Source : Type 0 where
  Host : ℕ → ℕ → Source
  Elsewhere : Source

abbrev pub byte_of : List ℕ → Coming → ℕ
byte_of frame (Sent sending place) = get_or frame place 0
byte_of frame (Noise b) = b

-- a place past the frame is none of it
abbrev pub source_of : List ℕ → Coming → Source
source_of frame (Sent sending place) = choose (ltb place (length frame)) (Host sending place) Elsewhere
source_of frame (Noise b) = Elsewhere

unfoldable pub bytes_of : List ℕ → List Coming → List ℕ
bytes_of frame [] = []
bytes_of frame (c ∷ comings) = byte_of frame c ∷ bytes_of frame comings

unfoldable pub sources_of : List ℕ → List Coming → List Source
sources_of frame [] = []
sources_of frame (c ∷ comings) = source_of frame c ∷ sources_of frame comings

-- sources that are the places of one sending, from this one on, to the frame's last
unfoldable pub from_host : ℕ → ℕ → ℕ → List Source → Bool
from_host sending place end [] = eqb place end
from_host sending place end (Host s p ∷ sources) = eqb s sending && (eqb p place && from_host sending (suc place) end sources)
from_host sending place end (Elsewhere ∷ sources) = false

-- "those of one sending of the frame last sent, from its first to its last"
unfoldable pub one_sending : ℕ → List Source → Bool
one_sending end [] = false
one_sending end (Host s p ∷ sources) = from_host s 0 end (Host s p ∷ sources)
one_sending end (Elsewhere ∷ sources) = false

-- the last n of a list
abbrev pub last_of : {A : Type 0} → ℕ → List A → List A
last_of n l = drop (length l - n) l

-- a call of the list: Arrival stands for the Datalink entry that gets the frame last handed over
pub data Feed : Type 0 where
  -- the master's step
  Turn : Choice → ℕ → Feed
  -- bytes reach the Datalink receiver, with a frame buffer of this room
  Lend : ℕ → List Coming → Feed
  -- the Datalink entry gets the frame last handed over, with an answer buffer of this room
  Hand : ℕ → Feed
  -- every other call of the card, a restart and a quiet line too
  Else : Entry → Feed

-- master, card and line; where the bytes of the part frame come from; the frame last handed over, and where its bytes come from
pub record Watched (State : Type 0) : Type 0 where
  pub world : World State
  pub part : List Source
  pub tray : List ℕ
  pub origins : List Source

-- the Datalink part frame of a card
abbrev pub part_in : Card → List ℕ
part_in card = part_of Datalink card.ports

-- "any tables": the bytes of a part frame at the start come from elsewhere; no frame was handed over yet
abbrev pub watch : {State : Type 0} → Build State → Card → Watched State
watch b card = record { world = begin b card; part = replicate (length (part_in card)) Elsewhere; tray = []; origins = [] }

-- the frame that the entry gets is the host's, and arrives: it is that of one sending in this round, and fewer than two have arrived
unfoldable pub arrives : {State : Type 0} → Watched State → Bool
arrives w = one_sending (length w.world.line.frame) w.origins && (same w.tray w.world.line.frame && ltb w.world.line.arrivals 2)

-- what the call is in the list of whole frames
abbrev pub handing : {State : Type 0} → Watched State → ℕ → Call
handing w room = choose (arrives w) (Arrival room) (Other (Frame Datalink room w.tray))

-- after a step that is not refused a new round begins: no byte is of a sending in it
abbrev pub strange : List Source → List Source
strange sources = replicate (length sources) Elsewhere

-- sources follow the bytes taken; the part frame, and a frame handed over, are the last of those
abbrev pub lent_to : {State : Type 0} → Build State → Request → Watched State → ℕ → List ℕ → List Source → Watched State
lent_to b q w room bytes sources =
    let receipt = receive_reply Datalink w.world.card room bytes in
    let come = w.part ++ take receipt.taken sources in
    let after = called b q w.world (Other (Receive Datalink room bytes)) in
    let f = receipt.reply.bytes in
    record {
      world = after;
      part = last_of (length (part_in after.card)) come;
      tray = choose (eqb (length f) 0) w.tray f;
      origins = choose (eqb (length f) 0) w.origins (last_of (length f) come);
    }

-- any other call leaves the part frame or drops it
abbrev pub elsewhere : {State : Type 0} → Build State → Request → Watched State → Entry → Watched State
elsewhere b q w e =
    let after = called b q w.world (Other e) in
    record { world = after; part = last_of (length (part_in after.card)) w.part; tray = w.tray; origins = w.origins }

abbrev pub other : {State : Type 0} → Build State → Request → Watched State → Entry → Watched State
other b q w (Receive Datalink room bytes) = lent_to b q w room bytes (replicate (length bytes) Elsewhere)
other b q w (Receive Lecom room bytes) = elsewhere b q w (Receive Lecom room bytes)
other b q w (Receive Love room bytes) = elsewhere b q w (Receive Love room bytes)
other b q w (Receive Lucid room bytes) = elsewhere b q w (Receive Lucid room bytes)
other b q w (SetCode channel code) = elsewhere b q w (SetCode channel code)
other b q w Restart = elsewhere b q w Restart
other b q w (Governor channel) = elsewhere b q w (Governor channel)
other b q w (Frame dialect room f) = elsewhere b q w (Frame dialect room f)
other b q w (Hush dialect) = elsewhere b q w (Hush dialect)
other b q w (WriteImage room) = elsewhere b q w (WriteImage room)
other b q w (ReadImage img) = elsewhere b q w (ReadImage img)

unfoldable pub fed : {State : Type 0} → Build State → Request → Watched State → Feed → Watched State
fed b q w (Turn choice room) =
    let number = (b.step q w.world.state (heard w.world.line choice) room).number in
    record {
      world = called b q w.world (Step choice room);
      part = choose (refused number) w.part (strange w.part);
      tray = w.tray;
      origins = choose (refused number) w.origins (strange w.origins);
    }
fed b q w (Lend room comings) = lent_to b q w room (bytes_of w.world.line.frame comings) (sources_of w.world.line.frame comings)
fed b q w (Hand room) = record { world = called b q w.world (handing w room); part = w.part; tray = w.tray; origins = w.origins }
fed b q w (Else e) = other b q w e

-- what a list of calls leads to
unfoldable pub feeding : {State : Type 0} → Build State → Request → Watched State → List Feed → Watched State
feeding b q w [] = w
feeding b q w (c ∷ feeds) = feeding b q (fed b q w c) feeds

-- "a change or acknowledge collected from anything else .. counts as another one, which its premise excludes if accepted"
abbrev pub Calm : {State : Type 0} → Build State → Watched State → Feed → Type 0
Calm b w (Turn choice room) = Unit {0}
Calm b w (Lend room comings) = Unit {0}
Calm b w (Hand room) = Quiet b w.world (handing w room)
Calm b w (Else e) = Quiet b w.world (Other e)

unfoldable pub AllCalm : {State : Type 0} → Build State → Request → Watched State → List Feed → Type 0
AllCalm b q w [] = Unit {0}
AllCalm b q w (c ∷ feeds) = Calm b w c × AllCalm b q (fed b q w c) feeds
