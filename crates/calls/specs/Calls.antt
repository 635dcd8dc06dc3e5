-- Every entry of the card as a call with any arguments, and what it gives. A new entry is one more constructor here, and one line in each law of proofs.
use Rattle.std.specs.Prelude.{ℕ, Bool, true, false, List, leb, Result, Ok, Err}
use Rattle.card.specs.Numbers.{foreign_address}
use Rattle.card.specs.Layout.{Card}
use Rattle.card.specs.Entries.{set_code, restart}
use Rattle.card.specs.Governor.{governor_reply}
use Rattle.card.specs.Reply.{Reply}
use Rattle.datalink.specs.Frame.{asked}
use Rattle.datalink.specs.Answer.{ia_of, datalink_reply}
use Rattle.datalink.specs.declared.frame.Order.{Order}
use Rattle.datalink.specs.declared.frame.Silent.{Silent}
use Rattle.datalink.specs.declared.frame.Order.TheVariants.{Interrogate, Change, Acknowledge}
use Rattle.lecom.specs.Answer.{lecom_reply}
use Rattle.love.specs.Answer.{love_reply}
use Rattle.lucid.specs.Answer.{lucid_reply}
use Rattle.receive.specs.Receive.{receive_reply, quiet_reply}
use Rattle.receive.specs.declared.Dialect.{Dialect}
use Rattle.receive.specs.declared.Dialect.TheVariants.{Datalink, Lecom, Love, Lucid}
use Rattle.image.specs.Entries.{write_image, read_image}

-- room is the length of a lent buffer, f a frame, bytes those that a receiver gets
pub data Call : Type 0 where
  -- channel, code
  SetCode : ℕ → ℕ → Call
  Restart : Call
  -- channel
  Governor : ℕ → Call
  -- room, f
  Frame : Dialect → ℕ → List ℕ → Call
  -- room, bytes
  Receive : Dialect → ℕ → List ℕ → Call
  Quiet : Dialect → Call
  -- room
  WriteImage : ℕ → Call
  -- the image
  ReadImage : List ℕ → Call

-- what a dialect's entry gives
unfoldable pub frame_reply : Card → Dialect → ℕ → List ℕ → Reply
frame_reply card Datalink room f = datalink_reply card room f
frame_reply card Lecom room f = lecom_reply card room f
frame_reply card Love room f = love_reply card room f
frame_reply card Lucid room f = lucid_reply card room f

-- what a call gives
unfoldable pub reply_of : Card → Call → Reply
reply_of card (SetCode channel code) = set_code card channel code
reply_of card Restart = restart card
reply_of card (Governor channel) = governor_reply card channel
reply_of card (Frame dialect room f) = frame_reply card dialect room f
reply_of card (Receive dialect room bytes) = (receive_reply dialect card room bytes).reply
reply_of card (Quiet dialect) = quiet_reply dialect card
reply_of card (WriteImage room) = write_image card room
reply_of card (ReadImage img) = read_image card img

-- "Refused is any number but 0 and 1"
abbrev pub refused : ℕ → Bool
refused number = leb foreign_address number

-- what a Datalink frame asks is a change (Change or Change Bits) or an acknowledge
abbrev pub writes : Result Order Silent → Bool
writes (Err refusal) = false
writes (Ok (Interrogate at n)) = false
writes (Ok (Change kind num)) = true
writes (Ok Acknowledge) = true

abbrev pub frame_writes : Card → Dialect → List ℕ → Bool
frame_writes card Datalink f = writes (asked (ia_of card) f)
frame_writes card Lecom f = false
frame_writes card Love f = false
frame_writes card Lucid f = false

-- a call asks for a Datalink change or an acknowledge; no other call writes Datalink memory from 1010h on or makes a change the pending one
abbrev pub asks_write : Card → Call → Bool
asks_write card (SetCode channel code) = false
asks_write card Restart = false
asks_write card (Governor channel) = false
asks_write card (Frame dialect room f) = frame_writes card dialect f
asks_write card (Receive dialect room bytes) = false
asks_write card (Quiet dialect) = false
asks_write card (WriteImage room) = false
asks_write card (ReadImage img) = false
