-- A refusal changes no table, whatever the call and whatever the tables. Assumes nothing.
use Rattle.std.proofs.Common.{ℕ, List}
use Rattle.card.specs.Layout.{Card}
use Rattle.card.specs.Reply.{Keeps}
use Rattle.card.proofs.Laws.{set_code_keeps, restart_keeps, governor_keeps}
use Rattle.datalink.proofs.Laws.{keeps as datalink-keeps}
use Rattle.lecom.proofs.Laws.{keeps as lecom-keeps}
use Rattle.love.proofs.Laws.{keeps as love-keeps}
use Rattle.lucid.proofs.Laws.{keeps as lucid-keeps}
use Rattle.receive.proofs.Laws.{receive_keeps, quiet_keeps}
use Rattle.image.proofs.Laws.{write_keeps, read_keeps}
use Rattle.receive.specs.declared.Dialect.{Dialect}
use Rattle.receive.specs.declared.Dialect.TheVariants.{Datalink, Lecom, Love, Lucid}
use Rattle.calls.specs.Calls.{Call, frame_reply, reply_of}
use Rattle.calls.specs.Calls.Call.{SetCode, Restart, Governor, Frame, Receive, Quiet, WriteImage, ReadImage}

frame_keeps : (card : Card) (d : Dialect) (room : ℕ) (f : List ℕ) → Keeps card (frame_reply card d room f)
unfolding frame_reply
frame_keeps card Datalink room f = datalink-keeps card room f
frame_keeps card Lecom room f = lecom-keeps card room f
frame_keeps card Love room f = love-keeps card room f
frame_keeps card Lucid room f = lucid-keeps card room f

-- "Numbers 2 to 14 change no table", and "Numbers above 14 join 01's table"
pub keeps : (card : Card) (c : Call) → Keeps card (reply_of card c)
unfolding reply_of
keeps card (SetCode channel code) = set_code_keeps card channel code
keeps card Restart = restart_keeps card
keeps card (Governor channel) = governor_keeps card channel
keeps card (Frame dialect room f) = frame_keeps card dialect room f
keeps card (Receive dialect room bytes) = receive_keeps card dialect room bytes
keeps card (Quiet dialect) = quiet_keeps card dialect
keeps card (WriteImage room) = write_keeps card room
keeps card (ReadImage img) = read_keeps card img
