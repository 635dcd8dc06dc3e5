-- A fit card stays fit, whatever the call. Assumes nothing.
use Rattle.std.proofs.Common.{◌≡◌, ℕ, true, List}
use Prim.{Unit}
use Rattle.card.specs.Layout.{Card}
use Rattle.card.specs.Fitness.{fit}
use Rattle.card.proofs.Fits.{IsFit, set_code_stays_fit, restart_stays_fit, governor_stays_fit}
use Rattle.datalink.proofs.Fits.{stays_fit as datalink-fit}
use Rattle.lecom.proofs.Fits.{stays_fit as lecom-fit}
use Rattle.love.proofs.Fits.{stays_fit as love-fit}
use Rattle.lucid.proofs.Fits.{Bytes, stays_fit as lucid-fit}
use Rattle.receive.proofs.Fits.{receive_stays_fit, quiet_stays_fit}
use Rattle.image.proofs.Fits.{write_stays_fit, read_stays_fit}
use Rattle.receive.specs.declared.Dialect.{Dialect}
use Rattle.receive.specs.declared.Dialect.TheVariants.{Datalink, Lecom, Love, Lucid}
use Rattle.calls.specs.Calls.{Call, frame_reply, reply_of}
use Rattle.calls.specs.Calls.Call.{SetCode, Restart, Governor, Frame, Receive, Quiet, WriteImage, ReadImage}

-- the frame of a call is one of bytes
abbrev pub FrameOfBytes : Call → Type 0
FrameOfBytes (SetCode channel code) = Unit {0}
FrameOfBytes Restart = Unit {0}
FrameOfBytes (Governor channel) = Unit {0}
FrameOfBytes (Frame dialect room f) = Bytes f
FrameOfBytes (Receive dialect room bytes) = Unit {0}
FrameOfBytes (Quiet dialect) = Unit {0}
FrameOfBytes (WriteImage room) = Unit {0}
FrameOfBytes (ReadImage img) = Unit {0}

frame_stays_fit : (card : Card) (d : Dialect) (room : ℕ) (f : List ℕ) → Bytes f → fit card ≡ true → IsFit (frame_reply card d room f)
unfolding frame_reply
frame_stays_fit card Datalink room f b e = datalink-fit card room f e
frame_stays_fit card Lecom room f b e = lecom-fit card room f e
frame_stays_fit card Love room f b e = love-fit card room f e
frame_stays_fit card Lucid room f b e = lucid-fit card room f b e

pub stays_fit : (card : Card) (c : Call) → FrameOfBytes c → fit card ≡ true → IsFit (reply_of card c)
unfolding reply_of
stays_fit card (SetCode channel code) b e = set_code_stays_fit card channel code e
stays_fit card Restart b e = restart_stays_fit card e
stays_fit card (Governor channel) b e = governor_stays_fit card channel e
stays_fit card (Frame dialect room f) b e = frame_stays_fit card dialect room f b e
stays_fit card (Receive dialect room bytes) b e = receive_stays_fit card dialect room bytes e
stays_fit card (Quiet dialect) b e = quiet_stays_fit card dialect e
stays_fit card (WriteImage room) b e = write_stays_fit card room e
stays_fit card (ReadImage img) b e = read_stays_fit card img e
