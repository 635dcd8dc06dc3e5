-- For each dialect: when a frame asks for the probe of a channel, its fault reply as document 01 has it, byte by byte, and what sets that
-- reply apart from a temperature's; and when a request to its master does. What a frame asks is by the dialect's order; nothing here rests
-- on what the dialect makes of a reading.
use Rattle.std.specs.Prelude.{ℕ, ◌+◌, ◌-◌, ◌%◌, ◌≤◌, ◌<◌, ◌≡◌, Bool, true, false, ◌&&◌, not, List, [], ◌∷◌, ◌++◌, eqb, get_or, Ok}
use Rattle.wire.specs.Sum.{sum_of}
use Rattle.figures.specs.Figure.{pair_of}
use Rattle.card.specs.Layout.{Card, channels}
use Rattle.card.specs.Probe.{fault_code}
use Rattle.card.specs.Reply.{Reply}
use Rattle.lecom.specs.Frame.{collective, asked as lecomAsked}
use Rattle.lecom.specs.Answer.{address_of as lecomAddress}
use Rattle.lecom.specs.declared.form.Named.TheVariants.{Probe}
use Rattle.lecom.specs.declared.frame.Order.TheVariants.{Read}
use Rattle.love.specs.Form.{filter_of}
use Rattle.love.specs.Frame.{asked as loveAsked}
use Rattle.love.specs.Answer.{address_of as loveAddress}
use Rattle.love.specs.declared.frame.Order.TheVariants.{Probe as LoveProbe}
use Rattle.lucid.specs.Answer.{named, asks_probe}
use Rattle.datalink.specs.Frame.{address_in, num_in, asked as datalinkAsked}
use Rattle.datalink.specs.Answer.{ia_of}
use Rattle.datalink.specs.declared.frame.Order.TheVariants.{Interrogate}
use Rattle.lecom_master.specs.declared.request.Task.TheVariants.{Read as LecomRead}
use Rattle.lecom_master.specs.declared.request.Request.{Request as LecomRequest}
use Rattle.love_master.specs.declared.request.Task.TheVariants.{Status}
use Rattle.love_master.specs.declared.request.Request.{Request as LoveRequest}
use Rattle.lucid_master.specs.Request.{Asking}
use Rattle.lucid_master.specs.declared.request.Command.{Command}
use Rattle.lucid_master.specs.declared.request.Command.TheVariants.{GetIo, GetIoGroup, SetIo, SetIoGroup, GetParam, SetParam, Reset}

-- another number, and other wire bytes
abbrev pub OtherNumber : Reply → Reply → Type 0
OtherNumber a b = a.number ≡ b.number → ⊥

abbrev pub OtherBytes : Reply → Reply → Type 0
OtherBytes a b = a.bytes ≡ b.bytes → ⊥

-- LECOM: a read of the channel's probe, "Codes 60h to 63h are the probes"
abbrev pub LecomAsks : Card → List ℕ → ℕ → Type 0
LecomAsks card f channel = lecomAsked (lecomAddress card.words) f ≡ Ok (Read (Probe channel))

-- "fault (9). .. the wire answer is NAK"; to a collective address "no bytes are sent, NAK included"
pub record LecomFault (f : List ℕ) (r : Reply) : Type 0 where
  pub number : r.number ≡ 9
  pub bytes : collective f ≡ false → r.bytes ≡ 0x15 ∷ []
  pub none : collective f ≡ true → r.bytes ≡ []

-- the number, and the bytes where any are sent
pub record LecomApart (f : List ℕ) (r s : Reply) : Type 0 where
  pub number : OtherNumber r s
  pub bytes : collective f ≡ false → OtherBytes r s

-- Love: "For 00, probe 0"
pub record LoveAsks (card : Card) (f : List ℕ) (channel : ℕ) : Type 0 where
  pub order : loveAsked (loveAddress card.words) f ≡ Ok LoveProbe
  pub first : channel ≡ 0

-- "D at fault, 0, 0, 0, 0000 at fault"
abbrev pub love_fault_data : List ℕ
love_fault_data = 0x44 ∷ 0x30 ∷ 0x30 ∷ 0x30 ∷ 0x30 ∷ 0x30 ∷ 0x30 ∷ 0x30 ∷ []

-- filter, two address figures and the data, which the card's checksum adds
abbrev pub love_fault_body : ℕ → List ℕ
love_fault_body address = (filter_of address ∷ pair_of (address % 0x100)) ++ love_fault_data

-- "Love's 00 with a failed probe is number 0"; STX, the body, "checksum, ACK"
pub record LoveFault (card : Card) (r : Reply) : Type 0 where
  pub number : r.number ≡ 0
  pub bytes : r.bytes ≡ 0x02 ∷ (love_fault_body (loveAddress card.words) ++ (pair_of (sum_of (love_fault_body (loveAddress card.words))) ++ (0x06 ∷ [])))

-- LucidControl: a probe of GetIo or GetIoGroup
abbrev pub LucidAsks : Card → List ℕ → ℕ → Type 0
LucidAsks card f channel = asks_probe f channel ≡ true

-- "fault (9, D0h). A refusal answers its status and LEN 0. One failed probe refuses a whole group."
pub record LucidFault (r : Reply) : Type 0 where
  pub number : r.number ≡ 9
  pub bytes : r.bytes ≡ 0xD0 ∷ 0x00 ∷ []

-- no other probe that the frame asks for has failed
abbrev pub OthersWork : Card → List ℕ → ℕ → Type 0
OthersWork card f channel = (k : ℕ) → k < channels → LucidAsks card f k → (k ≡ channel → ⊥) → get_or card.memory k 0 < fault_code

-- the number and the bytes, where the other probes asked for work
pub record LucidApart (card : Card) (f : List ℕ) (channel : ℕ) (r s : Reply) : Type 0 where
  pub number : OthersWork card f channel → OtherNumber r s
  pub bytes : OthersWork card f channel → OtherBytes r s

-- Datalink: an Interrogate that names the channel's byte, of 1000h to 1003h
pub record DatalinkAsks (card : Card) (f : List ℕ) (channel : ℕ) : Type 0 where
  pub order : datalinkAsked (ia_of card) f ≡ Ok (Interrogate (address_in f) (num_in f))
  pub from : address_in f ≤ 0x1000 + channel
  pub to : 0x1000 + channel < address_in f + num_in f

-- Datalink alone shows the code: "1000h to 1003h show the probe codes themselves, unsigned, 255 too". A response's data begin at its sixth byte
pub record DatalinkFault (f : List ℕ) (channel : ℕ) (r : Reply) : Type 0 where
  pub number : r.number ≡ 0
  pub byte : get_or r.bytes (5 + (0x1000 + channel - address_in f)) 0 ≡ 255

-- a request to LECOM's master: a read of the channel's code, "Codes 60h to 63h are the probes"
abbrev pub LecomRequests : LecomRequest → ℕ → Type 0
LecomRequests q channel = q.task ≡ LecomRead (0x60 + channel)

-- to Love's: its status, "For 00, probe 0"
pub record LoveRequests (q : LoveRequest) (channel : ℕ) : Type 0 where
  pub task : q.task ≡ Status
  pub first : channel ≡ 0

-- to LucidControl's: GetIo with the channel as P1, or GetIoGroup with a mask that names it, of another type than "10h demand"
unfoldable pub asks_channel : Command → ℕ → ℕ → ℕ → Bool
asks_channel GetIo p1 p2 channel = not (eqb p2 0x10) && eqb p1 channel
asks_channel GetIoGroup p1 p2 channel = not (eqb p2 0x10) && named channel p1
asks_channel SetIo p1 p2 channel = false
asks_channel SetIoGroup p1 p2 channel = false
asks_channel GetParam p1 p2 channel = false
asks_channel SetParam p1 p2 channel = false
asks_channel Reset p1 p2 channel = false

-- and so of the whole request
abbrev pub LucidRequests : Asking → ℕ → Type 0
LucidRequests q channel = asks_channel q.request.command q.request.p1 q.request.p2 channel ≡ true
