-- A checked example: calls on a card, each with the reply that the papers have for it.
use Rattle.std.specs.Prelude.{ℕ, Bool, true, ◌&&◌, List, [], ◌∷◌, eqb}
use Rattle.wire.specs.Buffer.{same}
use Rattle.card.specs.Layout.{Card}
use Rattle.card.specs.Reply.{Reply, room_least}
use Rattle.card.specs.Entries.{set_code, restart as restartReply}
use Rattle.datalink.specs.Answer.{datalink_reply}
use Rattle.lecom.specs.Answer.{lecom_reply}
use Rattle.love.specs.Answer.{love_reply}
use Rattle.lucid.specs.Answer.{lucid_reply}

-- a call of the card
pub data Call : Type 0 where
  code : ℕ → ℕ → Call
  restart : Call
  datalink lecom love lucid : List ℕ → Call

-- its reply, with the smallest answer buffer
abbrev pub reply_to : Card → Call → Reply
reply_to card (code channel value) = set_code card channel value
reply_to card restart = restartReply card
reply_to card (datalink f) = datalink_reply card room_least f
reply_to card (lecom f) = lecom_reply card room_least f
reply_to card (love f) = love_reply card room_least f
reply_to card (lucid f) = lucid_reply card room_least f

-- a call with its number and wire bytes
pub record Line : Type 0 where
  pub call : Call
  pub number : ℕ
  pub bytes : List ℕ

abbrev pub line : Call → ℕ → List ℕ → Line
line call number bytes = record { call = call; number = number; bytes = bytes }

-- a reply is the one printed, and the lines after it hold on the card as it then stands
abbrev pub held_by : Line → Reply → Bool
held_by line reply = eqb reply.number line.number && same reply.bytes line.bytes

-- every line of an example holds, each on the card as the last one left it
abbrev pub holds : Card → List Line → Bool
holds card [] = true
holds card (line ∷ rest) = let reply = reply_to card line.call in held_by line reply && holds reply.card rest

-- a card holds every example of a table
abbrev pub all_hold : Card → List (List Line) → Bool
all_hold card [] = true
all_hold card (row ∷ rest) = holds card row && all_hold card rest
