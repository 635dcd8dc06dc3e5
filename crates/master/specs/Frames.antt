-- The frames that the line master sends, and the answers that it takes: "each in the form above and to the request's I.A."
use Rattle.std.specs.Prelude.{ℕ, zero, suc, ◌+◌, ◌%◌, ◌/◌, Bool, true, ◌&&◌, List, [], ◌∷◌, eqb, length, get_or}
use Rattle.wire.specs.Buffer.{part, same}
use Rattle.wire.specs.Sum.{byte_values}
use Rattle.datalink.specs.Form.{start, framed, interrogate_bits, change_bits_bits, change_command_bits, acknowledge_bits, frame_data_at}
use Rattle.datalink.specs.Answer.{response}
use Rattle.master.specs.Request.{Ask, Request, named_by, as_asked}
use Rattle.master.specs.Request.Ask.{bytes, bits}

-- masks and states by turns, as Change Bits carries them
abbrev pub pairs : List ℕ → List ℕ → List ℕ
pairs [] states = []
pairs (m ∷ masks) [] = []
pairs (m ∷ masks) (s ∷ states) = m ∷ s ∷ pairs masks states

-- the data of the change
abbrev pub data_of : Ask → List ℕ
data_of (bytes sent) = sent
data_of (bits masks states) = pairs masks states

-- "Change for bytes, Change Bits for bits"
abbrev pub command_of : Ask → ℕ
command_of (bytes sent) = change_command_bits
command_of (bits masks states) = change_bits_bits

-- a frame's body: NUM; low address; high address; data
abbrev pub body : ℕ → ℕ → List ℕ → List ℕ
body num address sent = num ∷ address % byte_values ∷ address / byte_values ∷ sent

abbrev pub change_body : Request → List ℕ
change_body q = body (length (data_of q.ask)) q.address (data_of q.ask)

-- the request's change
unfoldable pub change_frame : Request → List ℕ
change_frame q = framed (command_of q.ask + q.ia) (change_body q)

-- the acknowledge: "two bytes, no LRC"
unfoldable pub acknowledge_frame : Request → List ℕ
acknowledge_frame q = start ∷ (acknowledge_bits + q.ia) ∷ []

-- "an interrogate of the bytes named"
unfoldable pub interrogate_frame : Request → List ℕ
interrogate_frame q = framed (interrogate_bits + q.ia) (body (named_by q.ask) q.address [])

-- an exact echo: the response "with the NUM, address and data received"
unfoldable pub echo : Request → List ℕ
echo q = response q.ia (change_body q)

unfoldable pub is_echo : Request → List ℕ → Bool
is_echo q answer = same answer (echo q)

-- the data bytes of an answer with this NUM
abbrev pub data_in : ℕ → List ℕ → List ℕ
data_in num answer = part answer frame_data_at (frame_data_at + num)

-- a response with this I.A., NUM and address, whatever data it shows: its length and LRC are right
abbrev pub responds : ℕ → ℕ → ℕ → List ℕ → Bool
responds ia num address answer = same answer (response ia (body num address (data_in num answer)))

-- the bytes that a read-back shows
abbrev pub shown_in : Request → List ℕ → List ℕ
shown_in q answer = data_in (named_by q.ask) answer

-- a response to the master's own interrogate: its I.A., NUM, address, length and LRC are right
unfoldable pub is_response : Request → List ℕ → Bool
is_response q answer = responds q.ia (named_by q.ask) q.address answer

-- the first k bytes read have "every byte, or every forced bit, as asked": asking for it again would change nothing
unfoldable pub all_asked : Ask → List ℕ → ℕ → Bool
all_asked ask read zero = true
all_asked ask read (suc k) = all_asked ask read k && eqb (as_asked ask (get_or read k 0) k) (get_or read k 0)

-- a read-back with everything as asked
unfoldable pub confirms : Request → List ℕ → Bool
confirms q answer = is_response q answer && all_asked q.ask (shown_in q answer) (named_by q.ask)
