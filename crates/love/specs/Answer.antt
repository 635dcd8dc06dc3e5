-- What the card answers, and what its words become. Document 01, "Love", last paragraph.
use Rattle.std.specs.Prelude.{ℕ, ◌+◌, ◌%◌, List, [], ◌∷◌, ◌++◌, Result, Ok, Err, get_or, set}
use Rattle.wire.specs.Choose.{choose}
use Rattle.wire.specs.Sum.{sum_of}
use Rattle.figures.specs.Figure.{zero_char, pair_of}
use Rattle.figures.specs.Decimal.{digits}
use Rattle.figures.specs.Signed.{is_negative, magnitude}
use Rattle.card.specs.Numbers.{answered}
use Rattle.card.specs.Layout.{Card, love_address_at, love_at}
use Rattle.card.specs.Fitness.{love_hundred}
use Rattle.card.specs.Probe.{reading_of}
use Rattle.card.specs.Reply.{Reply, WordsReply, on_words, shell, room_least}
use Rattle.card.specs.declared.probe.Reading.{Reading}
use Rattle.card.specs.declared.probe.Reading.TheVariants.{Temperature, Fault}
use Rattle.love.specs.Form.{stx, ack, filter_of}
use Rattle.love.specs.Frame.{asked}
use Rattle.love.specs.declared.frame.Order.{Order}
use Rattle.love.specs.declared.frame.Order.TheVariants.{Probe, Read, Write}
use Rattle.love.specs.declared.frame.Refusal.{Refusal}
use Rattle.love.specs.declared.frame.Refusal.TheVariants.{Silent, Refused}

-- filter and address, which follow STX in every reply
unfoldable pub unit_of : ℕ → List ℕ
unit_of address = filter_of address ∷ pair_of (address % love_hundred)

-- ASCII N, the mark of an error reply
abbrev pub error_mark : ℕ
error_mark = 0x4E

-- "Error reply: STX, filter, address, N, code, ACK, no checksum."
unfoldable pub error_reply : ℕ → ℕ → List ℕ
error_reply address code = stx ∷ (unit_of address ++ (error_mark ∷ (pair_of code ++ (ack ∷ []))))

-- "Normal reply ends in checksum, ACK"; "the card's [checksum] adds its filter too"
unfoldable pub normal_reply : ℕ → List ℕ → List ℕ
normal_reply address characters = stx ∷ ((unit_of address ++ characters) ++ (pair_of (sum_of (unit_of address ++ characters)) ++ (ack ∷ [])))

-- "data is 00 for a write"
unfoldable pub written_data : List ℕ
written_data = pair_of 0x00

-- the signs of a read
abbrev pub positive : ℕ
positive = 0x00

abbrev pub negative : ℕ
negative = 0x01

-- the sign of a word in the reply to a read
abbrev pub sign_of : ℕ → ℕ
sign_of word = choose (is_negative word) negative positive

-- how many figures a number has in a reply
abbrev pub figure_count : ℕ
figure_count = 4

-- "sign 00 or 01 and four figures for a read"
unfoldable pub value_data : ℕ → List ℕ
value_data word = pair_of (sign_of word) ++ digits figure_count (magnitude word)

-- ASCII C, D and 2: the first character of the data for 00, without and with a fault, and the fourth of a negative number
abbrev pub fine_char : ℕ
fine_char = 0x43

abbrev pub fault_char : ℕ
fault_char = 0x44

abbrev pub negative_char : ℕ
negative_char = 0x32

-- the data for 00: the first character, 0, 0, the fourth, and four figures
unfoldable pub status_data : ℕ → ℕ → ℕ → List ℕ
status_data first fourth number = first ∷ zero_char ∷ zero_char ∷ fourth ∷ digits figure_count number

-- "For 00, probe 0: C (D at fault), 0, 0, 0 (2 if negative), four figures (0000 at fault)."
unfoldable pub probe_data : Reading → List ℕ
probe_data (Temperature tenths) = status_data fine_char (choose (is_negative tenths.0) negative_char zero_char) (magnitude tenths.0)
probe_data Fault = status_data fault_char zero_char 0

-- the unit's address
abbrev pub address_of : List ℕ → ℕ
address_of words = get_or words love_address_at 0

-- the wire bytes and the words of each refusal and each order; the probe is that of channel 0
unfoldable pub obeyed : List ℕ → List ℕ → Result Order Refusal → WordsReply
obeyed words memory (Err (Silent number)) = record { number = number; bytes = []; words = words }
obeyed words memory (Err (Refused number code)) = record { number = number; bytes = error_reply (address_of words) code; words = words }
obeyed words memory (Ok Probe) = record { number = answered; bytes = normal_reply (address_of words) (probe_data (reading_of (get_or memory 0 0))); words = words }
obeyed words memory (Ok (Read k)) = record { number = answered; bytes = normal_reply (address_of words) (value_data (get_or words (love_at + k) 0)); words = words }
obeyed words memory (Ok (Write k word)) = record { number = answered; bytes = normal_reply (address_of words) written_data; words = set words (love_at + k) word }

-- what the card gives for a Love frame: memory and the port's row are as they were
unfoldable pub love_reply : Card → ℕ → List ℕ → Reply
love_reply card room f = shell room_least card room (on_words card (obeyed card.words card.memory (asked (address_of card.words) f)))
