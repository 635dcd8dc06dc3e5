-- What the card does with a LECOM order, and what it sends. Document 01, "LECOM".
use Rattle.std.specs.Prelude.{ℕ, ◌+◌, Bool, ◌&&◌, not, List, [], ◌∷◌, ◌++◌, Result, Ok, Err, eqb, get_or, set}
use Rattle.wire.specs.Choose.{choose}
use Rattle.wire.specs.Buffer.{part, put}
use Rattle.figures.specs.Signed.{text_of}
use Rattle.card.specs.Numbers.{answered, done, range_unknown, probe_fault}
use Rattle.card.specs.Layout.{Card, lecom_address_at, buffer_at, operational_at, saved_registers_at}
use Rattle.card.specs.Probe.{reading_of}
use Rattle.card.specs.declared.probe.Reading.{Reading}
use Rattle.card.specs.declared.probe.Reading.TheVariants.{Temperature, Fault}
use Rattle.card.specs.Reply.{Reply, WordsReply, Answer, on_words, leaving, shell, room_least}
use Rattle.lecom.specs.Form.{stx, etx, eot, ack, nak}
use Rattle.lecom.specs.Frame.{collective, is_write, code_of, bcc_of, asked}
use Rattle.lecom.specs.declared.form.Named.{Named}
use Rattle.lecom.specs.declared.form.Named.TheVariants.{Register, Probe, Activate, Store}
use Rattle.lecom.specs.declared.frame.Order.{Order}
use Rattle.lecom.specs.declared.frame.Order.TheVariants.{Read, Write}
use Rattle.lecom.specs.declared.frame.Refusal.{Refusal}
use Rattle.lecom.specs.declared.frame.Refusal.TheVariants.{Silent, Refused}

-- what comes behind a code with a value: the shortest decimal, ETX, and the BCC from the code's first character through ETX
unfoldable pub closed : List ℕ → ℕ → List ℕ
closed code value = (text_of value ++ (etx ∷ [])) ++ (bcc_of (code ++ (text_of value ++ (etx ∷ []))) ∷ [])

-- what a read's BCC goes over: code, shortest decimal, ETX
unfoldable pub value_body : List ℕ → ℕ → List ℕ
value_body f value = code_of f ++ (text_of value ++ (etx ∷ []))

-- "Read answer: STX, code, shortest decimal, ETX, BCC"
unfoldable pub value_bytes : List ℕ → ℕ → List ℕ
value_bytes f value = (stx ∷ value_body f value) ++ (bcc_of (value_body f value) ∷ [])

-- "an unknown code in a read: STX, the code as received, EOT"
unfoldable pub unknown_bytes : List ℕ → List ℕ
unknown_bytes f = (stx ∷ code_of f) ++ (eot ∷ [])

-- "From layout on the wire answer is NAK, except an unknown code in a read"
unfoldable pub refusal_bytes : List ℕ → ℕ → List ℕ
refusal_bytes f number = choose (eqb number range_unknown && not (is_write f)) (unknown_bytes f) (nak ∷ [])

-- a number with no wire bytes
abbrev pub quietly : ℕ → Answer
quietly number = record { number = number; bytes = [] }

-- "Address 00, or the unit's tens figure followed by 0, reaches the unit; then no bytes are sent, NAK included, and 0 becomes 1":
-- the answer to a frame that is done, by whether its address is collective, and to one that is refused
unfoldable pub done_by : Bool → List ℕ → Answer
done_by quiet bytes = choose quiet (quietly done) (record { number = answered; bytes = bytes })

unfoldable pub refused_by : List ℕ → ℕ → Answer
refused_by f number = choose (collective f) (quietly number) (record { number = number; bytes = refusal_bytes f number })

-- what a frame that asks nothing is answered by
abbrev pub declined : List ℕ → Refusal → Answer
declined f (Silent number) = quietly number
declined f (Refused number) = refused_by f number

-- what a probe's reading is answered by: a temperature in tenths, or "fault (9)"
unfoldable pub probe_answer : List ℕ → Reading → Answer
probe_answer f (Temperature tenths) = done_by (collective f) (value_bytes f tenths.0)
probe_answer f Fault = refused_by f probe_fault

-- what a read is answered by: a register by its operational copy, a probe by its reading; ACTIVATE and STORE "read 0"
unfoldable pub read_answer : List ℕ → List ℕ → List ℕ → Named → Answer
read_answer words memory f (Register k) = done_by (collective f) (value_bytes f (get_or words (operational_at + k) 0))
read_answer words memory f (Probe channel) = probe_answer f (reading_of (get_or memory channel 0))
read_answer words memory f Activate = done_by (collective f) (value_bytes f 0)
read_answer words memory f Store = done_by (collective f) (value_bytes f 0)

-- ACTIVATE "copies buffer to operational", STORE "operational to saved"
unfoldable pub activated : List ℕ → List ℕ
activated words = put words operational_at (part words buffer_at operational_at)

unfoldable pub stored : List ℕ → List ℕ
stored words = put words saved_registers_at (part words operational_at saved_registers_at)

-- what a write makes of the words: "A write goes to the buffer"; ACTIVATE and STORE act on a value of 1
unfoldable pub written : List ℕ → Named → ℕ → List ℕ
written words (Register k) value = set words (buffer_at + k) value
written words (Probe channel) value = words
written words Activate value = choose (eqb value 0) words (activated words)
written words Store value = choose (eqb value 0) words (stored words)

-- what the card does with each order
unfoldable pub obeyed : List ℕ → List ℕ → List ℕ → Result Order Refusal → WordsReply
obeyed words memory f (Err refusal) = leaving words (declined f refusal)
obeyed words memory f (Ok (Read named)) = leaving words (read_answer words memory f named)
obeyed words memory f (Ok (Write named value)) = leaving (written words named value) (done_by (collective f) (ack ∷ []))

-- the unit's address
unfoldable pub address_of : List ℕ → ℕ
address_of words = get_or words lecom_address_at 0

-- the LECOM entry: 12, 11, then the order
unfoldable pub lecom_reply : Card → ℕ → List ℕ → Reply
lecom_reply card room f =
    shell room_least card room (on_words card (obeyed card.words card.memory f (asked (address_of card.words) f)))
