-- What LECOM's master may ask, and the frame that it makes. Document 02, M-102, with document 01, "LECOM".
-- Read: EOT, two figures, code, ENQ. Write: EOT, two figures, STX, code, shortest decimal, ETX, BCC.
use Rattle.std.specs.Prelude.{ℕ, ◌/◌, ◌%◌, Bool, ◌&&◌, ◌||◌, List, [], ◌∷◌, ◌++◌, leb, eqb}
use Rattle.wire.specs.Word.{minus}
use Rattle.figures.specs.Figure.{decimal, char_of, pair_of}
use Rattle.figures.specs.Signed.{text_of}
use Rattle.card.specs.Fitness.{in_span, register_most, lecom_most, lecom_right}
use Rattle.lecom.specs.Form.{stx, etx, eot, enq, named_by, known, writable, takes}
use Rattle.lecom.specs.Frame.{bcc_of}
use Rattle.lecom_master.specs.declared.request.Task.{Task}
use Rattle.lecom_master.specs.declared.request.Task.TheVariants.{Read, Write}
use Rattle.lecom_master.specs.declared.request.Request.{Request}

-- "Address 00, or the unit's tens figure followed by 0": 00, 10 .. 90
unfoldable pub is_collective : ℕ → Bool
is_collective address = leb address lecom_most && eqb (address % decimal) 0

-- a unit's address or a collective one
unfoldable pub address_right : ℕ → Bool
address_right address = lecom_right address || is_collective address

-- "the .. register .. or number lies outside document 01 or a probe is to be written"
unfoldable pub task_right : Task → Bool
task_right (Read code) = known (named_by code)
task_right (Write code value) =
    writable (named_by code) && (in_span (minus register_most) register_most value && takes (named_by code) value)

-- every other request is 7
unfoldable pub askable : Request → Bool
askable q = address_right q.address && task_right q.task

-- what the BCC goes over: code, shortest decimal, ETX. The standard code is the shorter one
unfoldable pub body : ℕ → ℕ → List ℕ
body code value = pair_of code ++ (text_of value ++ (etx ∷ []))

-- the same with its BCC
unfoldable pub checked : ℕ → ℕ → List ℕ
checked code value = body code value ++ (bcc_of (body code value) ∷ [])

-- what comes after the address figures
unfoldable pub task_bytes : Task → List ℕ
task_bytes (Read code) = pair_of code ++ (enq ∷ [])
task_bytes (Write code value) = stx ∷ checked code value

-- the frame of a request
unfoldable pub made : Request → List ℕ
made q = eot ∷ char_of (q.address / decimal) ∷ char_of (q.address % decimal) ∷ task_bytes q.task
