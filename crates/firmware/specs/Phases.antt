-- The line master's phase and a request's kind as numbers, for C: every number means a phase and a kind.
use Rattle.std.specs.Prelude.{ℕ, List, eqb, ltb}
use Rattle.wire.specs.Choose.{choose}
use Rattle.master.specs.Request.{Request, request_of}
use Rattle.master.specs.Step.{Move, step_of}
use Rattle.master.specs.declared.Phase.{Phase}
use Rattle.master.specs.declared.Phase.TheVariants.{New, Changing, Acknowledging, Reading, EndedDone, EndedUnknown}
use Rattle.master.specs.declared.Verdict.{Verdict}
use Rattle.master.specs.declared.Verdict.TheVariants.{Open, Done, Unknown}
use Rattle.master.specs.declared.request.Kind.{Kind}
use Rattle.master.specs.declared.request.Kind.TheVariants.{Bytes, Bits}

-- the number of a phase
abbrev pub code_of : Phase → ℕ
code_of New = 0
code_of Changing = 1
code_of Acknowledging = 2
code_of Reading = 3
code_of EndedDone = 4
code_of EndedUnknown = 5

-- the phase of a number; any other number is an end that is unknown
unfoldable pub phase_of : ℕ → Phase
phase_of code =
    choose (eqb code (code_of New)) New
    (choose (eqb code (code_of Changing)) Changing
    (choose (eqb code (code_of Acknowledging)) Acknowledging
    (choose (eqb code (code_of Reading)) Reading
    (choose (eqb code (code_of EndedDone)) EndedDone
    EndedUnknown))))

-- what include/nakshvilor.h says of a phase's number: NK_ENDED_DONE is done, a smaller one nothing yet, any other unknown
abbrev pub ended_done_in_c : ℕ
ended_done_in_c = 4

unfoldable pub says_in_c : ℕ → Verdict
says_in_c code = choose (ltb code ended_done_in_c) Open (choose (eqb code ended_done_in_c) Done Unknown)

-- the number of a kind
abbrev pub kind_code_of : Kind → ℕ
kind_code_of Bytes = 0
kind_code_of Bits = 1

-- the kind of a number: 0 asks for bytes, any other number for bits
unfoldable pub kind_of : ℕ → Kind
kind_of code = choose (eqb code (kind_code_of Bytes)) Bytes Bits

-- a request as C passes it: its kind is a number
abbrev pub request_in_c : ℕ → ℕ → ℕ → List ℕ → List ℕ → Request
request_in_c kind ia address sent states = request_of (record { kind = kind_of kind; ia = ia; address = address }) sent states

-- the step as C sees it: the master's state is the number of its phase
unfoldable pub step_in_c : Request → ℕ → List ℕ → ℕ → Move ℕ
step_in_c q code heard room =
    let m = step_of q (phase_of code) heard room in
    record { number = m.number; bytes = m.bytes; state = code_of m.state }
