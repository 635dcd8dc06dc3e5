-- A request for the line master. Document 01, "Datalink", second half.
use Rattle.std.specs.Prelude.{ℕ, zero, suc, ◌+◌, ◌%◌, ◌/◌, ◌≡◌, Bool, true, ◌&&◌, List, ◌⊎◌, leb, eqb, length, get_or}
use Rattle.std.specs.Int.Bits.{bit_and, bit_or}
use Rattle.card.specs.Layout.{data_most}
use Rattle.card.specs.Fitness.{ia_most}
use Rattle.master.specs.declared.request.Kind.{Kind}
use Rattle.master.specs.declared.request.Kind.TheVariants.{Bytes, Bits}
use Rattle.master.specs.declared.request.Request.{Request as Passed}
use Rattle.master.specs.declared.request.Ask.{Ask as Lent}

-- what is asked: bytes, or masks and states
pub data Ask : Type 0 where
  bytes : List ℕ → Ask
  bits : List ℕ → List ℕ → Ask

-- the request: the unit's I.A., the first address, and what is asked
pub record Request : Type 0 where
  pub ia : ℕ
  pub address : ℕ
  pub ask : Ask

-- a request as it is passed: beside the struct, sent holds the bytes, or the masks; the states are looked at for bits alone
abbrev pub ask_of : Kind → List ℕ → List ℕ → Ask
ask_of Bytes sent states = bytes sent
ask_of Bits sent states = bits sent states

abbrev pub request_of : Passed → List ℕ → List ℕ → Request
request_of request sent states = record { ia = request.ia; address = request.address; ask = ask_of request.kind sent states }

-- the same of what is asked as it is lent
abbrev pub ask_in : Lent → Ask
ask_in lent = ask_of lent.kind lent.sent.now lent.states.now

abbrev pub request_in : ℕ → ℕ → Lent → Request
request_in ia address lent = record { ia = ia; address = address; ask = ask_in lent }

-- how many bytes are named
abbrev pub named_by : Ask → ℕ
named_by (bytes sent) = length sent
named_by (bits masks states) = length masks

-- "bytes exceed 32 (16 for bits)"
abbrev pub named_most : Ask → ℕ
named_most (bytes sent) = data_most
named_most (bits masks states) = data_most / 2

-- "masks and states differ in number"
abbrev pub paired : Ask → Bool
paired (bytes sent) = true
paired (bits masks states) = eqb (length masks) (length states)

-- "the address exceeds 65,535, or address plus bytes exceeds 65,536"
abbrev pub address_most : ℕ
address_most = 65535

abbrev pub address_end : ℕ
address_end = address_most + 1

-- a request that 7 does not refuse: "7 exactly if I.A. exceeds 31, bytes exceed 32 (16 for bits), masks and states differ in number, the address exceeds 65,535, or address plus bytes exceeds 65,536"
unfoldable pub askable : Request → Bool
askable q =
    leb q.ia ia_most
    && (leb (named_by q.ask) (named_most q.ask)
    && (paired q.ask
    && (leb q.address address_most && leb (q.address + named_by q.ask) address_end)))

-- "as asked is its data byte, or (old AND mask) OR state": byte i, where old was there
unfoldable pub as_asked : Ask → ℕ → ℕ → ℕ
as_asked (bytes sent) old i = get_or sent i 0
as_asked (bits masks states) old i = bit_or (bit_and old (get_or masks i 0)) (get_or states i 0)

-- bit b of a number, the least first
unfoldable pub bit_of : ℕ → ℕ → ℕ
bit_of x zero = x % 2
bit_of x (suc b) = bit_of (x / 2) b

-- "forced are the bits with mask 0 or state 1"
abbrev pub Forced : ℕ → ℕ → ℕ → Type 0
Forced mask state b = (bit_of mask b ≡ 0) ⊎ (bit_of state b ≡ 1)
