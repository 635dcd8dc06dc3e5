-- The form of a LECOM frame: its lengths, characters, places and sizes, and what a code names. Document 01, "LECOM", with source document 001.
-- Read: EOT, two figures, code, ENQ. Write: EOT, two figures, STX, code, 1 to 12 data characters, ETX, BCC.
use Rattle.std.specs.Prelude.{ℕ, ◌-◌, Bool, true, false, ◌&&◌, ◌||◌, Option, Some, None, leb, eqb}
use Rattle.wire.specs.Choose.{choose}
use Rattle.wire.specs.Length.{between}
use Rattle.lecom.specs.declared.form.Named.{Named}
use Rattle.lecom.specs.declared.form.Named.TheVariants.{Register, Probe, Activate, Store}

-- "LECOM 6 and 25": the shortest and the longest frame
abbrev pub shortest : ℕ
shortest = 6

abbrev pub longest : ℕ
longest = 25

abbrev pub length_right : ℕ → Bool
length_right n = between shortest longest n

-- control characters (source document 001, section 7)
abbrev pub stx : ℕ
stx = 0x02

abbrev pub etx : ℕ
etx = 0x03

abbrev pub eot : ℕ
eot = 0x04

abbrev pub enq : ℕ
enq = 0x05

abbrev pub ack : ℕ
ack = 0x06

abbrev pub nak : ℕ
nak = 0x15

-- "!", before an extended code's six characters
abbrev pub extended_mark : ℕ
extended_mark = 0x21

-- the places of the two address figures, and of a write's STX, where a read's code begins
abbrev pub tens_at : ℕ
tens_at = 1

abbrev pub ones_at : ℕ
ones_at = 2

abbrev pub start_at : ℕ
start_at = 3

-- "A code is two upper-case hex characters, or "!" and six of them"
abbrev pub standard_hex : ℕ
standard_hex = 2

abbrev pub extended_hex : ℕ
extended_hex = 6

-- in an extended code's hex characters the place of the standard code, and of the subcode, "the last two"
abbrev pub standard_at : ℕ
standard_at = 2

abbrev pub subcode_at : ℕ
subcode_at = 4

-- "1 to 12 data characters"
abbrev pub data_least : ℕ
data_least = 1

abbrev pub data_most : ℕ
data_most = 12

-- how many bytes come after the data: ETX and BCC
abbrev pub closing : ℕ
closing = 2

-- "LECOM registers 00h to 5Fh"
abbrev pub last_register : ℕ
last_register = 0x5F

-- "Codes 60h to 63h are the probes in tenths"
abbrev pub first_probe : ℕ
first_probe = 0x60

abbrev pub last_probe : ℕ
last_probe = 0x63

-- "67h is ACTIVATE, 68h is STORE"
abbrev pub activate : ℕ
activate = 0x67

abbrev pub store : ℕ
store = 0x68

-- what a code names, from its number: a register, a channel's probe, ACTIVATE, STORE or nothing. All else of a code rests on this
unfoldable pub named_by : ℕ → Option Named
named_by code =
    choose (leb code last_register) (Some (Register code))
    (choose (leb first_probe code && leb code last_probe) (Some (Probe (code - first_probe)))
    (choose (eqb code activate) (Some Activate)
    (choose (eqb code store) (Some Store)
    None)))

-- it names something
abbrev pub known : Option Named → Bool
known (Some named) = true
known None = false

-- a probe is "read-only"
abbrev pub writable : Option Named → Bool
writable (Some (Register k)) = true
writable (Some (Probe channel)) = false
writable (Some Activate) = true
writable (Some Store) = true
writable None = false

-- "67h and 68h take a data value of 0 or 1", all else every value
abbrev pub free : Option Named → Bool
free (Some (Register k)) = true
free (Some (Probe channel)) = true
free (Some Activate) = false
free (Some Store) = false
free None = true

abbrev pub takes : Option Named → ℕ → Bool
takes named value = free named || leb value 1
