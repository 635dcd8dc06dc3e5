-- Wrong entries to put to the claim, and what is computed of them: each is the entry of a card that is right but for one thing. Assumes nothing.
use Rattle.std.proofs.Common.{◌≡◌, ℕ, zero, suc, ◌≤◌, Bool, true, false, ◌&&◌, eqb, ltb, leb, List, [], ◌∷◌, get_or, Ok, refl, subst, arith, lit<, lit≤}
use Prim.{Unit, tt}
use Rattle.wire.proofs.Computed.{computed as wire-computed}
use Rattle.figures.proofs.Computed.{computed as figures-computed}
use Rattle.card.proofs.Computed.{computed as card-computed}
use Rattle.datalink.proofs.Computed.{computed as datalink-computed}
use Rattle.lecom.proofs.Computed.{computed as lecom_computed}
use Rattle.love.proofs.Computed.{computed as love_computed}
use Rattle.lucid.proofs.Computed.{computed as lucid_computed}
use Rattle.wire.specs.Choose.{choose}
use Rattle.wire.specs.Buffer.{same}
use Rattle.card.specs.Layout.{Card, card_of}
use Rattle.card.specs.Fitness.{fit}
use Rattle.card.specs.Reply.{Reply, sent, shell, room_least}
use Rattle.card.specs.Start.{start_card}
use Rattle.lecom.specs.Frame.{collective}
use Rattle.lecom.specs.declared.form.Named.TheVariants.{Register, Probe as LecomProbe}
use Rattle.lecom.specs.declared.frame.Order.TheVariants.{Read as LecomRead}
use Rattle.love.specs.declared.frame.Order.TheVariants.{Probe, Read as LoveRead}
use Rattle.faults.specs.Dialects.{LecomAsks, LoveAsks, LucidAsks, OthersWork, DatalinkAsks}
use Rattle.faults.specs.NoTemperature.{Entries, NoTemperature, Failed}

-- to unfold this is to unfold what a wrong entry's reply is computed by
unfoldable pub computed : Unit {0}
unfolding wire-computed card-computed
computed = tt

-- a card with this entry, whatever its other entries are, breaks the claim
abbrev pub Refuted : {E : Type 0} → (Entries → E) → E → Type 0
Refuted entry e = (b : Entries) → entry b ≡ e → NoTemperature b → ⊥

-- it does, where what the claim says of the entry does not hold
pub refuted : {E : Type 0} (entry : Entries → E) (P : E → Type 0) → ((b : Entries) → NoTemperature b → P (entry b)) → {e : E} → (P e → ⊥) → Refuted entry e
refuted entry P owes broken b is n = broken (subst P is (owes b n))

abbrev pub Entry : Type 0
Entry = Card → ℕ → List ℕ → Reply

abbrev pub first_code : Card → ℕ
first_code card = get_or card.memory 0 0

-- an entry with another answer to an unfit card, and to a short buffer
abbrev pub unfit_as : ℕ → List ℕ → Entry → Entry
unfit_as number bytes entry card room f = choose (fit card) (entry card room f) (sent number bytes card)

abbrev pub short_as : ℕ → List ℕ → Entry → Entry
short_as number bytes entry card room f = choose (leb room_least room) (entry card room f) (sent number bytes card)

-- one with another answer to a single frame, where the code of probe 0 passes a test; number and bytes may tell the code
abbrev pub instead : List ℕ → (ℕ → Bool) → (ℕ → ℕ) → (ℕ → List ℕ) → Entry → Entry
instead frame test number bytes entry card room f =
    choose (same f frame && test (first_code card)) (shell room_least card room (sent (number (first_code card)) (bytes (first_code card)) card)) (entry card room f)

-- the tests: the probe has failed, it is warm, any code
abbrev pub at_fault : ℕ → Bool
at_fault code = eqb code 255

abbrev pub warm : ℕ → Bool
warm code = ltb code 255

abbrev pub always : ℕ → Bool
always code = true

-- a card that is not fit; and the one of the checked examples, whose probes have failed
abbrev pub no_tables : Card
no_tables = card_of [] [] []

pub start_failed : Failed start_card 0
start_failed = record { inside = lit< tt; code = refl }

-- LECOM: a read of probe 0, of probe 0 by all units, and of register 00
abbrev pub lecom_probe : List ℕ
lecom_probe = 0x04 ∷ 0x31 ∷ 0x31 ∷ 0x36 ∷ 0x30 ∷ 0x05 ∷ []

abbrev pub lecom_probe_of_all : List ℕ
lecom_probe_of_all = 0x04 ∷ 0x30 ∷ 0x30 ∷ 0x36 ∷ 0x30 ∷ 0x05 ∷ []

abbrev pub lecom_register : List ℕ
lecom_register = 0x04 ∷ 0x31 ∷ 0x31 ∷ 0x30 ∷ 0x30 ∷ 0x05 ∷ []

pub lecom_asks : LecomAsks start_card lecom_probe 0
unfolding wire-computed figures-computed lecom_computed
lecom_asks = refl

pub lecom_asks_all : LecomAsks start_card lecom_probe_of_all 0
unfolding wire-computed figures-computed lecom_computed
lecom_asks_all = refl

pub lecom_single : collective lecom_probe ≡ false
unfolding wire-computed figures-computed lecom_computed
lecom_single = refl

pub lecom_of_all : collective lecom_probe_of_all ≡ true
unfolding wire-computed figures-computed lecom_computed
lecom_of_all = refl

pub lecom_other : LecomAsks start_card lecom_register 0 → ⊥
unfolding wire-computed figures-computed lecom_computed
lecom_other asks = let z : Ok (LecomRead (Register 0)) ≡ Ok (LecomRead (LecomProbe 0)) = asks in let y : ◌≡◌ {A = ℕ} 0 1 = cc in omega (arith, y)

-- Love: 00, and 0100
abbrev pub love_probe : List ℕ
love_probe = 0x02 ∷ 0x4C ∷ 0x33 ∷ 0x32 ∷ 0x30 ∷ 0x30 ∷ 0x43 ∷ 0x35 ∷ 0x03 ∷ []

abbrev pub love_set_point : List ℕ
love_set_point = 0x02 ∷ 0x4C ∷ 0x33 ∷ 0x32 ∷ 0x30 ∷ 0x31 ∷ 0x30 ∷ 0x30 ∷ 0x32 ∷ 0x36 ∷ 0x03 ∷ []

pub love_asks_law : LoveAsks start_card love_probe 0
unfolding wire-computed figures-computed love_computed
love_asks_law = record { order = refl; first = refl }

pub love_other : LoveAsks start_card love_set_point 0 → ⊥
unfolding wire-computed figures-computed love_computed
love_other asks = let z : Ok (LoveRead 0) ≡ Ok Probe = asks.order in let y : ◌≡◌ {A = ℕ} 0 1 = cc in omega (arith, y)

-- LucidControl: the probe and the demand of channel 0
abbrev pub lucid_probe : List ℕ
lucid_probe = 0x46 ∷ 0x00 ∷ 0x40 ∷ 0x00 ∷ []

abbrev pub lucid_demand : List ℕ
lucid_demand = 0x46 ∷ 0x00 ∷ 0x10 ∷ 0x00 ∷ []

-- the probes of channels 0 and 1
abbrev pub lucid_group : List ℕ
lucid_group = 0x48 ∷ 0x03 ∷ 0x40 ∷ 0x00 ∷ []

pub lucid_asks : LucidAsks start_card lucid_probe 0
unfolding wire-computed lucid_computed
lucid_asks = refl

pub lucid_asks_second : LucidAsks start_card lucid_group 1
unfolding wire-computed lucid_computed
lucid_asks_second = refl

pub lucid_alone : OthersWork start_card lucid_probe 0
unfolding wire-computed lucid_computed
lucid_alone zero h asks n = absurd (n refl)
lucid_alone (suc zero) h asks n = let z : false ≡ true = asks in let y : ◌≡◌ {A = ℕ} 0 1 = cc in absurd (omega (arith, y))
lucid_alone (suc (suc zero)) h asks n = let z : false ≡ true = asks in let y : ◌≡◌ {A = ℕ} 0 1 = cc in absurd (omega (arith, y))
lucid_alone (suc (suc (suc zero))) h asks n = let z : false ≡ true = asks in let y : ◌≡◌ {A = ℕ} 0 1 = cc in absurd (omega (arith, y))
lucid_alone (suc (suc (suc (suc k)))) h asks n = let y : ⊥ = omega (arith, h) in absurd y

pub lucid_other : LucidAsks start_card lucid_demand 0 → ⊥
unfolding wire-computed lucid_computed
lucid_other asks = let z : false ≡ true = asks in let y : ◌≡◌ {A = ℕ} 0 1 = cc in omega (arith, y)

-- Datalink: an Interrogate of 1000h, and of 1010h
abbrev pub datalink_probe : List ℕ
datalink_probe = 0x7E ∷ 0xE3 ∷ 0x01 ∷ 0x00 ∷ 0x10 ∷ 0xF4 ∷ []

abbrev pub datalink_byte : List ℕ
datalink_byte = 0x7E ∷ 0xE3 ∷ 0x01 ∷ 0x10 ∷ 0x10 ∷ 0x04 ∷ []

pub datalink_asks : DatalinkAsks start_card datalink_probe 0
unfolding wire-computed card-computed datalink-computed
datalink_asks = record { order = refl; from = lit≤ tt; to = lit< tt }

pub datalink_other : DatalinkAsks start_card datalink_byte 0 → ⊥
unfolding wire-computed card-computed datalink-computed
datalink_other asks = let z : 0x1010 ≤ 0x1000 = asks.from in omega (arith, z)
