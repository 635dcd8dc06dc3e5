-- The claim says something: for each of its fields, and each part of a field, a wrong card or master that breaks it. Assumes nothing.
use Rattle.std.proofs.Common.{◌≡◌, ℕ, true, false, eqb, List, [], ◌∷◌, length, get_or, Float, sym, refl, ap, ◌∙◌, arith, lit<, lit≤}
use Prim.{tt}
use Rattle.wire.specs.Choose.{choose}
use Rattle.wire.specs.Buffer.{same}
use Rattle.figures.specs.Figure.{pair_of}
use Rattle.card.specs.Layout.{Card}
use Rattle.card.specs.Fitness.{fit}
use Rattle.card.specs.Probe.{reading_of}
use Rattle.card.specs.Entries.{with_code}
use Rattle.card.specs.Governor.{told_of, governor_of, number_of}
use Rattle.card.specs.Reply.{Reply, SameAnswer, silent, sent}
use Rattle.card.specs.Start.{start_card}
use Rattle.card.specs.declared.governor.Governor.{Governor}
use Rattle.card.specs.declared.governor.Governor.TheVariants.{Degrees, Fault, Refused}
use Rattle.lecom.specs.Answer.{lecom_reply}
use Rattle.love.specs.Answer.{love_reply}
use Rattle.lucid.specs.Answer.{lucid_reply}
use Rattle.datalink.specs.Frame.{address_in}
use Rattle.datalink.specs.Answer.{datalink_reply}
use Rattle.receive.specs.declared.Dialect.{Dialect}
use Rattle.receive.specs.declared.Dialect.TheVariants.{Datalink}
use Rattle.asking.specs.Hearing.Hearing.{Gives, Fault as HeardFault, Refused as HeardRefused}
use Rattle.asking.proofs.Cards.{start_real}
use Rattle.lecom_master.specs.Request.{made as lecomMade}
use Rattle.lecom_master.specs.Heard.{heard as lecomHeard}
use Rattle.lecom_master.specs.declared.request.Task.TheVariants.{Read as LecomRead}
use Rattle.lecom_master.specs.declared.request.Request.{Request as LecomRequest}
use Rattle.love_master.specs.Request.{made as loveMade}
use Rattle.love_master.specs.Heard.{heard as loveHeard}
use Rattle.love_master.specs.declared.request.Task.{Task as LoveTask}
use Rattle.love_master.specs.declared.request.Task.TheVariants.{Status, Read as LoveRead}
use Rattle.love_master.specs.declared.request.Request.{Request as LoveRequest}
use Rattle.lucid_master.specs.Request.{Asking, asking_of, made as lucidMade}
use Rattle.lucid_master.specs.Heard.{heard as lucidHeard}
use Rattle.lucid_master.specs.declared.request.Command.TheVariants.{GetIo}
use Rattle.masters.specs.Speaking.{Master}
use Rattle.masters.proofs.Computed.{lecom_computed, love_computed, lucid_computed, askable_by}
use Rattle.faults.specs.Dialects.{LecomFault, LecomApart, LoveFault, LucidFault, LucidApart, DatalinkFault, OtherBytes, LoveRequests, asks_channel, LucidRequests}
use Rattle.faults.specs.NoTemperature.{Failed, GovernorOwes, Owes, Unasked, LecomOwes, LoveOwes, LucidOwes, DatalinkOwes, LecomMasterOwes, LoveMasterOwes, LucidMasterOwes}
use Rattle.faults.proofs.Failed.{no_temperature}
use Rattle.faults.proofs.Wrong.{computed, Refuted, refuted, Entry, first_code, unfit_as, short_as, instead, at_fault, warm, always, no_tables, start_failed, lecom_probe, lecom_probe_of_all, lecom_register, lecom_asks, lecom_asks_all, lecom_single, lecom_of_all, lecom_other, love_probe, love_set_point, love_asks_law, love_other, lucid_probe, lucid_demand, lucid_group, lucid_asks, lucid_asks_second, lucid_alone, lucid_other, datalink_probe, datalink_byte, datalink_asks, datalink_other}

-- of any dialect

module _ {Asks : Card → List ℕ → ℕ → Type 0} {IsFault : Card → List ℕ → ℕ → Reply → Type 0} {Apart : Card → List ℕ → ℕ → Reply → Reply → Type 0} (entry : Entry) where
  -- an unfit card told as a failed probe; and 12 with a byte
  refute_unfit_number : Owes (unfit_as 9 [] entry) Asks IsFault Apart → ⊥
  unfolding computed
  refute_unfit_number h = let z : ◌≡◌ {A = ℕ} 9 12 = (h.unfit no_tables 38 [] refl).number in omega (arith, z)

  refute_unfit_bytes : Owes (unfit_as 12 (0x15 ∷ []) entry) Asks IsFault Apart → ⊥
  unfolding computed
  refute_unfit_bytes h = let z : ◌≡◌ {A = ℕ} 1 0 = ap length (h.unfit no_tables 38 [] refl).bytes in omega (arith, z)

  -- a short buffer told as a failed probe; and 11 with a byte
  refute_short_number : Owes (short_as 9 [] entry) Asks IsFault Apart → ⊥
  unfolding computed
  refute_short_number h = let z : ◌≡◌ {A = ℕ} 9 11 = (h.short start_card 37 [] refl (lit< tt)).number in omega (arith, z)

  refute_short_bytes : Owes (short_as 11 (0x15 ∷ []) entry) Asks IsFault Apart → ⊥
  unfolding computed
  refute_short_bytes h = let z : ◌≡◌ {A = ℕ} 1 0 = ap length (h.short start_card 37 [] refl (lit< tt)).bytes in omega (arith, z)

-- what is wrong with a card whose answer to a frame that asks for no probe is, or holds, the code of probe 0
abbrev number_told : List ℕ → Entry → Entry
number_told f = instead f always (λ code. code) (λ code. [])

abbrev byte_told : List ℕ → Entry → Entry
byte_told f = instead f always (λ code. 0) (λ code. code ∷ [])

-- the start card with 5 °C in channel 0
abbrev warm_card : Card
warm_card = with_code start_card 0 90

code_told : {A : Type 0} → ◌≡◌ {A = ℕ} 255 90 → A
code_told z = let y : ⊥ = omega (arith, z) in absurd y

-- LECOM

lecom_refuted : {e : Entry} → (LecomOwes e → ⊥) → Refuted (λ b. b.lecom) e
lecom_refuted = refuted (λ b. b.lecom) LecomOwes (λ b n. n.lecom)

lecom_fault : {e : Entry} → LecomOwes e → LecomFault lecom_probe (e start_card 38 lecom_probe)
unfolding computed
lecom_fault h = h.fault start_card 0 38 lecom_probe refl (lit≤ tt) start_failed lecom_asks

lecom_apart : {e : Entry} → LecomOwes e → LecomApart lecom_probe (e start_card 38 lecom_probe) (e warm_card 38 lecom_probe)
unfolding computed
lecom_apart h = h.apart start_card 0 90 38 lecom_probe refl (lit≤ tt) start_failed lecom_asks (lit< tt)

lecom_same : {e : Entry} → LecomOwes e → SameAnswer (e start_card 38 lecom_register) (e warm_card 38 lecom_register)
lecom_same h = h.same start_card 0 90 38 lecom_register (lit< tt) lecom_other

-- "255 widened with a sign": a failed probe answered by the text -1
abbrev lecom_minus_one : Entry
lecom_minus_one = instead lecom_probe at_fault (λ code. 0) (λ code. 0x02 ∷ 0x36 ∷ 0x30 ∷ 0x2D ∷ 0x31 ∷ 0x03 ∷ 0x19 ∷ []) lecom_reply

refute_lecom_minus_one : Refuted (λ b. b.lecom) lecom_minus_one
unfolding computed
refute_lecom_minus_one = lecom_refuted (λ h. let z : ◌≡◌ {A = ℕ} 0x02 0x15 = ap (λ (s : List ℕ). get_or s 0 0) ((lecom_fault h).bytes lecom_single) in omega (arith, z))

-- by the text 875, which is 5 × 255 − 400
abbrev lecom_as_text : Entry
lecom_as_text = instead lecom_probe at_fault (λ code. 0) (λ code. 0x02 ∷ 0x36 ∷ 0x30 ∷ 0x38 ∷ 0x37 ∷ 0x35 ∷ 0x03 ∷ 0x3F ∷ []) lecom_reply

refute_lecom_as_text : Refuted (λ b. b.lecom) lecom_as_text
unfolding computed
refute_lecom_as_text = lecom_refuted (λ h. let z : ◌≡◌ {A = ℕ} 0 9 = (lecom_fault h).number in omega (arith, z))

-- by NAK, and told as answered
abbrev lecom_nak_answered : Entry
lecom_nak_answered = instead lecom_probe at_fault (λ code. 0) (λ code. 0x15 ∷ []) lecom_reply

refute_lecom_nak_answered : Refuted (λ b. b.lecom) lecom_nak_answered
unfolding computed
refute_lecom_nak_answered = lecom_refuted (λ h. let z : ◌≡◌ {A = ℕ} 0 9 = (lecom_fault h).number in omega (arith, z))

-- by NAK to a collective address
abbrev lecom_nak_to_all : Entry
lecom_nak_to_all = instead lecom_probe_of_all at_fault (λ code. 9) (λ code. 0x15 ∷ []) lecom_reply

refute_lecom_nak_to_all : Refuted (λ b. b.lecom) lecom_nak_to_all
unfolding computed
refute_lecom_nak_to_all =
    lecom_refuted (λ h. let z : ◌≡◌ {A = ℕ} 1 0 = ap length ((h.fault start_card 0 38 lecom_probe_of_all refl (lit≤ tt) start_failed lecom_asks_all).none lecom_of_all) in omega (arith, z))

-- every code answered by the fault reply: never a temperature, and never anything else
refute_lecom_always_fault : Refuted (λ b. b.lecom) (instead lecom_probe always (λ code. 9) (λ code. 0x15 ∷ []) lecom_reply)
unfolding computed
refute_lecom_always_fault = lecom_refuted (λ h. (lecom_apart h).number refl)

-- a temperature answered by NAK, and told as answered
refute_lecom_warm_nak : Refuted (λ b. b.lecom) (instead lecom_probe warm (λ code. 0) (λ code. 0x15 ∷ []) lecom_reply)
unfolding computed
refute_lecom_warm_nak = lecom_refuted (λ h. (lecom_apart h).bytes lecom_single ((lecom_fault h).bytes lecom_single))

-- register 00 read by a number or a byte that tells the code
refute_lecom_number_told : Refuted (λ b. b.lecom) (number_told lecom_register lecom_reply)
unfolding computed
refute_lecom_number_told = lecom_refuted (λ h. code_told (lecom_same h).number)

refute_lecom_byte_told : Refuted (λ b. b.lecom) (byte_told lecom_register lecom_reply)
unfolding computed
refute_lecom_byte_told = lecom_refuted (λ h. code_told (ap (λ (s : List ℕ). get_or s 0 0) (lecom_same h).bytes))

-- Love

love_refuted : {e : Entry} → (LoveOwes e → ⊥) → Refuted (λ b. b.love) e
love_refuted = refuted (λ b. b.love) LoveOwes (λ b n. n.love)

love_fault : {e : Entry} → LoveOwes e → LoveFault start_card (e start_card 38 love_probe)
unfolding computed
love_fault h = h.fault start_card 0 38 love_probe refl (lit≤ tt) start_failed love_asks_law

love_apart : {e : Entry} → LoveOwes e → OtherBytes (e start_card 38 love_probe) (e warm_card 38 love_probe)
unfolding computed
love_apart h = h.apart start_card 0 90 38 love_probe refl (lit≤ tt) start_failed love_asks_law (lit< tt)

love_same : {e : Entry} → LoveOwes e → SameAnswer (e start_card 38 love_set_point) (e warm_card 38 love_set_point)
love_same h = h.same start_card 0 90 38 love_set_point (lit< tt) love_other

-- a failed probe answered as 20 °C: C0000200
abbrev love_twenty : Entry
love_twenty = instead love_probe at_fault (λ code. 0) (λ code. 0x02 ∷ 0x4C ∷ 0x33 ∷ 0x32 ∷ 0x43 ∷ 0x30 ∷ 0x30 ∷ 0x30 ∷ 0x30 ∷ 0x32 ∷ 0x30 ∷ 0x30 ∷ 0x34 ∷ 0x36 ∷ 0x06 ∷ []) love_reply

refute_love_twenty : Refuted (λ b. b.love) love_twenty
unfolding computed pair_of
refute_love_twenty = love_refuted (λ h. let z : ◌≡◌ {A = ℕ} 0x43 0x44 = ap (λ (s : List ℕ). get_or s 4 0) (love_fault h).bytes in omega (arith, z))

-- D0000000, the fault reply
abbrev love_d : List ℕ
love_d = 0x02 ∷ 0x4C ∷ 0x33 ∷ 0x32 ∷ 0x44 ∷ 0x30 ∷ 0x30 ∷ 0x30 ∷ 0x30 ∷ 0x30 ∷ 0x30 ∷ 0x30 ∷ 0x34 ∷ 0x35 ∷ 0x06 ∷ []

-- with number 9
refute_love_refused : Refuted (λ b. b.love) (instead love_probe at_fault (λ code. 9) (λ code. love_d) love_reply)
unfolding computed
refute_love_refused = love_refuted (λ h. let z : ◌≡◌ {A = ℕ} 9 0 = (love_fault h).number in omega (arith, z))

-- for every code
refute_love_always_fault : Refuted (λ b. b.love) (instead love_probe always (λ code. 0) (λ code. love_d) love_reply)
unfolding computed
refute_love_always_fault = love_refuted (λ h. love_apart h refl)

-- SP1 read by a number or a byte that tells the code
refute_love_number_told : Refuted (λ b. b.love) (number_told love_set_point love_reply)
unfolding computed
refute_love_number_told = love_refuted (λ h. code_told (love_same h).number)

refute_love_byte_told : Refuted (λ b. b.love) (byte_told love_set_point love_reply)
unfolding computed
refute_love_byte_told = love_refuted (λ h. code_told (ap (λ (s : List ℕ). get_or s 0 0) (love_same h).bytes))

-- LucidControl

lucid_refuted : {e : Entry} → (LucidOwes e → ⊥) → Refuted (λ b. b.lucid) e
lucid_refuted = refuted (λ b. b.lucid) LucidOwes (λ b n. n.lucid)

lucid_fault : {e : Entry} → LucidOwes e → LucidFault (e start_card 38 lucid_probe)
unfolding computed
lucid_fault h = h.fault start_card 0 38 lucid_probe refl (lit≤ tt) start_failed lucid_asks

lucid_apart : {e : Entry} → LucidOwes e → LucidApart start_card lucid_probe 0 (e start_card 38 lucid_probe) (e warm_card 38 lucid_probe)
unfolding computed
lucid_apart h = h.apart start_card 0 90 38 lucid_probe refl (lit≤ tt) start_failed lucid_asks (lit< tt)

lucid_same : {e : Entry} → LucidOwes e → SameAnswer (e start_card 38 lucid_demand) (e warm_card 38 lucid_demand)
lucid_same h = h.same start_card 0 90 38 lucid_demand (lit< tt) lucid_other

-- "255 widened with a sign": a failed probe answered as FF FF
abbrev lucid_minus_one : Entry
lucid_minus_one = instead lucid_probe at_fault (λ code. 0) (λ code. 0x00 ∷ 0x02 ∷ 0xFF ∷ 0xFF ∷ []) lucid_reply

refute_lucid_minus_one : Refuted (λ b. b.lucid) lucid_minus_one
unfolding computed
refute_lucid_minus_one = lucid_refuted (λ h. let z : ◌≡◌ {A = ℕ} 0x00 0xD0 = ap (λ (s : List ℕ). get_or s 0 0) (lucid_fault h).bytes in omega (arith, z))

-- D0h told as answered
refute_lucid_answered : Refuted (λ b. b.lucid) (instead lucid_probe at_fault (λ code. 0) (λ code. 0xD0 ∷ 0x00 ∷ []) lucid_reply)
unfolding computed
refute_lucid_answered = lucid_refuted (λ h. let z : ◌≡◌ {A = ℕ} 0 9 = (lucid_fault h).number in omega (arith, z))

-- for every code
refute_lucid_always_fault : Refuted (λ b. b.lucid) (instead lucid_probe always (λ code. 9) (λ code. 0xD0 ∷ 0x00 ∷ []) lucid_reply)
unfolding computed
refute_lucid_always_fault = lucid_refuted (λ h. (lucid_apart h).number lucid_alone refl)

-- a temperature answered by D0h, and told as answered
refute_lucid_warm_fault : Refuted (λ b. b.lucid) (instead lucid_probe warm (λ code. 0) (λ code. 0xD0 ∷ 0x00 ∷ []) lucid_reply)
unfolding computed
refute_lucid_warm_fault = lucid_refuted (λ h. (lucid_apart h).bytes lucid_alone (lucid_fault h).bytes)

-- the demand of channel 0 read by a number or a byte that tells the code
refute_lucid_number_told : Refuted (λ b. b.lucid) (number_told lucid_demand lucid_reply)
unfolding computed
refute_lucid_number_told = lucid_refuted (λ h. code_told (lucid_same h).number)

refute_lucid_byte_told : Refuted (λ b. b.lucid) (byte_told lucid_demand lucid_reply)
unfolding computed
refute_lucid_byte_told = lucid_refuted (λ h. code_told (ap (λ (s : List ℕ). get_or s 0 0) (lucid_same h).bytes))

-- no more can be asked of a group: with another of its probes at fault, a temperature in the first is answered by the fault reply too
two_failed : SameAnswer (lucid_reply start_card 38 lucid_group) (lucid_reply warm_card 38 lucid_group)
unfolding computed
two_failed =
    let second : Failed warm_card 1 = record { inside = lit< tt; code = refl } in
    let a = no_temperature.lucid.fault start_card 1 38 lucid_group refl (lit≤ tt) (record { inside = lit< tt; code = refl }) lucid_asks_second in
    let b = no_temperature.lucid.fault warm_card 1 38 lucid_group refl (lit≤ tt) second lucid_asks_second in
    record { number = a.number ∙ sym b.number; bytes = a.bytes ∙ sym b.bytes }

-- Datalink

datalink_refuted : {e : Entry} → (DatalinkOwes e → ⊥) → Refuted (λ b. b.datalink) e
datalink_refuted = refuted (λ b. b.datalink) DatalinkOwes (λ b n. n.datalink)

datalink_fault : {e : Entry} → DatalinkOwes e → DatalinkFault datalink_probe 0 (e start_card 38 datalink_probe)
unfolding computed
datalink_fault h = h.fault start_card 0 38 datalink_probe refl (lit≤ tt) start_failed datalink_asks

datalink_apart : {e : Entry} → DatalinkOwes e → OtherBytes (e start_card 38 datalink_probe) (e warm_card 38 datalink_probe)
unfolding computed
datalink_apart h = h.apart start_card 0 90 38 datalink_probe refl (lit≤ tt) start_failed datalink_asks (lit< tt)

datalink_same : {e : Entry} → DatalinkOwes e → SameAnswer (e start_card 38 datalink_byte) (e warm_card 38 datalink_byte)
datalink_same h = h.same start_card 0 90 38 datalink_byte (lit< tt) datalink_other

-- 255 hidden: shown as 0
abbrev datalink_hidden : Entry
datalink_hidden = instead datalink_probe at_fault (λ code. 0) (λ code. 0x7E ∷ 0x23 ∷ 0x01 ∷ 0x00 ∷ 0x10 ∷ 0x00 ∷ 0x34 ∷ []) datalink_reply

refute_datalink_hidden : Refuted (λ b. b.datalink) datalink_hidden
unfolding computed address_in
refute_datalink_hidden = datalink_refuted (λ h. let z : ◌≡◌ {A = ℕ} 0 255 = (datalink_fault h).byte in omega (arith, z))

-- 255 shown
abbrev shown255 : List ℕ
shown255 = 0x7E ∷ 0x23 ∷ 0x01 ∷ 0x00 ∷ 0x10 ∷ 0xFF ∷ 0x33 ∷ []

-- with number 9
refute_datalink_refused : Refuted (λ b. b.datalink) (instead datalink_probe at_fault (λ code. 9) (λ code. shown255) datalink_reply)
unfolding computed
refute_datalink_refused = datalink_refuted (λ h. let z : ◌≡◌ {A = ℕ} 9 0 = (datalink_fault h).number in omega (arith, z))

-- for every code
refute_datalink_always_255 : Refuted (λ b. b.datalink) (instead datalink_probe always (λ code. 0) (λ code. shown255) datalink_reply)
unfolding computed
refute_datalink_always_255 = datalink_refuted (λ h. datalink_apart h refl)

-- 1010h read by a number or a byte that tells the code
refute_datalink_number_told : Refuted (λ b. b.datalink) (number_told datalink_byte datalink_reply)
unfolding computed
refute_datalink_number_told = datalink_refuted (λ h. code_told (datalink_same h).number)

refute_datalink_byte_told : Refuted (λ b. b.datalink) (byte_told datalink_byte datalink_reply)
unfolding computed
refute_datalink_byte_told = datalink_refuted (λ h. code_told (ap (λ (s : List ℕ). get_or s 0 0) (datalink_same h).bytes))

-- the governor

governor_refuted : {e : Card → ℕ → Governor} → (GovernorOwes e → ⊥) → Refuted (λ b. b.governor) e
governor_refuted = refuted (λ b. b.governor) GovernorOwes (λ b n. n.governor)

-- an unfit card told as a failed probe
abbrev unfit_as_fault : Card → ℕ → Governor
unfit_as_fault card channel = choose (fit card) (governor_of card channel) Fault

refute_governor_unfit : Refuted (λ b. b.governor) unfit_as_fault
unfolding computed
refute_governor_unfit = governor_refuted (λ h. let z : ◌≡◌ {A = ℕ} 9 12 = (h.unfit no_tables 0 refl).number in omega (arith, z))

refute_governor_unfit_word : Refuted (λ b. b.governor) unfit_as_fault
unfolding computed
refute_governor_unfit_word = governor_refuted (λ h. let z : Fault ≡ Refused 12 = (h.unfit no_tables 0 refl).word in let y : ◌≡◌ {A = ℕ} 0 1 = cc in omega (arith, y))

-- an unfit card told as degrees, whatever they are
abbrev unfit_as_degrees : Float → Card → ℕ → Governor
unfit_as_degrees d card channel = choose (fit card) (governor_of card channel) (Degrees d)

refute_governor_unfit_values : (d : Float) → Refuted (λ b. b.governor) (unfit_as_degrees d)
unfolding computed
refute_governor_unfit_values d = governor_refuted (λ h. let z : ◌≡◌ {A = ℕ} 1 0 = ap length (h.unfit no_tables 0 refl).values in omega (arith, z))

-- a failed probe told as degrees, whatever they are: 87.5, which is half of 255 less 40, or −40.5, which is half of −1 less 40
abbrev tells_degrees : Float → Card → ℕ → Governor
tells_degrees d card channel = choose (eqb (get_or card.memory channel 0) 255) (Degrees d) (governor_of card channel)

refute_governor_degrees : (d : Float) → Refuted (λ b. b.governor) (tells_degrees d)
unfolding computed
refute_governor_degrees d = governor_refuted (λ h. let z : ◌≡◌ {A = ℕ} 0 9 = (h.fault start_card 0 refl start_failed).number in omega (arith, z))

refute_governor_value : (d : Float) → Refuted (λ b. b.governor) (tells_degrees d)
unfolding computed
refute_governor_value d = governor_refuted (λ h. let z : ◌≡◌ {A = ℕ} 1 0 = ap length (h.fault start_card 0 refl start_failed).values in omega (arith, z))

-- the word refused with number 9: number and values are right, the word is not
abbrev refuses_fault : Card → ℕ → Governor
refuses_fault card channel = choose (eqb (get_or card.memory channel 0) 255) (Refused 9) (governor_of card channel)

refute_governor_word : Refuted (λ b. b.governor) refuses_fault
unfolding computed
refute_governor_word = governor_refuted (λ h. let z : Refused 9 ≡ Fault = (h.fault start_card 0 refl start_failed).word in let y : ◌≡◌ {A = ℕ} 0 1 = cc in omega (arith, y))

-- every probe told as failed
abbrev tells_fault : Card → ℕ → Governor
tells_fault card channel = choose (fit card) Fault (Refused 12)

refute_governor_always_fault : Refuted (λ b. b.governor) tells_fault
unfolding computed
refute_governor_always_fault = governor_refuted (λ h. (h.apart start_card 0 90 refl start_failed (lit< tt)).number refl)

refute_governor_no_values : Refuted (λ b. b.governor) tells_fault
unfolding computed
refute_governor_no_values = governor_refuted (λ h. (h.apart start_card 0 90 refl start_failed (lit< tt)).values refl)

-- one probe for every channel
abbrev tells_first : Card → ℕ → Governor
tells_first card channel = governor_of card 0

refute_governor_one_probe : Refuted (λ b. b.governor) tells_first
unfolding computed governor_of told_of reading_of
refute_governor_one_probe = governor_refuted (λ h. let z : ◌≡◌ {A = ℕ} 9 0 = ap number_of (h.same start_card 0 90 1 (lit< tt) (λ e. omega (arith, e))) in omega (arith, z))

-- the entries that are never asked for a probe: a number or a byte that tells the code

unasked_number : Unasked (λ card. silent (first_code card) card) → ⊥
unfolding with_code
unasked_number h = code_told (h start_card 0 90 (lit< tt)).number

unasked_bytes : Unasked (λ card. sent 0 (first_code card ∷ []) card) → ⊥
unfolding with_code
unasked_bytes h = code_told (ap (λ (s : List ℕ). get_or s 0 0) (h start_card 0 90 (lit< tt)).bytes)

refute_set_code_number : Refuted (λ b. b.set_code) (λ card channel code. silent (first_code card) card)
refute_set_code_number = refuted (λ b. b.set_code) (λ e. (channel code : ℕ) → Unasked (λ card. e card channel code)) (λ b n. n.set_code) (λ h. unasked_number (h 0 0))

refute_set_code_bytes : Refuted (λ b. b.set_code) (λ card channel code. sent 0 (first_code card ∷ []) card)
refute_set_code_bytes = refuted (λ b. b.set_code) (λ e. (channel code : ℕ) → Unasked (λ card. e card channel code)) (λ b n. n.set_code) (λ h. unasked_bytes (h 0 0))

refute_restart_number : Refuted (λ b. b.restart) (λ card. silent (first_code card) card)
refute_restart_number = refuted (λ b. b.restart) Unasked (λ b n. n.restart) unasked_number

refute_restart_bytes : Refuted (λ b. b.restart) (λ card. sent 0 (first_code card ∷ []) card)
refute_restart_bytes = refuted (λ b. b.restart) Unasked (λ b n. n.restart) unasked_bytes

refute_receive_number : Refuted (λ b. b.receive) (λ card d room come. silent (first_code card) card)
refute_receive_number = refuted (λ b. b.receive) (λ e. (d : Dialect) (room : ℕ) (come : List ℕ) → Unasked (λ card. e card d room come)) (λ b n. n.receive) (λ h. unasked_number (h Datalink 0 []))

refute_receive_bytes : Refuted (λ b. b.receive) (λ card d room come. sent 0 (first_code card ∷ []) card)
refute_receive_bytes = refuted (λ b. b.receive) (λ e. (d : Dialect) (room : ℕ) (come : List ℕ) → Unasked (λ card. e card d room come)) (λ b n. n.receive) (λ h. unasked_bytes (h Datalink 0 []))

refute_quiet_number : Refuted (λ b. b.quiet) (λ card d. silent (first_code card) card)
refute_quiet_number = refuted (λ b. b.quiet) (λ e. (d : Dialect) → Unasked (λ card. e card d)) (λ b n. n.quiet) (λ h. unasked_number (h Datalink))

refute_quiet_bytes : Refuted (λ b. b.quiet) (λ card d. sent 0 (first_code card ∷ []) card)
refute_quiet_bytes = refuted (λ b. b.quiet) (λ e. (d : Dialect) → Unasked (λ card. e card d)) (λ b n. n.quiet) (λ h. unasked_bytes (h Datalink))

refute_write_image_number : Refuted (λ b. b.write_image) (λ card room. silent (first_code card) card)
refute_write_image_number = refuted (λ b. b.write_image) (λ e. (room : ℕ) → Unasked (λ card. e card room)) (λ b n. n.write_image) (λ h. unasked_number (h 293))

refute_write_image_bytes : Refuted (λ b. b.write_image) (λ card room. sent 0 (first_code card ∷ []) card)
refute_write_image_bytes = refuted (λ b. b.write_image) (λ e. (room : ℕ) → Unasked (λ card. e card room)) (λ b n. n.write_image) (λ h. unasked_bytes (h 293))

refute_read_image_number : Refuted (λ b. b.read_image) (λ card img. silent (first_code card) card)
refute_read_image_number = refuted (λ b. b.read_image) (λ e. (img : List ℕ) → Unasked (λ card. e card img)) (λ b n. n.read_image) (λ h. unasked_number (h []))

refute_read_image_bytes : Refuted (λ b. b.read_image) (λ card img. sent 0 (first_code card ∷ []) card)
refute_read_image_bytes = refuted (λ b. b.read_image) (λ e. (img : List ℕ) → Unasked (λ card. e card img)) (λ b n. n.read_image) (λ h. unasked_bytes (h []))

-- wrong masters, with the right card

-- requests for probe 0, and for register 00, SP1 and the demand of channel 0
abbrev lecom_reads : ℕ → LecomRequest
lecom_reads code = record { address = 11; task = LecomRead code }

abbrev love_asks : LoveTask → LoveRequest
love_asks task = record { address = 0x32; task = task }

abbrev lucid_gets : ℕ → Asking
lucid_gets valueType = asking_of (record { command = GetIo; p1 = 0; p2 = valueType; address = 0 }) []

-- LECOM's entry as written and this master, whatever the other entries are, break the claim
abbrev LecomMasterRefuted : Master LecomRequest → Type 0
LecomMasterRefuted master = Refuted {E = Entry × Master LecomRequest} (λ b. (b.lecom, b.lecom_master)) (lecom_reply, master)

lecom_master_refuted : {master : Master LecomRequest} → (LecomMasterOwes lecom_reply master → ⊥) → LecomMasterRefuted master
lecom_master_refuted = refuted (λ b. (b.lecom, b.lecom_master)) (λ e. LecomMasterOwes e.0 e.1) (λ b n. n.masters.lecom)

-- Love's entry as written and this master, whatever the other entries are, break the claim
abbrev LoveMasterRefuted : Master LoveRequest → Type 0
LoveMasterRefuted master = Refuted {E = Entry × Master LoveRequest} (λ b. (b.love, b.love_master)) (love_reply, master)

love_master_refuted : {master : Master LoveRequest} → (LoveMasterOwes love_reply master → ⊥) → LoveMasterRefuted master
love_master_refuted = refuted (λ b. (b.love, b.love_master)) (λ e. LoveMasterOwes e.0 e.1) (λ b n. n.masters.love)

-- LucidControl's entry as written and this master, whatever the other entries are, break the claim
abbrev LucidMasterRefuted : Master Asking → Type 0
LucidMasterRefuted master = Refuted {E = Entry × Master Asking} (λ b. (b.lucid, b.lucid_master)) (lucid_reply, master)

lucid_master_refuted : {master : Master Asking} → (LucidMasterOwes lucid_reply master → ⊥) → LucidMasterRefuted master
lucid_master_refuted = refuted (λ b. (b.lucid, b.lucid_master)) (λ e. LucidMasterOwes e.0 e.1) (λ b n. n.masters.lucid)

-- NAK read as a value of 0
abbrev nak_as_value : Master LecomRequest
nak_as_value = record { made = lecomMade; heard = λ q r. choose (same r (0x15 ∷ [])) (Gives (0 ∷ [])) (lecomHeard q r) }

refute_lecom_nak_as_value : LecomMasterRefuted nak_as_value
unfolding lecom_computed
refute_lecom_nak_as_value =
    lecom_master_refuted (λ (h : LecomMasterOwes lecom_reply nak_as_value).
    let q = lecom_reads 0x60 in
    let z : Gives (0 ∷ []) ≡ HeardRefused [] = h.fault q (askable_by _ q refl refl) start_card (record { real = start_real; there = refl }) 0 38 (lit≤ tt) start_failed refl in
    let y : ◌≡◌ {A = ℕ} 0 1 = cc in
    omega (arith, y))

-- every request made and heard as one for probe 0
abbrev lecom_probe_alone : Master LecomRequest
lecom_probe_alone =
    record {
      made = λ q. lecomMade (record { address = q.address; task = LecomRead 0x60 });
      heard = λ q r. lecomHeard (record { address = q.address; task = LecomRead 0x60 }) r;
    }

refute_lecom_probe_alone : LecomMasterRefuted lecom_probe_alone
unfolding lecom_computed
refute_lecom_probe_alone =
    lecom_master_refuted (λ (h : LecomMasterOwes lecom_reply lecom_probe_alone).
    let q = lecom_reads 0 in
    let other : LecomRead 0 ≡ LecomRead 0x60 → ⊥ = λ e. let y : ◌≡◌ {A = ℕ} 0 0x60 = cc in omega (arith, y) in
    let z : HeardRefused [] ≡ Gives (50 ∷ []) = h.same q (askable_by _ q refl refl) start_card 0 90 38 (lit< tt) other in
    let y : ◌≡◌ {A = ℕ} 0 1 = cc in
    omega (arith, y))

-- D read as a temperature of 0
abbrev d_as_zero : Master LoveRequest
d_as_zero = record { made = loveMade; heard = λ q r. choose (eqb (get_or r 4 0) 0x44) (Gives (0 ∷ [])) (loveHeard q r) }

refute_love_d_as_zero : LoveMasterRefuted d_as_zero
unfolding love_computed
refute_love_d_as_zero =
    love_master_refuted (λ (h : LoveMasterOwes love_reply d_as_zero).
    let q = love_asks Status in
    let z : Gives (0 ∷ []) ≡ HeardFault = h.fault q (askable_by _ q refl refl) start_card (record { real = start_real; there = refl }) 0 38 (lit≤ tt) start_failed (record { task = refl; first = refl }) in
    let y : ◌≡◌ {A = ℕ} 0 1 = cc in
    omega (arith, y))

-- every request made and heard as 00
abbrev love_probe_alone : Master LoveRequest
love_probe_alone = record { made = λ q. loveMade (record { address = q.address; task = Status }); heard = λ q r. loveHeard (record { address = q.address; task = Status }) r }

refute_love_probe_alone : LoveMasterRefuted love_probe_alone
unfolding love_computed
refute_love_probe_alone =
    love_master_refuted (λ (h : LoveMasterOwes love_reply love_probe_alone).
    let q = love_asks (LoveRead 0) in
    let other : LoveRequests q 0 → ⊥ = λ e. let x = e.task in let y : ◌≡◌ {A = ℕ} 0 1 = cc in omega (arith, y) in
    let z : HeardFault ≡ Gives (50 ∷ []) = h.same q (askable_by _ q refl refl) start_card 0 90 38 (lit< tt) other in
    let y : ◌≡◌ {A = ℕ} 0 1 = cc in
    omega (arith, y))

-- D0h read as a temperature of −0.1 °C
abbrev d0_as_minus_one : Master Asking
d0_as_minus_one = record { made = lucidMade; heard = λ q r. choose (eqb (get_or r 0 0) 0xD0) (Gives (0xFFFFFFFF ∷ [])) (lucidHeard q r) }

refute_lucid_d0_as_minus_one : LucidMasterRefuted d0_as_minus_one
unfolding lucid_computed asks_channel
refute_lucid_d0_as_minus_one =
    lucid_master_refuted (λ (h : LucidMasterOwes lucid_reply d0_as_minus_one).
    let q = lucid_gets 0x40 in
    let z : Gives (0xFFFFFFFF ∷ []) ≡ HeardFault = h.fault q (askable_by _ q refl refl) start_card (record { real = start_real; there = refl }) 0 38 (lit≤ tt) start_failed refl in
    let y : ◌≡◌ {A = ℕ} 0 1 = cc in
    omega (arith, y))

-- every request made and heard as GetIo of probe 0
abbrev lucid_probe_alone : Master Asking
lucid_probe_alone = record { made = λ q. lucidMade (lucid_gets 0x40); heard = λ q r. lucidHeard (lucid_gets 0x40) r }

refute_lucid_probe_alone : LucidMasterRefuted lucid_probe_alone
unfolding lucid_computed asks_channel
refute_lucid_probe_alone =
    lucid_master_refuted (λ (h : LucidMasterOwes lucid_reply lucid_probe_alone).
    let q = lucid_gets 0x10 in
    let other : LucidRequests q 0 → ⊥ = λ e. let x : false ≡ true = e in let y : ◌≡◌ {A = ℕ} 0 1 = cc in omega (arith, y) in
    let z : HeardFault ≡ Gives (50 ∷ []) = h.same q (askable_by _ q refl refl) start_card 0 90 38 (lit< tt) other in
    let y : ◌≡◌ {A = ℕ} 0 1 = cc in
    omega (arith, y))
