-- What the masters of LECOM, Love and LucidControl owe (specs/NoTemperature.antt), by their claims and by what the card owes. Assumes nothing.
use Rattle.std.proofs.Common.{◌≡◌, ℕ, ◌+◌, ◌^◌, ◌<◌, ◌≤◌, Bool, true, false, not, T, eqb, List, [], get_or, Ok, Result, sym, refl, ap, ◌∙◌, subst, ltb-true, Option, Some, None, arith}
use Prim.{tt}
use Rattle.wire.specs.Choose.{choose}
use Rattle.wire.specs.Buffer.{same as alike}
use Rattle.wire.proofs.Cases.{by_choice}
use Rattle.wire.proofs.Sweep.{all, at, by_four}
use Rattle.card.specs.Layout.{Card, channels}
use Rattle.card.specs.Probe.{fault_code}
use Rattle.card.specs.Reply.{room_least}
use Rattle.lecom.specs.Form.{first_probe, named_by}
use Rattle.lecom.specs.Answer.{address_of as lecomAddress, lecom_reply}
use Rattle.lecom.specs.Frame.{ordering}
use Rattle.lecom.specs.declared.form.Named.{Named}
use Rattle.lecom.specs.declared.form.Named.TheVariants.{Probe}
use Rattle.lecom.specs.declared.frame.Order.{Order as LecomOrder}
use Rattle.lecom.specs.declared.frame.Refusal.{Refusal as LecomRefusal}
use Rattle.lecom.specs.declared.frame.Order.TheVariants.{Read as LecomRead, Write as LecomWrite}
use Rattle.lecom.proofs.Values.{named_once}
use Rattle.love.specs.Answer.{address_of as loveAddress, love_reply}
use Rattle.love.specs.declared.frame.Order.{Order as LoveOrder}
use Rattle.love.specs.declared.frame.Refusal.{Refusal as LoveRefusal}
use Rattle.love.specs.declared.frame.Order.TheVariants.{Probe as LoveProbe}
use Rattle.lucid.specs.Answer.{named, reads_probe, asks_probe, lucid_reply}
use Rattle.asking.specs.Hearing.Hearing.{Refused}
use Rattle.asking.specs.Claims.{Askable, At}
use Rattle.lecom_master.specs.Request.{made as lecomMade}
use Rattle.lecom_master.specs.Heard.{heard as lecomHeard}
use Rattle.lecom_master.specs.declared.request.Task.{Task as LecomTask}
use Rattle.lecom_master.specs.declared.request.Task.TheVariants.{Read, Write}
use Rattle.lecom_master.specs.declared.request.Request.{Request as LecomRequest}
use Rattle.love_master.specs.Request.{made as loveMade}
use Rattle.love_master.specs.Heard.{heard as loveHeard}
use Rattle.love_master.specs.declared.request.Task.{Task as LoveTask}
use Rattle.love_master.specs.declared.request.Task.TheVariants.{Status, Read as LoveRead, Write as LoveWrite}
use Rattle.love_master.specs.declared.request.Request.{Request as LoveRequest}
use Rattle.lucid_master.specs.Request.{Asking, p1_right, made as lucidMade}
use Rattle.lucid_master.specs.Heard.{heard as lucidHeard}
use Rattle.lucid_master.specs.declared.request.Command.{Command}
use Rattle.lucid_master.specs.declared.request.Command.TheVariants.{GetIo, GetIoGroup, SetIo, SetIoGroup, GetParam, SetParam, Reset}
use Rattle.lucid_master.proofs.Requests.{parts}
use Rattle.masters.specs.Lecom.{lecom_master, order_of as lecomOrderOf, asked_of as lecomAskedOf}
use Rattle.masters.specs.Love.{love_master, order_of as loveOrderOf, asked_of as loveAskedOf}
use Rattle.masters.specs.Lucid.{lucid_master, Asked, asked_in, asked_of as lucidAskedOf, order_of}
use Rattle.masters.proofs.Lecom.{lecom_claims, lecom_fault}
use Rattle.masters.proofs.Love.{love_claims}
use Rattle.masters.proofs.LoveHears.{love_fault}
use Rattle.masters.proofs.Lucid.{lucid_claims}
use Rattle.faults.specs.Dialects.{LecomAsks, LoveAsks, LecomRequests, LoveRequests, asks_channel}
use Rattle.faults.specs.NoTemperature.{as_written, Failed, LecomMasterOwes, LoveMasterOwes, LucidMasterOwes, MastersOwe}
use Rattle.faults.proofs.LecomFaults.{lecom_owes}
use Rattle.faults.proofs.LoveFaults.{love_owes}
use Rattle.faults.proofs.LucidFaults.{lucid_owes}

-- LECOM

-- "Codes 60h to 63h are the probes"
probe_named : (channel : ℕ) → channel < channels → named_by (first_probe + channel) ≡ Some (Probe channel)
unfolding named_by choose
probe_named channel h = by_four (λ k. named_by (first_probe + k) ≡ Some (Probe k)) refl refl refl refl channel h

-- an order to read is of what the code names, and no order to write is one
read_named : (n : Option Named) (named : Named) → ordering LecomRead n ≡ Ok (LecomRead named) → n ≡ Some named
read_named None named e = cc
read_named (Some m) named e = cc

write_no_read : {A : Type 0} (n : Option Named) (value : ℕ) (named : Named) → ordering (λ (m : Named). LecomWrite m value) n ≡ Ok (LecomRead named) → A
write_no_read None value named e = let z : ◌≡◌ {A = ℕ} 0 1 = cc in let w : ⊥ = omega (arith, z) in absurd w
write_no_read (Some m) value named e = let z : ◌≡◌ {A = ℕ} 0 1 = cc in let w : ⊥ = omega (arith, z) in absurd w

-- a task that is a read of a probe to the card is a read of its code
lecom_task_law : (task : LecomTask) (channel : ℕ) → channel < channels → lecomOrderOf task ≡ Ok (LecomRead (Probe channel)) → task ≡ Read (first_probe + channel)
unfolding lecomOrderOf
lecom_task_law (Read code) channel h e =
    let n = read_named (named_by code) (Probe channel) e in
    ap Read (named_once code (first_probe + channel) (rw (probe_named channel h) refl) (n ∙ sym (probe_named channel h)))
lecom_task_law (Write code value) channel h e = write_no_read (named_by code) value (Probe channel) e

-- a made frame that asks a card for a probe is of a request for it
lecom_asks : (q : LecomRequest) → Askable lecom_master q → (card : Card) (channel : ℕ) → channel < channels → LecomAsks card (lecomMade q) channel → LecomRequests q channel
unfolding lecomAskedOf
lecom_asks q a card channel h asks =
    by_choice (λ (o : Result LecomOrder LecomRefusal). o ≡ Ok (LecomRead (Probe channel)) → LecomRequests q channel) _ _ _ (λ _ e. lecom_task_law q.task channel h e) (λ _ e. cc)
    (sym ((lecom_claims.means q a).means (lecomAddress card.words)) ∙ asks)

-- a read of a failed probe is heard as refused
probe_refused : (q : LecomRequest) (card : Card) (channel room : ℕ) → room_least ≤ room → Failed card channel → LecomRequests q channel → Askable lecom_master q → At lecom_master q card
    → lecomHeard q (lecom_reply card room (lecomMade q)).bytes ≡ Refused []
probe_refused q card channel room l x asks =
    subst Told (sym asks) (λ a at. lecom_fault q.address (first_probe + channel) channel (probe_named channel x.inside) a card at x.code room l)
  where
    Told : LecomTask → Type 0
    Told task =
        let p : LecomRequest = record { address = q.address; task = task } in
        Askable lecom_master p → At lecom_master p card → lecomHeard p (lecom_reply card room (lecomMade p)).bytes ≡ Refused []

-- what LECOM's master owes
pub lecom_master_owes : LecomMasterOwes lecom_reply as_written.lecom_master
lecom_master_owes =
    record {
      fault = λ q a card at channel room l x asks. probe_refused q card channel room l x asks a at;
      same = λ q a card channel code room h other. ap (lecomHeard q) (lecom_owes.same card channel code room (lecomMade q) h (λ asks. other (lecom_asks q a card channel h asks))).bytes;
    }

-- Love

-- a task that is 00 to the card is the status
love_task_law : (task : LoveTask) → loveOrderOf task ≡ Ok LoveProbe → task ≡ Status
love_task_law Status e = refl
love_task_law (LoveRead place) e = cc
love_task_law (LoveWrite place value) e = cc

-- a made frame that asks a card for probe 0 is of a request for it
love_asks_law : (q : LoveRequest) → Askable love_master q → (card : Card) (channel : ℕ) → LoveAsks card (loveMade q) channel → LoveRequests q channel
unfolding loveAskedOf
love_asks_law q a card channel asks =
    record {
      task = by_choice (λ (o : Result LoveOrder LoveRefusal). o ≡ Ok LoveProbe → q.task ≡ Status) _ _ _ (λ _ e. love_task_law q.task e) (λ _ e. cc)
          (sym ((love_claims.means q a).means (loveAddress card.words)) ∙ asks.order);
      first = asks.first;
    }

-- what Love's master owes
pub love_master_owes : LoveMasterOwes love_reply as_written.love_master
love_master_owes =
    record {
      fault = λ q a card at channel room l x asks. love_fault q a asks.task card at (subst (λ (k : ℕ). get_or card.memory k 0 ≡ fault_code) asks.first x.code) room l;
      same = λ q a card channel code room h other. ap (loveHeard q) (love_owes.same card channel code room (loveMade q) h (λ asks. other (love_asks_law q a card channel asks))).bytes;
    }

-- LucidControl

-- the mask of one channel names that channel alone
one_named : (p1 channel : ℕ) → p1 < channels → channel < channels → named channel (2 ^ p1) ≡ eqb p1 channel
unfolding named
one_named p1 channel h k = agreed _ _ (at (λ y. agree (named y (2 ^ p1)) (eqb p1 y)) channels (at (λ x. all (λ y. agree (named y (2 ^ x)) (eqb x y)) channels) channels tt p1 h) channel k)
  where
    agree : Bool → Bool → Bool
    agree true b = b
    agree false b = not b

    agreed : (a b : Bool) → T (agree a b) → a ≡ b
    agreed true true t = refl
    agreed true false t = absurd t
    agreed false true t = absurd t
    agreed false false t = refl

-- an order reads the probes that its request asks for
order_asks : (command : Command) (p1 p2 address : ℕ) (values : List ℕ) (channel : ℕ) → p1_right command p1 ≡ true → channel < channels
    → reads_probe (order_of command p1 p2 address values) channel ≡ asks_channel command p1 p2 channel
unfolding order_of reads_probe asks_channel p1_right
order_asks GetIo p1 p2 address values channel right h = rw (one_named p1 channel (ltb-true p1 channels right) h) refl
order_asks GetIoGroup p1 p2 address values channel right h = refl
order_asks SetIo p1 p2 address values channel right h = refl
order_asks SetIoGroup p1 p2 address values channel right h = refl
order_asks GetParam p1 p2 address values channel right h = refl
order_asks SetParam p1 p2 address values channel right h = refl
order_asks Reset p1 p2 address values channel right h = refl

-- and so does the made frame
frame_asks_law : (q : Asking) → Askable lucid_master q → (channel : ℕ) → channel < channels
    → asks_probe (lucidMade q) channel ≡ asks_channel q.request.command q.request.p1 q.request.p2 channel
unfolding asks_probe asked_in lucidAskedOf
frame_asks_law q a channel h =
    let r = q.request in
    ap (λ (x : Asked). reads_probe x.order channel) ((lucid_claims.means q a).means 0)
    ∙ order_asks r.command r.p1 r.p2 r.address q.values channel (parts r q.values a.right).first h

-- what LucidControl's master owes: D0h is heard as a fault
pub lucid_master_owes : LucidMasterOwes lucid_reply as_written.lucid_master
unfolding lucidHeard alike choose
lucid_master_owes =
    record {
      fault = λ q a card at channel room l x asks.
          ap (lucidHeard q) (lucid_owes.fault card channel room (lucidMade q) at.real.fits l x (frame_asks_law q a channel x.inside ∙ asks)).bytes;
      same = λ q a card channel code room h other.
          ap (lucidHeard q) (lucid_owes.same card channel code room (lucidMade q) h (λ asks. other (sym (frame_asks_law q a channel h) ∙ asks))).bytes;
    }

-- what all three owe
pub masters_owe : MastersOwe as_written
masters_owe = record { lecom = lecom_master_owes; love = love_master_owes; lucid = lucid_master_owes }
