-- "A failed probe is never answered as a temperature." Code 255 stands in a channel. An entry that is asked for this channel's probe gives
-- its fault reply, and another reply for every code that is a temperature. An entry that is not asked for it gives the same number and
-- bytes whatever the code. 12 and 11 come first. A master that asked for the probe hears the fault, or that it is refused; one that did not
-- hears the same whatever the code. docs/PROVED.md says which wrong programs this claim alone lets through.
use Rattle.std.specs.Prelude.{ℕ, ◌≤◌, ◌<◌, ◌≡◌, true, false, List, [], get_or}
use Rattle.card.specs.Layout.{Card, channels}
use Rattle.card.specs.Fitness.{fit}
use Rattle.card.specs.Entries.{with_code, set_code, restart}
use Rattle.card.specs.Governor.{governor_of, number_of, values_of}
use Rattle.card.specs.declared.governor.Governor.{Governor}
use Rattle.card.specs.declared.governor.Governor.TheVariants.{Fault, Refused}
use Rattle.card.specs.Reply.{Reply, SameAnswer}
use Rattle.lecom.specs.Answer.{lecom_reply}
use Rattle.love.specs.Answer.{love_reply}
use Rattle.lucid.specs.Answer.{lucid_reply}
use Rattle.datalink.specs.Answer.{datalink_reply}
use Rattle.receive.specs.Receive.{receive_reply, quiet_reply}
use Rattle.receive.specs.declared.Dialect.{Dialect}
use Rattle.image.specs.Entries.{write_image, read_image}
use Rattle.asking.specs.Hearing.{Hearing}
use Rattle.asking.specs.Hearing.Hearing.{Fault as HeardFault, Refused as HeardRefused}
use Rattle.asking.specs.Claims.{Dialect as MasterAndCard, Askable, At}
use Rattle.lecom_master.specs.Request.{made as lecomMade}
use Rattle.lecom_master.specs.Heard.{heard as lecomHeard}
use Rattle.lecom_master.specs.declared.request.Request.{Request as LecomRequest}
use Rattle.love_master.specs.Request.{made as loveMade}
use Rattle.love_master.specs.Heard.{heard as loveHeard}
use Rattle.love_master.specs.declared.request.Request.{Request as LoveRequest}
use Rattle.lucid_master.specs.Request.{Asking, made as lucidMade}
use Rattle.lucid_master.specs.Heard.{heard as lucidHeard}
use Rattle.masters.specs.Lecom.{lecom_master}
use Rattle.masters.specs.Love.{love_master}
use Rattle.masters.specs.Lucid.{lucid_master}
use Rattle.masters.specs.Speaking.{Master, speaking}
use Rattle.faults.specs.Dialects.{LecomAsks, LecomFault, LecomApart, LoveAsks, LoveFault, LucidAsks, LucidFault, LucidApart, DatalinkAsks, DatalinkFault, OtherBytes, LecomRequests, LoveRequests, LucidRequests}

-- a card's entries and the masters', so that wrong ones can be put to the claim
pub record Entries : Type 0 where
  pub governor : Card → ℕ → Governor
  pub lecom : Card → ℕ → List ℕ → Reply
  pub love : Card → ℕ → List ℕ → Reply
  pub lucid : Card → ℕ → List ℕ → Reply
  pub datalink : Card → ℕ → List ℕ → Reply
  pub set_code : Card → ℕ → ℕ → Reply
  pub restart : Card → Reply
  pub receive : Card → Dialect → ℕ → List ℕ → Reply
  pub quiet : Card → Dialect → Reply
  pub write_image : Card → ℕ → Reply
  pub read_image : Card → List ℕ → Reply
  pub lecom_master : Master LecomRequest
  pub love_master : Master LoveRequest
  pub lucid_master : Master Asking

-- the written meanings, which the entries' contracts equate with the code
abbrev pub as_written : Entries
as_written =
    record {
      governor = governor_of;
      lecom = lecom_reply;
      love = love_reply;
      lucid = lucid_reply;
      datalink = datalink_reply;
      set_code = set_code;
      restart = restart;
      receive = λ card d room bytes. (receive_reply d card room bytes).reply;
      quiet = λ card d. quiet_reply d card;
      write_image = write_image;
      read_image = read_image;
      lecom_master = record { made = lecomMade; heard = lecomHeard };
      love_master = record { made = loveMade; heard = loveHeard };
      lucid_master = record { made = lucidMade; heard = lucidHeard };
    }

-- the probe of a channel has failed
pub record Failed (card : Card) (channel : ℕ) : Type 0 where
  pub inside : channel < channels
  pub code : get_or card.memory channel 0 ≡ 255

-- a number with no wire bytes
pub record Silent (n : ℕ) (r : Reply) : Type 0 where
  pub number : r.number ≡ n
  pub bytes : r.bytes ≡ []

-- What the entry of a dialect owes. `Asks card f channel`: the frame asks for the channel's probe. `IsFault card f channel r`: r is the
-- dialect's fault reply. `Apart card f channel r s`: the fault reply r is set apart from s, the reply to a temperature
pub record Owes (entry : Card → ℕ → List ℕ → Reply) (Asks : Card → List ℕ → ℕ → Type 0) (IsFault : Card → List ℕ → ℕ → Reply → Type 0) (Apart : Card → List ℕ → ℕ → Reply → Reply → Type 0) : Type 0 where
  -- "Number 12 comes first"
  pub unfit : (card : Card) (room : ℕ) (f : List ℕ) → fit card ≡ false → Silent 12 (entry card room f)
  -- "then 11 (a dialect's answer buffer below 38 bytes ..)"
  pub short : (card : Card) (room : ℕ) (f : List ℕ) → fit card ≡ true → room < 38 → Silent 11 (entry card room f)
  -- the frame asks for a probe that has failed: the fault reply
  pub fault : (card : Card) (channel room : ℕ) (f : List ℕ) → fit card ≡ true → 38 ≤ room → Failed card channel → Asks card f channel → IsFault card f channel (entry card room f)
  -- no temperature in that channel gives this reply
  pub apart : (card : Card) (channel code room : ℕ) (f : List ℕ) → fit card ≡ true → 38 ≤ room → Failed card channel → Asks card f channel → code < 255
      → Apart card f channel (entry card room f) (entry (with_code card channel code) room f)
  -- the frame does not ask for the probe: every code in that channel gives the same answer, whatever card and buffer
  pub same : (card : Card) (channel code room : ℕ) (f : List ℕ) → channel < channels → (Asks card f channel → ⊥) → SameAnswer (entry card room f) (entry (with_code card channel code) room f)

-- the governor was told this word, with this number and no values
pub record Says (w : Governor) (n : ℕ) (told : Governor) : Type 0 where
  pub word : told ≡ w
  pub number : number_of told ≡ n
  pub values : values_of told ≡ []

-- another number and other values
pub record ToldApart (a b : Governor) : Type 0 where
  pub number : number_of a ≡ number_of b → ⊥
  pub values : values_of a ≡ values_of b → ⊥

-- what the governor's entry owes: it is asked for a channel, and for that channel's probe alone
pub record GovernorOwes (entry : Card → ℕ → Governor) : Type 0 where
  -- "the word refused (12, ..)"
  pub unfit : (card : Card) (channel : ℕ) → fit card ≡ false → Says (Refused 12) 12 (entry card channel)
  -- "the word fault and no degrees (9)"
  pub fault : (card : Card) (channel : ℕ) → fit card ≡ true → Failed card channel → Says Fault 9 (entry card channel)
  -- no temperature in that channel is told so
  pub apart : (card : Card) (channel code : ℕ) → fit card ≡ true → Failed card channel → code < 255 → ToldApart (entry card channel) (entry (with_code card channel code) channel)
  -- of any other channel the governor is told the same with every code
  pub same : (card : Card) (channel code other : ℕ) → channel < channels → (other ≡ channel → ⊥) → entry card other ≡ entry (with_code card channel code) other

-- an entry that is never asked for a probe: every code gives the same answer
abbrev pub Unasked : (Card → Reply) → Type 0
Unasked entry = (card : Card) (channel code : ℕ) → channel < channels → SameAnswer (entry card) (entry (with_code card channel code))

-- What a master owes, with the card that it speaks to: whatever a card with code 255 in a channel answers to a made request, the master that
-- made it reads no temperature of that channel out of it. `Asks q channel`: the request asks for the channel's probe
pub record MasterOwes (d : MasterAndCard) (Asks : d.Request → ℕ → Type 0) (said : Hearing) : Type 0 where
  -- the request asks for a probe that has failed: that is what is heard
  pub fault : (q : d.Request) → Askable d q → (card : Card) → At d q card → (channel room : ℕ) → 38 ≤ room → Failed card channel → Asks q channel
      → d.heard q (d.reply card room (d.made q)).bytes ≡ said
  -- it does not ask for the probe: with every code in that channel the same is heard, whatever card and buffer
  pub same : (q : d.Request) → Askable d q → (card : Card) (channel code room : ℕ) → channel < channels → (Asks q channel → ⊥)
      → d.heard q (d.reply card room (d.made q)).bytes ≡ d.heard q (d.reply (with_code card channel code) room (d.made q)).bytes

-- each master by its own terms. Document 02, M-102: "A fault is read as a fault in Love and LucidControl; LECOM's NAK says only refused"
abbrev pub LecomMasterOwes : (Card → ℕ → List ℕ → Reply) → Master LecomRequest → Type 0
LecomMasterOwes entry master = MasterOwes (speaking lecom_master entry master) LecomRequests (HeardRefused [])

abbrev pub LoveMasterOwes : (Card → ℕ → List ℕ → Reply) → Master LoveRequest → Type 0
LoveMasterOwes entry master = MasterOwes (speaking love_master entry master) LoveRequests HeardFault

abbrev pub LucidMasterOwes : (Card → ℕ → List ℕ → Reply) → Master Asking → Type 0
LucidMasterOwes entry master = MasterOwes (speaking lucid_master entry master) LucidRequests HeardFault

-- all three, each with this card's entry of its dialect
pub record MastersOwe (b : Entries) : Type 0 where
  pub lecom : LecomMasterOwes b.lecom b.lecom_master
  pub love : LoveMasterOwes b.love b.love_master
  pub lucid : LucidMasterOwes b.lucid b.lucid_master

-- each dialect by its own terms. Datalink's is the exception: it shows 255 itself, and no temperature code is shown so
abbrev pub LecomOwes : (Card → ℕ → List ℕ → Reply) → Type 0
LecomOwes entry = Owes entry LecomAsks (λ card f channel. LecomFault f) (λ card f channel. LecomApart f)

abbrev pub LoveOwes : (Card → ℕ → List ℕ → Reply) → Type 0
LoveOwes entry = Owes entry LoveAsks (λ card f channel. LoveFault card) (λ card f channel. OtherBytes)

abbrev pub LucidOwes : (Card → ℕ → List ℕ → Reply) → Type 0
LucidOwes entry = Owes entry LucidAsks (λ card f channel. LucidFault) LucidApart

abbrev pub DatalinkOwes : (Card → ℕ → List ℕ → Reply) → Type 0
DatalinkOwes entry = Owes entry DatalinkAsks (λ card f channel. DatalinkFault f channel) (λ card f channel. OtherBytes)

-- the claim, of every entry and every master
pub record NoTemperature (b : Entries) : Type 0 where
  pub governor : GovernorOwes b.governor
  pub lecom : LecomOwes b.lecom
  pub love : LoveOwes b.love
  pub lucid : LucidOwes b.lucid
  pub datalink : DatalinkOwes b.datalink
  pub set_code : (channel code : ℕ) → Unasked (λ card. b.set_code card channel code)
  pub restart : Unasked b.restart
  pub receive : (d : Dialect) (room : ℕ) (bytes : List ℕ) → Unasked (λ card. b.receive card d room bytes)
  pub quiet : (d : Dialect) → Unasked (λ card. b.quiet card d)
  pub write_image : (room : ℕ) → Unasked (λ card. b.write_image card room)
  pub read_image : (img : List ℕ) → Unasked (λ card. b.read_image card img)
  pub masters : MastersOwe b
