-- What Love's entry owes (specs/NoTemperature.antt). Assumes nothing.
use Rattle.std.proofs.Common.{◌≡◌, ℕ, ◌<◌, ◌≤◌, true, List, get_or, sym, ap, ◌∙◌, subst, arith}
use Rattle.card.specs.Numbers.{answered}
use Rattle.card.specs.Layout.{Card, channels}
use Rattle.card.specs.Fitness.{fit}
use Rattle.card.specs.Probe.{reading_of, tenths_of}
use Rattle.card.specs.Entries.{with_code}
use Rattle.card.specs.Reply.{Reply, SameAnswer, sent, room_least}
use Rattle.card.specs.declared.probe.Reading.{Reading}
use Rattle.card.specs.declared.probe.Reading.TheVariants.{Temperature, Fault}
use Rattle.love.specs.Form.{data_at}
use Rattle.love.specs.Answer.{unit_of, normal_reply, fine_char, fault_char, probe_data, address_of, love_reply}
use Rattle.love.proofs.Probes.{probe_read, fault_data, temperature_data, first_of_data, asked_alone}
use Rattle.faults.specs.Dialects.{LoveAsks, LoveFault, OtherBytes}
use Rattle.faults.specs.NoTemperature.{Failed, LoveOwes}
use Rattle.faults.proofs.Codes.{shell_open, unfit_silent, short_silent, code_fit, failed_read, code_other, warm_read, words_same}

-- past the shell 00 is answered by the reading of the channel asked for, which is 0
read_as : (card : Card) (channel room : ℕ) (f : List ℕ) (reading : Reading) → fit card ≡ true → room_least ≤ room → LoveAsks card f channel → reading_of (get_or card.memory channel 0) ≡ reading
    → love_reply card room f ≡ sent answered (normal_reply (address_of card.words) (probe_data reading)) card
read_as card channel room f reading e l asks r =
    let first : reading_of (get_or card.memory 0 0) ≡ reading = subst (λ (k : ℕ). reading_of (get_or card.memory k 0) ≡ reading) asks.first r in
    probe_read card room f asks.order ∙ shell_open card room _ e l ∙ ap (λ (x : Reading). sent answered (normal_reply (address_of card.words) (probe_data x)) card) first

fault : (card : Card) (channel room : ℕ) (f : List ℕ) → fit card ≡ true → room_least ≤ room → Failed card channel → LoveAsks card f channel → LoveFault card (love_reply card room f)
unfolding normal_reply unit_of
fault card channel room f e l x asks =
    let is = read_as card channel room f Fault e l asks (failed_read card channel x) in
    record {
      number = ap (λ (r : Reply). r.number) is;
      bytes = ap (λ (r : Reply). r.bytes) is ∙ ap (normal_reply (address_of card.words)) fault_data;
    }

-- the first character of the data tells: D or C
apart : (card : Card) (channel code room : ℕ) (f : List ℕ) → fit card ≡ true → room_least ≤ room → Failed card channel → LoveAsks card f channel → code < 255
    → OtherBytes (love_reply card room f) (love_reply (with_code card channel code) room f)
unfolding with_code
apart card channel code room f e l x asks below same =
    let warm = with_code card channel code in
    let address = address_of card.words in
    let t = temperature_data (record { 0 = tenths_of code }) in
    let was = read_as warm channel room f (Temperature (record { 0 = tenths_of code })) (code_fit card channel code ∙ e) l (record { order = asks.order; first = asks.first }) (warm_read card channel code e x.inside below) in
    let is = read_as card channel room f Fault e l asks (failed_read card channel x) in
    let c : get_or (love_reply warm room f).bytes data_at 0 ≡ fine_char = ap (λ (r : Reply). get_or r.bytes data_at 0) was ∙ first_of_data address fine_char t.0 _ t.1 in
    let d : get_or (love_reply card room f).bytes data_at 0 ≡ fault_char = ap (λ (r : Reply). get_or r.bytes data_at 0) is ∙ first_of_data address fault_char _ _ fault_data in
    let z : ◌≡◌ {A = ℕ} fault_char fine_char = sym d ∙ ap (λ (s : List ℕ). get_or s data_at 0) same ∙ c in
    omega (arith, z)

same : (card : Card) (channel code room : ℕ) (f : List ℕ) → channel < channels → (LoveAsks card f channel → ⊥) → SameAnswer (love_reply card room f) (love_reply (with_code card channel code) room f)
unfolding love_reply with_code
same card channel code room f h other =
    words_same card channel code room _ _
    (asked_alone card.words card.memory (with_code card channel code).memory f
    (λ asks. code_other card channel code 0 (λ d. other (record { order = asks; first = sym d }))))

pub love_owes : LoveOwes love_reply
unfolding love_reply
love_owes =
    record {
      unfit = λ card room f. unfit_silent card room _;
      short = λ card room f. short_silent card room _;
      fault = fault;
      apart = apart;
      same = same;
    }
