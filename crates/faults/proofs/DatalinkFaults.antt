-- What Datalink's entry owes (specs/NoTemperature.antt): it shows a failed probe's code, 255. Assumes nothing.
use Rattle.std.proofs.Common.{◌≡◌, ℕ, ◌+◌, ◌-◌, ◌<◌, ◌≤◌, true, List, get_or, Ok, Result, sym, ap, ◌∙◌, subst, arith}
use Rattle.card.specs.Layout.{Card, channels}
use Rattle.card.specs.Fitness.{fit}
use Rattle.card.specs.Entries.{with_code}
use Rattle.card.specs.Reply.{Reply, SameAnswer, room_least}
use Rattle.datalink.specs.Frame.{address_in, num_in, asked}
use Rattle.datalink.specs.Form.{frame_data_at}
use Rattle.datalink.specs.Answer.{ia_of, interrogated, obeyed, datalink_reply}
use Rattle.datalink.specs.declared.frame.Order.{Order}
use Rattle.datalink.specs.declared.frame.Silent.{Silent}
use Rattle.datalink.specs.declared.frame.Order.TheVariants.{Interrogate}
use Rattle.datalink.specs.Stages.{Sound}
use Rattle.datalink.proofs.Frames.{asked_sound}
use Rattle.datalink.proofs.Probes.{interrogate_fields, interrogate_shows, asked_other}
use Rattle.faults.specs.Dialects.{DatalinkAsks, DatalinkFault, OtherBytes}
use Rattle.faults.specs.NoTemperature.{Failed, DatalinkOwes}
use Rattle.faults.proofs.Codes.{shell_open, unfit_silent, short_silent, code_fit, code_held, shell_same}

passed : (card : Card) (room : ℕ) (f : List ℕ) → fit card ≡ true → room_least ≤ room → datalink_reply card room f ≡ obeyed card f (asked (ia_of card) f)
unfolding datalink_reply
passed card room f e l = shell_open card room _ e l

-- the channel's byte is shown as it stands
shows : (card : Card) (channel room : ℕ) (f : List ℕ) → fit card ≡ true → room_least ≤ room → DatalinkAsks card f channel
    → get_or (datalink_reply card room f).bytes (frame_data_at + (0x1000 + channel - address_in f)) 0 ≡ get_or card.memory channel 0
shows card channel room f e l asks =
    let s : Sound f (Ok (Interrogate (address_in f) (num_in f))) = subst (Sound f) asks.order (asked_sound f (ia_of card)) in
    let place : address_in f - 0x1000 + (0x1000 + channel - address_in f) ≡ channel = omega (arith, s.1.0, asks.from) in
    ap (λ (r : Reply). get_or r.bytes (frame_data_at + (0x1000 + channel - address_in f)) 0) (passed card room f e l)
    ∙ interrogate_shows card f (address_in f) (num_in f) (0x1000 + channel - address_in f) e (sym asks.order) (omega (arith, asks.from, asks.to))
    ∙ ap (λ (k : ℕ). get_or card.memory k 0) place

fault : (card : Card) (channel room : ℕ) (f : List ℕ) → fit card ≡ true → room_least ≤ room → Failed card channel → DatalinkAsks card f channel → DatalinkFault f channel (datalink_reply card room f)
unfolding obeyed interrogated
fault card channel room f e l x asks =
    record {
      number = ap (λ (r : Reply). r.number) (passed card room f e l) ∙ ap (λ (o : Result Order Silent). (obeyed card f o).number) asks.order;
      byte = shows card channel room f e l asks ∙ x.code;
    }

apart : (card : Card) (channel code room : ℕ) (f : List ℕ) → fit card ≡ true → room_least ≤ room → Failed card channel → DatalinkAsks card f channel → code < 255
    → OtherBytes (datalink_reply card room f) (datalink_reply (with_code card channel code) room f)
unfolding with_code ia_of
apart card channel code room f e l x asks below same =
    let warm = with_code card channel code in
    let again : DatalinkAsks warm f channel = record { order = asks.order; from = asks.from; to = asks.to } in
    let is = shows card channel room f e l asks in
    let was = shows warm channel room f (code_fit card channel code ∙ e) l again in
    let z : 255 ≡ code = sym (is ∙ x.code) ∙ ap (λ (b : List ℕ). get_or b (frame_data_at + (0x1000 + channel - address_in f)) 0) same ∙ was ∙ code_held card channel code e x.inside in
    omega (arith, z)

same : (card : Card) (channel code room : ℕ) (f : List ℕ) → channel < channels → (DatalinkAsks card f channel → ⊥) → SameAnswer (datalink_reply card room f) (datalink_reply (with_code card channel code) room f)
unfolding datalink_reply with_code ia_of
same card channel code room f h other =
    shell_same card channel code room_least room _ _
    (asked_other card channel code f
    (λ at n order low high.
    let s = interrogate_fields f (ia_of card) at n order in
    other (record { order = rw (← s.0, ← s.1) order; from = omega (arith, s.0, low); to = omega (arith, s.0, s.1, high) })))

pub datalink_owes : DatalinkOwes datalink_reply
unfolding datalink_reply
datalink_owes =
    record {
      unfit = λ card room f. unfit_silent card room _;
      short = λ card room f. short_silent card room _;
      fault = fault;
      apart = apart;
      same = same;
    }
