-- What LucidControl's entry owes (specs/NoTemperature.antt). Assumes nothing.
use Rattle.std.proofs.Common.{◌≡◌, ℕ, ◌<◌, ◌≤◌, Bool, true, false, eqb, List, ◌∷◌, get_or, sym, refl, ap, ◌∙◌, subst, arith, eqb-true}
use borrow.Author.Tests.{eqb-false}
use Rattle.card.specs.Numbers.{answered, probe_fault}
use Rattle.card.specs.Layout.{Card, channels}
use Rattle.card.specs.Fitness.{fit}
use Rattle.card.specs.Probe.{fault_code}
use Rattle.card.specs.Entries.{with_code}
use Rattle.card.specs.Reply.{Reply, SameAnswer, sent, room_least}
use Rattle.lucid.specs.Form.{ok, err_execution}
use Rattle.lucid.specs.Answer.{faulted, lucid_reply}
use Rattle.lucid.proofs.Laws.{fault as failed-reply, asked_alone}
use Rattle.lucid.proofs.Probes.{works}
use Rattle.faults.specs.Dialects.{LucidAsks, OthersWork, LucidFault, LucidApart}
use Rattle.faults.specs.NoTemperature.{Failed, LucidOwes}
use Rattle.faults.proofs.Codes.{shell_open, unfit_silent, short_silent, code_fit, code_held, code_other, words_same}

fault : (card : Card) (channel room : ℕ) (f : List ℕ) → fit card ≡ true → room_least ≤ room → Failed card channel → LucidAsks card f channel → LucidFault (lucid_reply card room f)
fault card channel room f e l x asks =
    let is : lucid_reply card room f ≡ sent probe_fault faulted.bytes card = failed-reply card room f channel x.inside asks x.code ∙ shell_open card room _ e l in
    record { number = ap (λ (r : Reply). r.number) is; bytes = ap (λ (r : Reply). r.bytes) is }

-- with a temperature in the channel every probe asked for works
all_work : (card : Card) (channel code : ℕ) (f : List ℕ) → fit card ≡ true → channel < channels → code < fault_code → OthersWork card f channel
    → (k : ℕ) → k < channels → LucidAsks card f k → get_or (with_code card channel code).memory k 0 < fault_code
all_work card channel code f e h below others k m asks = by (eqb k channel) refl
  where
    by : (t : Bool) → eqb k channel ≡ t → get_or (with_code card channel code).memory k 0 < fault_code
    by true d = rw (eqb-true k channel d, code_held card channel code e h) below
    by false d = rw (← code_other card channel code k (eqb-false k channel d)) (others k m asks (eqb-false k channel d))

warm_reply : (card : Card) (channel code room : ℕ) (f : List ℕ) → fit card ≡ true → room_least ≤ room → Failed card channel → LucidAsks card f channel → code < fault_code → OthersWork card f channel
    → (rest : List ℕ) × (lucid_reply (with_code card channel code) room f ≡ sent answered (ok ∷ rest) (with_code card channel code))
warm_reply card channel code room f e l x asks below others =
    let warm = with_code card channel code in
    let w = works warm room f channel asks (all_work card channel code f e x.inside below others) in
    (w.0, w.1 ∙ shell_open warm room _ (code_fit card channel code ∙ e) l)

apart : (card : Card) (channel code room : ℕ) (f : List ℕ) → fit card ≡ true → room_least ≤ room → Failed card channel → LucidAsks card f channel → code < 255
    → LucidApart card f channel (lucid_reply card room f) (lucid_reply (with_code card channel code) room f)
apart card channel code room f e l x asks below =
    let is = fault card channel room f e l x asks in
    record {
      number = λ others same.
          let z : ◌≡◌ {A = ℕ} probe_fault answered = sym is.number ∙ same ∙ ap (λ (r : Reply). r.number) (warm_reply card channel code room f e l x asks below others).1 in
          omega (arith, z);
      bytes = λ others same.
          let z : ◌≡◌ {A = ℕ} err_execution ok = ap (λ (b : List ℕ). get_or b 0 0) (sym is.bytes ∙ same ∙ ap (λ (r : Reply). r.bytes) (warm_reply card channel code room f e l x asks below others).1) in
          omega (arith, z);
    }

same : (card : Card) (channel code room : ℕ) (f : List ℕ) → channel < channels → (LucidAsks card f channel → ⊥) → SameAnswer (lucid_reply card room f) (lucid_reply (with_code card channel code) room f)
unfolding lucid_reply with_code
same card channel code room f h other =
    words_same card channel code room _ _
    (asked_alone card.words card.memory (with_code card channel code).memory f
    (λ k m asks. code_other card channel code k (λ d. other (subst (λ (c : ℕ). LucidAsks card f c) d asks))))

pub lucid_owes : LucidOwes lucid_reply
unfolding lucid_reply
lucid_owes =
    record {
      unfit = λ card room f. unfit_silent card room _;
      short = λ card room f. short_silent card room _;
      fault = fault;
      apart = apart;
      same = same;
    }
