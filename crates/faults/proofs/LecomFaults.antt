-- What LECOM's entry owes (specs/NoTemperature.antt). Assumes nothing.
use Rattle.std.proofs.Common.{◌≡◌, ℕ, ◌<◌, ◌≤◌, true, false, List, get_or, sym, refl, ap, ◌∙◌, subst, arith}
use Rattle.wire.proofs.Cases.{yes, no, by_choice}
use Rattle.card.specs.Layout.{Card, channels}
use Rattle.card.specs.Fitness.{fit}
use Rattle.card.specs.Probe.{reading_of, tenths_of}
use Rattle.card.specs.Entries.{with_code}
use Rattle.card.specs.Reply.{Reply, SameAnswer, Answer, on_words, leaving, room_least}
use Rattle.card.specs.declared.probe.Reading.{Reading}
use Rattle.card.specs.declared.probe.Reading.TheVariants.{Temperature, Fault}
use Rattle.lecom.specs.Form.{stx, nak}
use Rattle.lecom.specs.Frame.{collective}
use Rattle.lecom.specs.Answer.{probe_answer, lecom_reply}
use Rattle.lecom.proofs.Probes.{probe_read, fault_answer, temperature_answer, asked_alone}
use Rattle.faults.specs.Dialects.{LecomAsks, LecomFault, LecomApart}
use Rattle.faults.specs.NoTemperature.{Failed, LecomOwes}
use Rattle.faults.proofs.Codes.{shell_open, unfit_silent, short_silent, code_fit, failed_read, code_other, warm_read, words_same}

-- past the shell a probe is answered by its reading
read_as : (card : Card) (channel room : ℕ) (f : List ℕ) (reading : Reading) → fit card ≡ true → room_least ≤ room → LecomAsks card f channel → reading_of (get_or card.memory channel 0) ≡ reading
    → lecom_reply card room f ≡ on_words card (leaving card.words (probe_answer f reading))
read_as card channel room f reading e l asks r =
    probe_read card room f channel asks ∙ shell_open card room _ e l ∙ ap (λ (x : Reading). on_words card (leaving card.words (probe_answer f x))) r

answer_fault : (f : List ℕ) (r : Reply) → r.number ≡ (probe_answer f Fault).number → r.bytes ≡ (probe_answer f Fault).bytes → LecomFault f r
answer_fault f r n b =
    record {
      number = n ∙ ap (λ (a : Answer). a.number) (fault_answer f) ∙ by_choice (λ (a : Answer). a.number ≡ 9) (collective f) _ _ (λ _. refl) (λ _. refl);
      bytes = λ e. b ∙ ap (λ (a : Answer). a.bytes) (fault_answer f ∙ sym (no _ _ _ _ e refl));
      none = λ e. b ∙ ap (λ (a : Answer). a.bytes) (fault_answer f ∙ sym (yes _ _ _ _ e refl));
    }

-- a temperature's number, and the first of its bytes where any are sent
warm_number : (f : List ℕ) (code : ℕ) → (probe_answer f (Temperature (record { 0 = tenths_of code }))).number < 2
warm_number f code =
    let t = temperature_answer f (record { 0 = tenths_of code }) in
    subst (λ (a : Answer). a.number < 2) (sym t.1) (by_choice (λ (a : Answer). a.number < 2) (collective f) _ _ (λ _. omega arith) (λ _. omega arith))

warm_first : (f : List ℕ) (code : ℕ) → collective f ≡ false → get_or (probe_answer f (Temperature (record { 0 = tenths_of code }))).bytes 0 0 ≡ stx
warm_first f code e =
    let t = temperature_answer f (record { 0 = tenths_of code }) in
    ap (λ (a : Answer). get_or a.bytes 0 0) (t.1 ∙ sym (no _ _ _ _ e refl))

fault : (card : Card) (channel room : ℕ) (f : List ℕ) → fit card ≡ true → room_least ≤ room → Failed card channel → LecomAsks card f channel → LecomFault f (lecom_reply card room f)
fault card channel room f e l x asks =
    let is = read_as card channel room f Fault e l asks (failed_read card channel x) in
    answer_fault f (lecom_reply card room f) (ap (λ (r : Reply). r.number) is) (ap (λ (r : Reply). r.bytes) is)

apart : (card : Card) (channel code room : ℕ) (f : List ℕ) → fit card ≡ true → room_least ≤ room → Failed card channel → LecomAsks card f channel → code < 255
    → LecomApart f (lecom_reply card room f) (lecom_reply (with_code card channel code) room f)
unfolding with_code
apart card channel code room f e l x asks below =
    let warm = with_code card channel code in
    let is = fault card channel room f e l x asks in
    let was = read_as warm channel room f (Temperature (record { 0 = tenths_of code })) (code_fit card channel code ∙ e) l asks (warm_read card channel code e x.inside below) in
    record {
      number = λ same.
          let n : (lecom_reply warm room f).number < 2 = subst (λ (r : Reply). r.number < 2) (sym was) (warm_number f code) in
          omega (arith, is.number, n, same);
      bytes = λ one same.
          let s : get_or (lecom_reply warm room f).bytes 0 0 ≡ stx = ap (λ (r : Reply). get_or r.bytes 0 0) was ∙ warm_first f code one in
          let z : ◌≡◌ {A = ℕ} nak stx = ap (λ (b : List ℕ). get_or b 0 0) (sym (is.bytes one) ∙ same) ∙ s in
          omega (arith, z);
    }

same : (card : Card) (channel code room : ℕ) (f : List ℕ) → channel < channels → (LecomAsks card f channel → ⊥) → SameAnswer (lecom_reply card room f) (lecom_reply (with_code card channel code) room f)
unfolding lecom_reply with_code
same card channel code room f h other =
    words_same card channel code room _ _
    (asked_alone card.words card.memory (with_code card channel code).memory f
    (λ k m asks. code_other card channel code k (λ d. other (subst (λ (c : ℕ). LecomAsks card f c) d asks))))

pub lecom_owes : LecomOwes lecom_reply
unfolding lecom_reply
lecom_owes =
    record {
      unfit = λ card room f. unfit_silent card room _;
      short = λ card room f. short_silent card room _;
      fault = fault;
      apart = apart;
      same = same;
    }
