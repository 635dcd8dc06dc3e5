-- Demand 3 for the exchange as C runs it: its lists go as the written master's, with each phase as its number. Assumes nothing.
use Rattle.std.proofs.Common.{◌≡◌, ℕ, true, List, [], ◌∷◌, sym, refl, ap, ◌∙◌, subst}
use Prim.{tt}
use Rattle.card.specs.Layout.{Card}
use Rattle.master.specs.Request.{Request, askable}
use Rattle.master.specs.Step.{Move, step_of}
use Rattle.master.specs.declared.Phase.{Phase}
use Rattle.firmware.specs.Phases.{code_of, step_in_c}
use Rattle.firmware.proofs.Codes.{phase_back, says_back}
use Rattle.exchange.specs.Calls.{Call}
use Rattle.exchange.specs.Calls.Call.{Step, Arrival, Other}
use Rattle.exchange.specs.Line.{World, as_written, begin, heard, after_step, called, run}
use Rattle.exchange.specs.Premise.{Quiet, AllQuiet}
use Rattle.exchange.specs.Demand.{Demand3}
use Rattle.exchange.specs.InC.{in_c}
use Rattle.exchange.proofs.Demand3.{demand_3}

abbrev coded : World Phase → World ℕ
coded w = record { card = w.card; state = code_of w.state; line = w.line }

-- the world after a move of the master
abbrev moved_to : World Phase → List ℕ → Move Phase → World ℕ
moved_to w got m = record { card = w.card; state = code_of m.state; line = after_step w.line got m }

module _ (q : Request) where
  call_coded : (w : World Phase) (c : Call) → called in_c q (coded w) c ≡ coded (called as_written q w c)
  unfolding called step_in_c after_step
  call_coded w (Step choice room) =
      let got = heard w.line choice in
      ap (λ (p : Phase). moved_to w got (step_of q p got room)) (phase_back w.state)
  call_coded w (Arrival room) = refl
  call_coded w (Other e) = refl

  run_coded : (w : World Phase) (calls : List Call) → run in_c q (coded w) calls ≡ coded (run as_written q w calls)
  unfolding run
  run_coded w [] = refl
  run_coded w (c ∷ calls) = ap (λ (x : World ℕ). run in_c q x calls) (call_coded w c) ∙ run_coded (called as_written q w c) calls

  quiet_call : (w : World Phase) (c : Call) → Quiet in_c (coded w) c → Quiet as_written w c
  quiet_call w (Step choice room) h = tt
  quiet_call w (Arrival room) h = tt
  quiet_call w (Other e) h = h

  quiet_coded : (w : World Phase) (calls : List Call) → AllQuiet in_c q (coded w) calls → AllQuiet as_written q w calls
  unfolding AllQuiet
  quiet_coded w [] h = tt
  quiet_coded w (c ∷ calls) h =
      (quiet_call w c h.0, quiet_coded (called as_written q w c) calls (subst (λ (x : World ℕ). AllQuiet in_c q x calls) (call_coded w c) h.1))

  claim_coded : (start : Card) (w : World Phase) → Demand3 as_written q start w → Demand3 in_c q start (coded w)
  claim_coded start w d =
      let said = says_back w.state in
      record {
        whole = d.whole;
        others = d.others;
        sure = λ e. d.sure (sym said ∙ e);
        third = λ l b r. said ∙ d.third l b r;
        steady = λ l. said ∙ d.steady l;
        untouched = d.untouched;
        within = λ e. d.within (sym said ∙ e);
      }

-- DEMAND 3 for nk_step
pub demand_3_in_c : (q : Request) (start : Card) (calls : List Call) → askable q ≡ true → AllQuiet in_c q (begin in_c start) calls → Demand3 in_c q start (run in_c q (begin in_c start) calls)
demand_3_in_c q start calls e quiet =
    subst (Demand3 in_c q start) (sym (run_coded q (begin as_written start) calls))
    (claim_coded q start (run as_written q (begin as_written start) calls) (demand_3 q start calls e (quiet_coded q (begin as_written start) calls quiet)))
