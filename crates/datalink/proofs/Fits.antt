-- A fit card stays fit, whatever Datalink frame it gets. Assumes nothing.
use Rattle.std.proofs.Common.{◌≡◌, ℕ, zero, suc, ◌+◌, ◌-◌, ◌<◌, ◌≤◌, true, eqb, List, ◌∷◌, length, get_or, refl, ◌∙◌, arith, length-set, Result, Ok, Err}
use lib.ListN.{get_or-append}
use Rattle.wire.specs.Buffer.{overlay}
use Rattle.wire.proofs.Tests.{or_true_right}
use Rattle.wire.proofs.Cases.{by_choice}
use Rattle.wire.proofs.Buffers.{length_overlay, length_part, get_d_part}
use Rattle.card.specs.Layout.{Card, kind_at}
use Rattle.card.specs.Change.{no_change, named, echoable, fit_pending}
use Rattle.card.specs.Fitness.{fit}
use Rattle.card.specs.Reply.{room_least}
use Rattle.card.proofs.Facts.{fit_from, fit_facts}
use Rattle.card.proofs.Fits.{IsFit, shell_fit, dropped_fit, length_dropped}
use Rattle.datalink.specs.Form.{frame_num_at, frame_data_at}
use Rattle.datalink.specs.Frame.{num_in, address_in, asked}
use Rattle.datalink.specs.Answer.{ia_of, interrogated, body_of, pended, echoed, changed, applied_to, applied, acknowledged, obeyed, datalink_reply}
use Rattle.datalink.specs.declared.frame.Order.{Order}
use Rattle.datalink.specs.declared.frame.Order.TheVariants.{Interrogate, Change, Acknowledge}
use Rattle.datalink.specs.declared.frame.Silent.{Silent}
use Rattle.datalink.specs.Stages.{Sound}
use Rattle.datalink.proofs.Frames.{asked_sound}

-- a change keeps the length of memory
pub length_changed : (kind a : ℕ) (sent : List ℕ) (k : ℕ) (memory : List ℕ) → length (changed kind a sent k memory) ≡ length memory
unfolding changed
length_changed kind a sent zero memory = refl
length_changed kind a sent (suc k) memory = rw length-set (length_changed kind a sent k memory)

-- what an echoed change leaves as the pending one
module _ (f : List ℕ) (kind num : ℕ) (p : List ℕ) (long : frame_data_at + num ≤ length f) where
  length_body : length (body_of f num) ≡ frame_data_at + num - frame_num_at
  unfolding body_of
  length_body = length_part f frame_num_at (frame_data_at + num) (omega arith) long

  -- a byte after the kind is one of the frame's, as received
  pended_at : (i : ℕ) → frame_num_at + i < frame_data_at → get_or (overlay (kind ∷ body_of f num) p) (suc i) 0 ≡ get_or f (frame_num_at + i) 0
  unfolding overlay body_of
  pended_at i h =
      get_or-append (body_of f num) _ 0 i (omega (arith, length_body)) ∙ get_d_part f frame_num_at (frame_data_at + num) i (omega arith)

  pended_fit : num ≡ num_in f → echoable kind num (address_in f) (named kind num) ≡ true → fit_pending (overlay (kind ∷ body_of f num) p) ≡ true
  unfolding fit_pending overlay num_in address_in
  pended_fit same e =
      rw (pended_at 0 (omega arith), pended_at 1 (omega arith), pended_at 2 (omega arith), ← same, e) (or_true_right (eqb kind no_change))

obeyed_fit : (card : Card) (f : List ℕ) (o : Result Order Silent) → Sound f o → fit card ≡ true → IsFit (obeyed card f o)
unfolding obeyed interrogated echoed pended acknowledged applied applied_to
obeyed_fit card f (Err refusal) s e = e
obeyed_fit card f (Ok (Interrogate at n)) s e = e
obeyed_fit card f (Ok (Change kind num)) s e =
    let t = fit_facts card e in
    let l : frame_data_at + num ≤ length f = omega (arith, s.0) in
    let body = length_body f kind num card.ports l in
    fit_from _ t.words_length t.memory_length
    (length_overlay (kind ∷ body_of f num) card.ports (omega (arith, body, s.1.0, t.ports_length)) ∙ t.ports_length)
    t.words_fit (pended_fit f kind num card.ports l s.1.1.0 s.1.1.1)
obeyed_fit card f (Ok Acknowledge) s e =
    let t = fit_facts card e in
    by_choice IsFit (eqb (get_or card.ports kind_at 0) no_change) _ _ (λ _. e)
    (λ _. fit_from (applied card) t.words_length (length_changed _ _ _ _ card.memory ∙ t.memory_length)
    (length_dropped card.ports ∙ t.ports_length) t.words_fit (dropped_fit card.ports))

pub stays_fit : (card : Card) (room : ℕ) (f : List ℕ) → fit card ≡ true → IsFit (datalink_reply card room f)
unfolding datalink_reply
stays_fit card room f e = shell_fit room_least card room _ e (obeyed_fit card f (asked (ia_of card) f) (asked_sound f (ia_of card)) e)
