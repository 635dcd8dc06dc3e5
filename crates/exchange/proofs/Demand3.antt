-- Demand 3, proved: one claim about every list of calls. Assumes nothing.
use Rattle.std.proofs.Common.{◌≡◌, ℕ, ◌+◌, ◌-◌, ◌<◌, ◌≤◌, true, ◌⊎◌, List, [], ◌∷◌, get_or, sym, refl, ap, ◌∙◌, subst, inl, inr, arith}
use Prim.{tt}
use Rattle.wire.specs.Choose.{choose}
use Rattle.card.specs.Layout.{Card}
use Rattle.card.specs.Change.{memory_start}
use Rattle.master.specs.Request.{Request, named_by, as_asked, askable}
use Rattle.master.specs.Accepted.{Accepted}
use Rattle.master.specs.Step.{says_of}
use Rattle.master.specs.declared.Phase.{Phase}
use Rattle.master.specs.declared.Phase.TheVariants.{New, Changing, Acknowledging, Reading, EndedDone, EndedUnknown}
use Rattle.master.specs.declared.Verdict.TheVariants.{Open, Done}
use Rattle.master.proofs.Requests.{accepted}
use Rattle.calls.specs.Calls.{Call as Entry, frame_reply, reply_of}
use Rattle.calls.specs.Calls.Call.{SetCode, Restart, Governor, Frame, Receive, Quiet as Hush, WriteImage, ReadImage}
use Rattle.calls.proofs.Memory.{Same, mild}
use Rattle.exchange.specs.Calls.{Call}
use Rattle.exchange.specs.Calls.Call.{Step, Arrival, Other}
use Rattle.exchange.specs.Line.{Line, World, Build, change_round, begin, as_written, after_restart, after_other, called, run}
use Rattle.exchange.specs.Premise.{Quiet, AllQuiet, AsWorded}
use Rattle.exchange.specs.Demand.{byte_at, Writable, Named, Old, AsAsked, due, all_lossless, Demand3}
use Rattle.exchange.proofs.Invariant.{AllNamed, Settled, InvAt, Inv, mildly}
use Rattle.exchange.proofs.Arriving.{arriving}
use Rattle.exchange.proofs.Stepping.{settle, stepping}

-- a restart is told to the line, which changes nothing of what is known
restarted_line : (q : Request) (start card : Card) (phase : Phase) (line : Line) → InvAt q start phase card line → InvAt q start phase card (after_restart line)
unfolding after_restart
restarted_line q start card New line v = record { old = v.old; frame = v.frame; frames = v.frames; closed = v.closed }
restarted_line q start card Changing line v = record { old = v.old; frame = v.frame; frames = v.frames; closed = v.closed; heard = v.heard }
restarted_line q start card Acknowledging line v =
    record { range = v.range; stand = v.stand; frame = v.frame; frames = v.frames; one = v.one; closed = v.closed; carried = v.carried }
restarted_line q start card Reading line v =
    record { range = v.range; stand = v.stand; frame = v.frame; frames = v.frames; one = v.one; two = v.two; closed = v.closed; carried = v.carried; heard = v.heard }
restarted_line q start card EndedDone line v = record { settled = v.settled; frame = v.frame; sure = v.sure; rounds = v.rounds; early = v.early }
restarted_line q start card EndedUnknown line v = record { settled = v.settled; frame = v.frame; sure = v.sure; rounds = v.rounds; early = v.early }

other_line : (q : Request) (start card : Card) (phase : Phase) (line : Line) (e : Entry) → InvAt q start phase card line → InvAt q start phase card (after_other line e)
other_line q start card phase line (SetCode channel code) v = v
other_line q start card phase line Restart v = restarted_line q start card phase line v
other_line q start card phase line (Governor channel) v = v
other_line q start card phase line (Frame dialect room f) v = v
other_line q start card phase line (Receive dialect room bytes) v = v
other_line q start card phase line (Hush dialect) v = v
other_line q start card phase line (WriteImage room) v = v
other_line q start card phase line (ReadImage img) v = v

module _ (q : Request) (a : Accepted q) (start : Card) where
  -- each call keeps the invariant
  one_call : (w : World Phase) (c : Call) → Quiet as_written w c → Inv q start w → Inv q start (called as_written q w c)
  unfolding called reply_of frame_reply
  one_call w (Step choice room) h v = stepping q start w.card a w.line choice w.state room v
  one_call w (Arrival room) h v = arriving q a start w.card w.line room w.state v
  one_call w (Other e) h v =
      mildly q start w.card _ (mild w.card e h) w.state (after_other w.line e) (other_line q start w.card w.state w.line e v)

  all_calls : (w : World Phase) (calls : List Call) → AllQuiet as_written q w calls → Inv q start w → Inv q start (run as_written q w calls)
  unfolding run AllQuiet
  all_calls w [] h v = v
  all_calls w (c ∷ calls) h v = all_calls (called as_written q w c) calls h.1 (one_call w c h.0 v)

module _ (q : Request) (start : Card) where
  -- from indices to addresses

  old_at : (card : Card) → Same start card → (x : ℕ) → Writable x → byte_at card x ≡ byte_at start x
  old_at card s x w = s.at (x - memory_start) (omega (arith, w.low))

  asked_at : (card : Card) → memory_start ≤ q.address
      → ((i : ℕ) → i < named_by q.ask → get_or card.memory (q.address - memory_start + i) 0 ≡ as_asked q.ask (get_or start.memory (q.address - memory_start + i) 0) i)
      → (x : ℕ) → Named q x → byte_at card x ≡ as_asked q.ask (byte_at start x) (x - q.address)
  asked_at card l f x n =
      let place : q.address - memory_start + (x - q.address) ≡ x - memory_start = omega (arith, n.low) in
      subst (λ (j : ℕ). get_or card.memory j 0 ≡ as_asked q.ask (get_or start.memory j 0) (x - q.address)) place (f (x - q.address) (omega (arith, n.low, n.high)))

  -- what is known in every phase

  settled_in : (phase : Phase) (card : Card) (line : Line) → InvAt q start phase card line → Settled q start card
  settled_in New card line v = inl v.old
  settled_in Changing card line v = inl v.old
  settled_in Acknowledging card line v = settle q start card v.range v.stand
  settled_in Reading card line v = settle q start card v.range v.stand
  settled_in EndedDone card line v = v.settled
  settled_in EndedUnknown card line v = v.settled

  not_yet : {A : Type 0} → Open ≡ Done → A
  not_yet e = let z : ◌≡◌ {A = ℕ} 0 1 = cc in let y : ⊥ = omega arith in absurd y

  sure_in : (phase : Phase) (card : Card) (line : Line) → InvAt q start phase card line → says_of phase ≡ Done → AllNamed q start card
  sure_in New card line v e = not_yet e
  sure_in Changing card line v e = not_yet e
  sure_in Acknowledging card line v e = not_yet e
  sure_in Reading card line v e = not_yet e
  sure_in EndedDone card line v e = v.sure e
  sure_in EndedUnknown card line v e = v.sure e

  due_in : (phase : Phase) (card : Card) (line : Line) → InvAt q start phase card line → all_lossless line.closed ≡ true → says_of phase ≡ due line.closed
  unfolding choose
  due_in New card line v e = sym (ap due v.closed)
  due_in Changing card line v e = sym (ap due v.closed)
  due_in Acknowledging card line v e = sym (ap due v.closed)
  due_in Reading card line v e = sym (ap due v.closed)
  due_in EndedDone card line v e = v.rounds e
  due_in EndedUnknown card line v e = v.rounds e

  early_in : (phase : Phase) (card : Card) (line : Line) → InvAt q start phase card line → line.frames ≤ change_round → Same start card
  early_in New card line v h = v.old
  early_in Changing card line v h = v.old
  early_in Acknowledging card line v h = let z : ⊥ = omega (arith, v.frames) in absurd z
  early_in Reading card line v h = let z : ⊥ = omega (arith, v.frames) in absurd z
  early_in EndedDone card line v h = v.early h
  early_in EndedUnknown card line v h = v.early h

  module _ (w : World Phase) where
    whole_of : Settled q start w.card → ((x : ℕ) → Writable x → Named q x → Old start w x) ⊎ ((x : ℕ) → Writable x → Named q x → AsAsked q start w x)
    whole_of (inl s) = inl (λ x h n. old_at w.card s x h)
    whole_of (inr s) = inr (λ x h n. asked_at w.card s.range.low s.asked.asked x n)

    others_of : Settled q start w.card → (x : ℕ) → Writable x → (Named q x → ⊥) → Old start w x
    others_of (inl s) x h n = old_at w.card s x h
    others_of (inr s) x h n =
        s.asked.others (x - memory_start) (omega (arith, h.low))
        (λ i g e. n (record { low = omega (arith, s.range.low, h.low); high = omega (arith, s.range.low, h.low) }))

    -- the clauses follow from the invariant
    clauses : Inv q start w → Demand3 as_written q start w
    unfolding choose
    clauses v =
        let settled = settled_in w.state w.card w.line v in
        let sure = sure_in w.state w.card w.line v in
        let steady = due_in w.state w.card w.line v in
        record {
          whole = whole_of settled;
          others = others_of settled;
          sure = λ e x n. let f = sure e in asked_at w.card f.range.low f.asked x n;
          third = λ e _ _. steady (ap all_lossless e) ∙ ap due e;
          steady = steady;
          untouched = λ h x u. old_at w.card (early_in w.state w.card w.line v h) x u;
          within = λ e x n.
              let r = (sure e).range in
              record { low = omega (arith, n.low, r.above (x - q.address) (omega (arith, n.low, n.high))); high = omega (arith, n.high, r.high) };
        }

-- DEMAND 3. For every request that 7 does not refuse, any tables, fit or not, and every list of calls throughout which the card accepts no other Datalink change or acknowledge,
-- the claim holds after the list. A frame may arrive any number of times in its round.
pub demand_3 : (q : Request) (start : Card) (calls : List Call) → askable q ≡ true → AllQuiet as_written q (begin as_written start) calls → Demand3 as_written q start (run as_written q (begin as_written start) calls)
demand_3 q start calls e quiet =
    let a = accepted q e in
    clauses q start (run as_written q (begin as_written start) calls)
    (all_calls q a start (begin as_written start) calls quiet (record { old = record { at = λ j h. refl }; frame = refl; frames = refl; closed = refl }))

-- the premise word for word, a frame arriving at most twice in its round, is the narrower one
pub quiet_worded : {State : Type 0} (b : Build State) (q : Request) (w : World State) (calls : List Call) → AsWorded b q w calls → AllQuiet b q w calls
unfolding AllQuiet AsWorded
quiet_worded b q w [] h = tt
quiet_worded b q w (c ∷ calls) h = (h.0.1, quiet_worded b q (called b q w c) calls h.1)

-- DEMAND 3 word for word
pub demand_3_as_worded : (q : Request) (start : Card) (calls : List Call) → askable q ≡ true → AsWorded as_written q (begin as_written start) calls → Demand3 as_written q start (run as_written q (begin as_written start) calls)
demand_3_as_worded q start calls e h = demand_3 q start calls e (quiet_worded as_written q (begin as_written start) calls h)
