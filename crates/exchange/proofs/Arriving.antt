-- The invariant under an arrival of the frame last sent. Assumes nothing.
use Rattle.std.proofs.Common.{◌≡◌, ℕ, ◌+◌, ◌-◌, ◌≤◌, Bool, true, not, eqb, ◌⊎◌, List, [], length, drop, sym, ◌∙◌, subst, inl, inr, arith, length-drop, length-take, get_or-drop, get_or-take, eqb-true, leb-false}
use borrow.Author.Tests.{not-true}
use Rattle.wire.proofs.Cases.{by_choice}
use Rattle.card.specs.Numbers.{answered, foreign_address}
use Rattle.card.specs.Layout.{Card}
use Rattle.card.specs.Change.{memory_start}
use Rattle.card.specs.Reply.{Reply}
use Rattle.card.proofs.Facts.{fit_facts}
use Rattle.datalink.specs.Answer.{shown, applied, datalink_reply}
use Rattle.master.specs.Request.{Request, named_by}
use Rattle.master.specs.Accepted.{Accepted}
use Rattle.master.specs.Frames.{change_frame, acknowledge_frame, interrogate_frame}
use Rattle.master.specs.declared.Phase.{Phase}
use Rattle.master.specs.declared.Phase.TheVariants.{New, Changing, Acknowledging, Reading, EndedDone, EndedUnknown}
use Rattle.master.specs.declared.Verdict.{Verdict}
use Rattle.master.specs.declared.Verdict.TheVariants.{Done, Unknown}
use Rattle.calls.specs.Calls.{refused}
use Rattle.exchange.specs.Line.{Line, after_arrival}
use Rattle.exchange.proofs.Arrivals.{Turned, Echoed, Applied, Shown, none_arrives, change_arrives, acknowledge_arrives, interrogate_arrives}
use Rattle.calls.proofs.Memory.{Same}
use Rattle.exchange.proofs.Memory.{range, ours_pended, same_pended, none_applied, asked_applied}
use Rattle.exchange.proofs.Invariant.{Every, every_map, Held, EchoHeard, Shows, After, Stand, AtNew, AtChanging, AtAcknowledging, AtReading, AtEnd, InvAt, same_then, then_asked}

-- the round's answers after an arrival: a refused one adds none

module _ (P : List ℕ → Type 0) (line : Line) (r : Reply) where
  answers_kept : foreign_address ≤ r.number → Every P line.answers → Every P (after_arrival line r).answers
  unfolding after_arrival
  answers_kept h e = by_choice (Every P) (eqb r.number answered) _ _ (λ t. let z : ⊥ = omega (arith, eqb-true r.number answered t) in absurd z) (λ _. e)

  answers_more : P r.bytes → Every P line.answers → Every P (after_arrival line r).answers
  unfolding after_arrival
  answers_more p e = by_choice (Every P) (eqb r.number answered) _ _ (λ _. (p, e)) (λ _. e)

-- a first arrival that was refused has not reached the card
reached_kept : (P : Type 0) (line : Line) (r : Reply) → foreign_address ≤ r.number → (line.reached ≡ true → P) → (after_arrival line r).reached ≡ true → P
unfolding after_arrival
reached_kept P line r h f =
    by_choice (λ (t : Bool). t ≡ true → P) (eqb line.arrivals 0) (not (refused r.number)) line.reached
    (λ _ t. let z : ⊥ = omega (arith, leb-false foreign_address r.number (not-true (refused r.number) t)) in absurd z)
    (λ _. f)

module _ (q : Request) (a : Accepted q) (start card : Card) (line : Line) (r : Reply) where
  changing_turned : Turned card r → AtChanging q start card line → AtChanging q start r.card (after_arrival line r)
  unfolding after_arrival
  changing_turned t v =
      subst (λ (x : Card). AtChanging q start x (after_arrival line r)) (sym t.kept)
      (record { old = v.old; frame = v.frame; frames = v.frames; closed = v.closed; heard = answers_kept (EchoHeard q card) line r t.number v.heard })

  changing_echoed : Echoed q card r → AtChanging q start card line → AtChanging q start r.card (after_arrival line r)
  unfolding after_arrival
  changing_echoed t v =
      let held : Held q r.card = subst (Held q) (sym t.pends) (inl (ours_pended q a card)) in
      let old : Same start r.card = subst (Same start) (sym t.pends) (same_then v.old (same_pended q card)) in
      let within = range q t.range in
      record {
        old = old;
        frame = v.frame;
        frames = v.frames;
        closed = v.closed;
        heard = answers_more (EchoHeard q r.card) line r (record { exact = t.bytes; range = within; held = held })
            (every_map line.answers (λ x e. record { exact = e.exact; range = within; held = held }) v.heard);
      }

  acknowledging_turned : Turned card r → AtAcknowledging q start card line → AtAcknowledging q start r.card (after_arrival line r)
  unfolding after_arrival
  acknowledging_turned t v =
      subst (λ (x : Card). AtAcknowledging q start x (after_arrival line r)) (sym t.kept)
      (record { range = v.range; stand = v.stand; frame = v.frame; frames = v.frames; one = v.one; closed = v.closed; carried = reached_kept (After q start card) line r t.number v.carried })

  -- ours was pending: it is applied to old memory
  acknowledging_applied : Applied card r → AtAcknowledging q start card line → AtAcknowledging q start r.card (after_arrival line r)
  unfolding after_arrival
  acknowledging_applied t v =
      let f : After q start r.card = subst (After q start) (sym t.applies) (by v.stand) in
      record { range = v.range; stand = inr f; frame = v.frame; frames = v.frames; one = v.one; closed = v.closed; carried = λ _. f }
    where
      from : Same start card → Held q card → After q start (applied card)
      from s (inl o) = record { asked = then_asked q start card (applied card) v.range s (asked_applied q a v.range card t.fitting o); none = none_applied card }
      from s (inr n) = absurd (t.ports n.kind)

      by : Stand q start card → After q start (applied card)
      by (inl b) = from b.old b.held
      by (inr f) = absurd (t.ports f.none.kind)

  -- the interrogate, refused or answered, leaves the card; its answers show the bytes as they are
  reading_kept : r.card ≡ card → Every (Shows q card) (after_arrival line r).answers → AtReading q start card line → AtReading q start r.card (after_arrival line r)
  unfolding after_arrival
  reading_kept kept answers v =
      subst (λ (x : Card). AtReading q start x (after_arrival line r)) (sym kept)
      (record {
        range = v.range;
        stand = v.stand;
        frame = v.frame;
        frames = v.frames;
        one = v.one;
        two = v.two;
        closed = v.closed;
        carried = v.carried;
        heard = answers;
      })

  reading_turned : Turned card r → AtReading q start card line → AtReading q start r.card (after_arrival line r)
  reading_turned t v = reading_kept t.kept (answers_kept (Shows q card) line r t.number v.heard) v

  shows : Shown q card r → AtReading q start card line → Shows q card r.bytes
  unfolding shown
  shows t v =
      let f = fit_facts card t.fitting in
      let n = named_by q.ask in
      let at = q.address - memory_start in
      let l : length (shown card q.address n) ≡ n = simp (length-take, length-drop) (omega (arith, f.memory_length, v.range.high, v.range.low)) in
      record {
        read = shown card q.address n;
        long = l;
        form = t.bytes;
        bytes = λ i h. get_or-take (at + n - at) (drop at card.memory) i 0 (omega arith) ∙ get_or-drop at card.memory i 0;
      }

  reading_shown : Shown q card r → AtReading q start card line → AtReading q start r.card (after_arrival line r)
  reading_shown t v = reading_kept t.kept (answers_more (Shows q card) line r (shows t v) v.heard) v

  new_turned : Turned card r → AtNew start card line → AtNew start r.card (after_arrival line r)
  unfolding after_arrival
  new_turned t v =
      subst (λ (x : Card). AtNew start x (after_arrival line r)) (sym t.kept) (record { old = v.old; frame = v.frame; frames = v.frames; closed = v.closed })

  end_turned : (verdict : Verdict) → Turned card r → AtEnd q start verdict card line → AtEnd q start verdict r.card (after_arrival line r)
  unfolding after_arrival
  end_turned verdict t v =
      subst (λ (x : Card). AtEnd q start verdict x (after_arrival line r)) (sym t.kept)
      (record { settled = v.settled; frame = v.frame; sure = v.sure; rounds = v.rounds; early = v.early })

module _ (q : Request) (a : Accepted q) (start card : Card) (line : Line) (room : ℕ) where
  abbrev reply : Reply
  reply = datalink_reply card room line.frame

  -- what is known of a reply to the frame that the line holds
  replied : (P : Reply → Type 0) (f : List ℕ) → line.frame ≡ f → P (datalink_reply card room f) → P reply
  replied P f e = subst (λ (x : List ℕ). P (datalink_reply card room x)) (sym e)

  nothing : line.frame ≡ [] → Turned card reply
  nothing e = replied (Turned card) [] e (none_arrives card room)

  changing : Turned card reply ⊎ Echoed q card reply → AtChanging q start card line → AtChanging q start reply.card (after_arrival line reply)
  changing (inl t) v = changing_turned q a start card line reply t v
  changing (inr t) v = changing_echoed q a start card line reply t v

  acknowledging : Turned card reply ⊎ Applied card reply → AtAcknowledging q start card line → AtAcknowledging q start reply.card (after_arrival line reply)
  acknowledging (inl t) v = acknowledging_turned q a start card line reply t v
  acknowledging (inr t) v = acknowledging_applied q a start card line reply t v

  reading : Turned card reply ⊎ Shown q card reply → AtReading q start card line → AtReading q start reply.card (after_arrival line reply)
  reading (inl t) v = reading_turned q a start card line reply t v
  reading (inr t) v = reading_shown q a start card line reply t v

  pub arriving : (phase : Phase) → InvAt q start phase card line → InvAt q start phase reply.card (after_arrival line reply)
  arriving New v = new_turned q a start card line reply (nothing v.frame) v
  arriving Changing v = changing (replied (λ (r : Reply). Turned card r ⊎ Echoed q card r) (change_frame q) v.frame (change_arrives q a card room)) v
  arriving Acknowledging v = acknowledging (replied (λ (r : Reply). Turned card r ⊎ Applied card r) (acknowledge_frame q) v.frame (acknowledge_arrives q a card room)) v
  arriving Reading v = reading (replied (λ (r : Reply). Turned card r ⊎ Shown q card r) (interrogate_frame q) v.frame (interrogate_arrives q a card room)) v
  arriving EndedDone v = end_turned q a start card line reply Done (nothing v.frame) v
  arriving EndedUnknown v = end_turned q a start card line reply Unknown (nothing v.frame) v
