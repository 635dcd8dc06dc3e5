-- The invariant under the master's step. Assumes nothing.
use Rattle.std.proofs.Common.{◌≡◌, ℕ, zero, suc, ◌+◌, ◌-◌, ◌<◌, Bool, true, false, ◌&&◌, ◌||◌, ltb, leb, ◌⊎◌, List, [], ◌∷◌, length, get_or, sym, refl, ap, ◌∙◌, subst, ap₂, inl, inr, arith}
use Prim.{Unit, tt}
use Rattle.wire.proofs.Tests.{and_true}
use Rattle.wire.specs.Choose.{choose}
use Rattle.card.specs.Numbers.{value_outside, buffer_short}
use Rattle.card.specs.Layout.{Card}
use Rattle.card.specs.Change.{memory_start}
use Rattle.datalink.specs.Form.{framed, longest}
use Rattle.datalink.specs.Frame.{is_acknowledge}
use Rattle.datalink.specs.Answer.{response}
use Rattle.master.specs.Request.{Request, named_by, as_asked, askable}
use Rattle.master.specs.Accepted.{Accepted}
use Rattle.master.specs.Frames.{body, change_frame, acknowledge_frame, interrogate_frame, echo, is_echo, shown_in, is_response, all_asked, confirms}
use Rattle.master.specs.Step.{Move, sends, ends, refuses, move, step_of}
use Rattle.master.specs.declared.Phase.{Phase}
use Rattle.master.specs.declared.Phase.TheVariants.{New, Changing, Acknowledging, Reading, EndedDone, EndedUnknown}
use Rattle.master.specs.declared.Verdict.TheVariants.{Done, Unknown}
use Rattle.wire.proofs.Same.{same_refl}
use Rattle.master.proofs.Frames.{asked_all, all_asked_law, shown_response}
use Rattle.master.proofs.Forced.{asked_again}
use Rattle.wire.specs.Buffer.{same}
use Rattle.exchange.specs.Calls.{Choice}
use Rattle.exchange.specs.Calls.Choice.{none, answer}
use Rattle.exchange.specs.Line.{Line, nth, heard, is_answer, lossless, closing, after_step, change_round, acknowledge_round, interrogate_round}
use Rattle.exchange.specs.Demand.{all_lossless, due}
use Rattle.exchange.proofs.Orders.{change_awaits, interrogate_awaits}
use Rattle.exchange.proofs.Memory.{Range, AskedOf}
use Rattle.exchange.proofs.Invariant.{Every, EchoHeard, Shows, Stand, AtChanging, AtReading, AllNamed, Settled, InvAt, named_high}

never : {A : Type 0} → ◌≡◌ {A = Bool} false true → A
never e = let z : ◌≡◌ {A = ℕ} 0 1 = cc in let y : ⊥ = omega arith in absurd y

not_done : {A : Type 0} → Unknown ≡ Done → A
not_done e = let z : ◌≡◌ {A = ℕ} 0 1 = cc in let y : ⊥ = omega arith in absurd y

-- what a step got: nothing, or an answer of which what holds of every answer holds
abbrev Got : (List ℕ → Type 0) → List ℕ → Type 0
Got P got = (got ≡ []) ⊎ P got

nth_got : (P : List ℕ → Type 0) (answers : List (List ℕ)) (k : ℕ) → Every P answers → Got P (nth answers k)
nth_got P [] k e = inl refl
nth_got P (a ∷ answers) zero e = inr e.0
nth_got P (a ∷ answers) (suc k) e = nth_got P answers k e.1

heard_got : (P : List ℕ → Type 0) (line : Line) (choice : Choice) → Every P line.answers → Got P (heard line choice)
heard_got P line none e = inl refl
heard_got P line (answer k) e = nth_got P line.answers k e

-- the rounds closed by a step in the n-th round
closing_at : (line : Line) (got : List ℕ) (n : ℕ) (rounds : List Bool) → line.frames ≡ n → line.closed ≡ rounds → ltb (length rounds) n ≡ true → closing line got ≡ lossless line got ∷ rounds
unfolding closing choose
closing_at line got n rounds f e t = rw (f, e, t)

-- before the first frame there is no round to close
closing_none : (line : Line) (got : List ℕ) → line.frames ≡ 0 → line.closed ≡ [] → closing line got ≡ []
unfolding closing choose
closing_none line got f e = rw (f, e)

-- a round whose closing step gets no answer is not lossless
unheard : {A : Type 0} (line : Line) (got : List ℕ) (rounds : List Bool) (f : List ℕ) → line.frame ≡ f → is_acknowledge f ≡ false → got ≡ [] → all_lossless (lossless line got ∷ rounds) ≡ true → A
unheard line got rounds f sent other e all =
    let lost : (is_acknowledge line.frame || is_answer got) ≡ false = rw (sent, other, e) in
    let one = (and_true (lossless line got) (all_lossless rounds) all).0 in
    never (sym lost ∙ (and_true line.reached (is_acknowledge line.frame || is_answer got) one).1)

no_echo : (q : Request) (got : List ℕ) → got ≡ [] → is_echo q got ≡ false
unfolding is_echo echo response framed same
no_echo q got e = rw e

no_read_back : (q : Request) (got : List ℕ) → got ≡ [] → confirms q got ≡ false
unfolding confirms is_response response framed same
no_read_back q got e = rw e

module _ (q : Request) (start card : Card) where
  abbrev byte : ℕ → ℕ
  byte i = get_or card.memory (q.address - memory_start + i) 0

  shown_read : (got : List ℕ) (s : Shows q card got) → shown_in q got ≡ s.read
  shown_read got s = ap (shown_in q) s.form ∙ shown_response q s.read s.long

  -- what a good read-back shows does not change when it is asked for again
  good_read : (got : List ℕ) → Shows q card got → confirms q got ≡ true → (i : ℕ) → i < named_by q.ask → as_asked q.ask (byte i) i ≡ byte i
  unfolding confirms
  good_read got s e i h =
      let p = and_true (is_response q got) (all_asked q.ask (shown_in q got) (named_by q.ask)) e in
      let b : get_or (shown_in q got) i 0 ≡ byte i = ap (λ (x : List ℕ). get_or x i 0) (shown_read got s) ∙ s.bytes i h in
      subst (λ (x : ℕ). as_asked q.ask x i ≡ x) b (asked_all q.ask (shown_in q got) (named_by q.ask) p.1 i h)

  -- memory as asked gives a good read-back
  read_good : (got : List ℕ) → Shows q card got → AskedOf q start card → confirms q got ≡ true
  unfolding confirms is_response
  read_good got s f =
      let n = named_by q.ask in
      let form : got ≡ response q.ia (body n q.address (shown_in q got)) = s.form ∙ ap (λ (x : List ℕ). response q.ia (body n q.address x)) (sym (shown_read got s)) in
      let one : same got (response q.ia (body n q.address (shown_in q got))) ≡ true = ap (same got) (sym form) ∙ same_refl got in
      let all : all_asked q.ask (shown_in q got) n ≡ true =
      ap (λ (x : List ℕ). all_asked q.ask x n) (shown_read got s)
      ∙ all_asked_law q.ask s.read n
      (λ i h. subst (λ (x : ℕ). as_asked q.ask x i ≡ x) (sym (s.bytes i h ∙ f.asked i h)) (asked_again q.ask (get_or start.memory (q.address - memory_start + i) 0) i)) in
      ap₂ ◌&&◌ one all

  pub settle : Range q → Stand q start card → Settled q start card
  settle r (inl b) = inl b.old
  settle r (inr f) = inr (record { range = r; asked = f.asked })

  -- a good read-back: every named byte is as asked, whether the change was applied or the bytes were so before
  confirm : Range q → Stand q start card → ((i : ℕ) → i < named_by q.ask → as_asked q.ask (byte i) i ≡ byte i) → AllNamed q start card
  confirm r (inl b) g =
      record { range = r; asked = λ i h. sym (g i h) ∙ ap (λ (x : ℕ). as_asked q.ask x i) (b.old.at (q.address - memory_start + i) (named_high q r i h)) }
  confirm r (inr f) g = record { range = r; asked = f.asked.asked }

  module _ (a : Accepted q) (line : Line) (got : List ℕ) where
    -- what is known of what a step got
    abbrev Is : Phase → Type 0
    Is New = Unit {0}
    Is Changing = Got (EchoHeard q card) got
    Is Acknowledging = Unit {0}
    Is Reading = Got (Shows q card) got
    Is EndedDone = Unit {0}
    Is EndedUnknown = Unit {0}

    -- the invariant after a move
    abbrev Moved : Move Phase → Type 0
    Moved m = InvAt q start m.state card (after_step line got m)

    by_echo : (t : Bool) → is_echo q got ≡ t → Got (EchoHeard q card) got → AtChanging q start card line → Moved (choose t (sends (acknowledge_frame q) Acknowledging) (ends EndedUnknown))
    unfolding after_step choose is_echo
    by_echo true e (inl n) v = never (sym (no_echo q got n) ∙ e)
    by_echo true e (inr h) v =
        record {
          range = h.range;
          stand = inl (record { old = v.old; held = h.held });
          frame = refl;
          frames = ap suc v.frames;
          one = lossless line got;
          closed = closing_at line got change_round [] v.frames v.closed refl;
          carried = λ u. never u;
        }
    by_echo false e (inl n) v =
        record {
          settled = inl v.old;
          frame = refl;
          sure = λ u. not_done u;
          rounds = λ g. unheard line got [] (change_frame q) v.frame (change_awaits q a) n (ap all_lossless (sym (closing_at line got change_round [] v.frames v.closed refl)) ∙ g);
          early = λ _. v.old;
        }
    by_echo false e (inr h) v = never (sym e ∙ ap (λ (x : List ℕ). same x (echo q)) h.exact ∙ same_refl (echo q))

    by_read_back : (t : Bool) → confirms q got ≡ t → Got (Shows q card) got → AtReading q start card line → Moved (choose t (ends EndedDone) (ends EndedUnknown))
    unfolding after_step choose
    by_read_back true e (inl n) v = never (sym (no_read_back q got n) ∙ e)
    by_read_back true e (inr s) v =
        record {
          settled = settle v.range v.stand;
          frame = refl;
          sure = λ _. confirm v.range v.stand (good_read got s e);
          rounds = λ _. sym (ap due (closing_at line got interrogate_round (v.two ∷ v.one ∷ []) v.frames v.closed refl));
          early = λ h. let z : ⊥ = omega (arith, v.frames) in absurd z;
        }
    by_read_back false e i v =
        let closes = closing_at line got interrogate_round (v.two ∷ v.one ∷ []) v.frames v.closed refl in
        record {
          settled = settle v.range v.stand;
          frame = refl;
          sure = λ u. not_done u;
          rounds = λ g. lost i (ap all_lossless (sym closes) ∙ g);
          early = λ h. let z : ⊥ = omega (arith, v.frames) in absurd z;
        }
      where
        lost : Got (Shows q card) got → all_lossless (lossless line got ∷ v.two ∷ v.one ∷ []) ≡ true → Unknown ≡ due (closing line got)
        lost (inl n) g = unheard line got (v.two ∷ v.one ∷ []) (interrogate_frame q) v.frame (interrogate_awaits q a) n g
        lost (inr s) g =
            let rest = (and_true (lossless line got) (all_lossless (v.two ∷ v.one ∷ [])) g).1 in
            let f = v.carried (and_true v.two (all_lossless (v.one ∷ [])) rest).0 in
            never (sym e ∙ read_good got s f.asked)

    moving : (phase : Phase) → Is phase → InvAt q start phase card line → Moved (move q phase got)
    unfolding move after_step choose
    moving New i v = record { old = v.old; frame = refl; frames = ap suc v.frames; closed = closing_none line got v.frames v.closed; heard = tt }
    moving Changing i v = by_echo (is_echo q got) refl i v
    moving Acknowledging i v =
        record {
          range = v.range;
          stand = v.stand;
          frame = refl;
          frames = ap suc v.frames;
          one = v.one;
          two = lossless line got;
          closed = closing_at line got acknowledge_round (v.one ∷ []) v.frames v.closed refl;
          carried = λ u. v.carried (and_true line.reached (is_acknowledge line.frame || is_answer got) u).0;
          heard = tt;
        }
    moving Reading i v = by_read_back (confirms q got) refl i v
    moving EndedDone i v = v
    moving EndedUnknown i v = v

  is_heard : (a : Accepted q) (line : Line) (choice : Choice) (phase : Phase) → InvAt q start phase card line → Is a line (heard line choice) phase
  is_heard a line choice New v = tt
  is_heard a line choice Changing v = heard_got (EchoHeard q card) line choice v.heard
  is_heard a line choice Acknowledging v = tt
  is_heard a line choice Reading v = heard_got (Shows q card) line choice v.heard
  is_heard a line choice EndedDone v = tt
  is_heard a line choice EndedUnknown v = tt

  -- a refused step leaves phase and line; any other is the phase's move
  pub stepping : (a : Accepted q) (line : Line) (choice : Choice) (phase : Phase) (room : ℕ) → InvAt q start phase card line → Moved a line (heard line choice) (step_of q phase (heard line choice) room)
  unfolding step_of after_step choose
  stepping a line choice phase room v = by (askable q) (leb longest room)
    where
      by : (s t : Bool) → Moved a line (heard line choice) (choose s (choose t (move q phase (heard line choice)) (refuses buffer_short phase)) (refuses value_outside phase))
      by true true = moving a line (heard line choice) phase (is_heard a line choice phase v) v
      by true false = v
      by false t = v
