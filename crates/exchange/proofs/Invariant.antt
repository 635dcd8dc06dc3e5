-- What is so in each phase of the master, and that every call but a step and an arrival keeps it. Assumes nothing.
use Rattle.std.proofs.Common.{◌≡◌, ℕ, ◌+◌, ◌-◌, ◌<◌, ◌≤◌, Bool, true, ◌⊎◌, List, [], ◌∷◌, length, get_or, take, sym, ap, ◌∙◌, inl, inr, arith, get_or-take}
use Prim.{Unit, tt}
use Rattle.card.specs.Layout.{Card, kind_at, pending_size}
use Rattle.card.specs.Change.{memory_start, writable_start}
use Rattle.datalink.specs.Answer.{response}
use Rattle.master.specs.Request.{Request, named_by, as_asked}
use Rattle.master.specs.Frames.{body, change_frame, acknowledge_frame, interrogate_frame, echo}
use Rattle.master.specs.declared.Phase.{Phase}
use Rattle.master.specs.declared.Phase.TheVariants.{New, Changing, Acknowledging, Reading, EndedDone, EndedUnknown}
use Rattle.master.specs.declared.Verdict.{Verdict}
use Rattle.master.specs.declared.Verdict.TheVariants.{Done, Unknown}
use Rattle.exchange.specs.Line.{Line, World, change_round, acknowledge_round, interrogate_round}
use Rattle.exchange.specs.Demand.{all_lossless, due}
use Rattle.calls.proofs.Memory.{Same, None, Mild}
use Rattle.exchange.proofs.Memory.{Range, Ours, ours_then, AskedOf}

-- what holds of every answer of the round
abbrev pub Every : (List ℕ → Type 0) → List (List ℕ) → Type 0
Every P [] = Unit {0}
Every P (a ∷ answers) = P a × Every P answers

pub every_map : {P R : List ℕ → Type 0} (answers : List (List ℕ)) → ((a : List ℕ) → P a → R a) → Every P answers → Every R answers
every_map [] f e = tt
every_map (a ∷ answers) f e = (f a e.0, every_map answers f e.1)

-- the master's change is pending, or nothing is
abbrev pub Held : Request → Card → Type 0
Held q card = Ours q card.ports ⊎ None card.ports

-- an exact echo; then the range is writable, and the change is pending or was dropped
pub record EchoHeard (q : Request) (card : Card) (a : List ℕ) : Type 0 where
  pub exact : a ≡ echo q
  pub range : Range q
  pub held : Held q card

-- a response that shows the named bytes as they now are
pub record Shows (q : Request) (card : Card) (a : List ℕ) : Type 0 where
  pub read : List ℕ
  pub long : length read ≡ named_by q.ask
  pub form : a ≡ response q.ia (body (named_by q.ask) q.address read)
  pub bytes : (i : ℕ) → i < named_by q.ask → get_or read i 0 ≡ get_or card.memory (q.address - memory_start + i) 0

-- not applied: memory is old, and the change is pending or was dropped
pub record Before (q : Request) (start card : Card) : Type 0 where
  pub old : Same start card
  pub held : Held q card

-- applied, and nothing is pending
pub record After (q : Request) (start card : Card) : Type 0 where
  pub asked : AskedOf q start card
  pub none : None card.ports

abbrev pub Stand : Request → Card → Card → Type 0
Stand q start card = Before q start card ⊎ After q start card

pub record AtNew (start card : Card) (line : Line) : Type 0 where
  pub old : Same start card
  pub frame : line.frame ≡ []
  pub frames : line.frames ≡ 0
  pub closed : line.closed ≡ []

pub record AtChanging (q : Request) (start card : Card) (line : Line) : Type 0 where
  pub old : Same start card
  pub frame : line.frame ≡ change_frame q
  pub frames : line.frames ≡ change_round
  pub closed : line.closed ≡ []
  pub heard : Every (EchoHeard q card) line.answers

pub record AtAcknowledging (q : Request) (start card : Card) (line : Line) : Type 0 where
  pub range : Range q
  pub stand : Stand q start card
  pub frame : line.frame ≡ acknowledge_frame q
  pub frames : line.frames ≡ acknowledge_round
  pub one : Bool
  pub closed : line.closed ≡ one ∷ []
  -- an acknowledge that reached the card was applied
  pub carried : line.reached ≡ true → After q start card

pub record AtReading (q : Request) (start card : Card) (line : Line) : Type 0 where
  pub range : Range q
  pub stand : Stand q start card
  pub frame : line.frame ≡ interrogate_frame q
  pub frames : line.frames ≡ interrogate_round
  pub one : Bool
  pub two : Bool
  pub closed : line.closed ≡ two ∷ one ∷ []
  pub carried : two ≡ true → After q start card
  pub heard : Every (Shows q card) line.answers

-- the named bytes are as asked, and the others old
pub record Asked (q : Request) (start card : Card) : Type 0 where
  pub range : Range q
  pub asked : AskedOf q start card

-- the named bytes are as asked
pub record AllNamed (q : Request) (start card : Card) : Type 0 where
  pub range : Range q
  pub asked : (i : ℕ) → i < named_by q.ask → get_or card.memory (q.address - memory_start + i) 0 ≡ as_asked q.ask (get_or start.memory (q.address - memory_start + i) 0) i

abbrev pub Settled : Request → Card → Card → Type 0
Settled q start card = Same start card ⊎ Asked q start card

pub record AtEnd (q : Request) (start : Card) (verdict : Verdict) (card : Card) (line : Line) : Type 0 where
  pub settled : Settled q start card
  pub frame : line.frame ≡ []
  pub sure : verdict ≡ Done → AllNamed q start card
  pub rounds : all_lossless line.closed ≡ true → verdict ≡ due line.closed
  pub early : line.frames ≤ change_round → Same start card

abbrev pub InvAt : Request → Card → Phase → Card → Line → Type 0
InvAt q start New card line = AtNew start card line
InvAt q start Changing card line = AtChanging q start card line
InvAt q start Acknowledging card line = AtAcknowledging q start card line
InvAt q start Reading card line = AtReading q start card line
InvAt q start EndedDone card line = AtEnd q start Done card line
InvAt q start EndedUnknown card line = AtEnd q start Unknown card line

abbrev pub Inv : Request → Card → World Phase → Type 0
Inv q start w = InvAt q start w.state w.card w.line

-- memory that stays

pub same_then : {a b c : Card} → Same a b → Same b c → Same a c
same_then p r = record { at = λ j h. r.at j h ∙ p.at j h }

-- a named byte is from 1010h on
pub named_high : (q : Request) → Range q → (i : ℕ) → i < named_by q.ask → writable_start - memory_start ≤ q.address - memory_start + i
named_high q r i h = omega (arith, r.above i h)

asked_then : (q : Request) (a b c : Card) → Range q → AskedOf q a b → Same b c → AskedOf q a c
asked_then q a b c r p s =
    record { asked = λ i h. s.at (q.address - memory_start + i) (named_high q r i h) ∙ p.asked i h; others = λ j h out. s.at j h ∙ p.others j h out }

pub then_asked : (q : Request) (a b c : Card) → Range q → Same a b → AskedOf q b c → AskedOf q a c
then_asked q a b c r s p =
    record {
      asked = λ i h. p.asked i h ∙ ap (λ (x : ℕ). as_asked q.ask x i) (s.at (q.address - memory_start + i) (named_high q r i h));
      others = λ j h out. p.others j h out ∙ s.at j h;
    }

-- a call that is mild, as restart, another's frame and every other entry

module _ (q : Request) (start a b : Card) (m : Mild a b) where
  none_then : None a.ports → None b.ports
  none_then n = by m.ports
    where
      by : (take pending_size b.ports ≡ take pending_size a.ports) ⊎ None b.ports → None b.ports
      by (inl e) =
          record { kind = sym (get_or-take pending_size b.ports kind_at 0 (omega arith)) ∙ ap (λ (p : List ℕ). get_or p kind_at 0) e ∙ get_or-take pending_size a.ports kind_at 0 (omega arith) ∙ n.kind }
      by (inr e) = e

  held_then : Held q a → Held q b
  held_then (inl o) = by m.ports
    where
      by : (take pending_size b.ports ≡ take pending_size a.ports) ⊎ None b.ports → Held q b
      by (inl e) = inl (ours_then q a.ports b.ports o e)
      by (inr e) = inr e
  held_then (inr n) = inr (none_then n)

  after_then : Range q → After q start a → After q start b
  after_then r f = record { asked = asked_then q start a b r f.asked m.memory; none = none_then f.none }

  stand_then : Range q → Stand q start a → Stand q start b
  stand_then r (inl f) = inl (record { old = same_then f.old m.memory; held = held_then f.held })
  stand_then r (inr f) = inr (after_then r f)

  settled_then : Settled q start a → Settled q start b
  settled_then (inl s) = inl (same_then s m.memory)
  settled_then (inr s) = inr (record { range = s.range; asked = asked_then q start a b s.range s.asked m.memory })

  echo_then : (x : List ℕ) → EchoHeard q a x → EchoHeard q b x
  echo_then x e = record { exact = e.exact; range = e.range; held = held_then e.held }

  shows_then : Range q → (x : List ℕ) → Shows q a x → Shows q b x
  shows_then r x s =
      record { read = s.read; long = s.long; form = s.form; bytes = λ i h. s.bytes i h ∙ sym (m.memory.at (q.address - memory_start + i) (named_high q r i h)) }

  end_then : (verdict : Verdict) (line : Line) → AtEnd q start verdict a line → AtEnd q start verdict b line
  end_then verdict line v =
      record {
        settled = settled_then v.settled;
        frame = v.frame;
        sure = λ e.
            let n = v.sure e in
            record { range = n.range; asked = λ i h. m.memory.at (q.address - memory_start + i) (named_high q n.range i h) ∙ n.asked i h };
        rounds = v.rounds;
        early = λ h. same_then (v.early h) m.memory;
      }

  pub mildly : (phase : Phase) (line : Line) → InvAt q start phase a line → InvAt q start phase b line
  mildly New line v = record { old = same_then v.old m.memory; frame = v.frame; frames = v.frames; closed = v.closed }
  mildly Changing line v =
      record { old = same_then v.old m.memory; frame = v.frame; frames = v.frames; closed = v.closed; heard = every_map line.answers echo_then v.heard }
  mildly Acknowledging line v =
      record {
        range = v.range;
        stand = stand_then v.range v.stand;
        frame = v.frame;
        frames = v.frames;
        one = v.one;
        closed = v.closed;
        carried = λ e. after_then v.range (v.carried e);
      }
  mildly Reading line v =
      record {
        range = v.range;
        stand = stand_then v.range v.stand;
        frame = v.frame;
        frames = v.frames;
        one = v.one;
        two = v.two;
        closed = v.closed;
        carried = λ e. after_then v.range (v.carried e);
        heard = every_map line.answers (shows_then v.range) v.heard;
      }
  mildly EndedDone line v = end_then Done line v
  mildly EndedUnknown line v = end_then Unknown line v
