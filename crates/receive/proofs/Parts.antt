-- What the four dialects' receivers have in common, and where part frames stand in the row. Assumes nothing.
use Rattle.std.proofs.Common.{◌≡◌, refl, true, false, List, [], ◌∷◌, ◌++◌, ℕ, ◌+◌, ◌-◌, ◌≤◌, ◌<◌, arith, leb-true, le-leb, leb, length, drop, length-drop, length-take-le, sym, ap, ◌∙◌, subst, Bool}
use borrow.Author.Tests.{lt-leb}
use Rattle.wire.specs.Buffer.{part}
use Rattle.wire.proofs.Tests.{and_true}
use Rattle.receiver.specs.Step.Fate.{Kept}
use Rattle.card.specs.Layout.{Card, pending_size, row_size}
use Rattle.card.specs.Row.{count_at}
use Rattle.card.specs.Fitness.{fit}
use Rattle.card.specs.Fit.{Fit}
use Rattle.card.proofs.Facts.{fit_facts}
use Rattle.datalink.specs.Receiver as datalinkReceiver
use Rattle.lecom.specs.Receiver as lecomReceiver
use Rattle.love.specs.Receiver as loveReceiver
use Rattle.lucid.specs.Receiver as lucidReceiver
use Rattle.datalink.proofs.Receiver as datalinkLaws
use Rattle.lecom.proofs.Receiver as lecomLaws
use Rattle.love.proofs.Receiver as loveLaws
use Rattle.lucid.proofs.Receiver as lucidLaws
use Rattle.receive.specs.Parts.{step_of, longest_of, held_by, part_at, bytes_at, front, part_of, within, all_within}
use Rattle.receiver.specs.Step.{Step}
use Rattle.receiver.specs.Place.{Placed, Room, Sure}
use Rattle.receiver.specs.declared.Place.{Place}
use Rattle.receive.specs.Rules.{IsOf}
use Rattle.receive.specs.Receive.{ready}
use Rattle.receive.specs.Stages.{Held}
use Rattle.receive.specs.declared.Dialect.{Dialect}
use Rattle.receive.specs.declared.Dialect.TheVariants.{Datalink, Lecom, Love, Lucid}

-- the pending change stands before every part frame
pub part_behind : (d : Dialect) → pending_size ≤ part_at d
part_behind Datalink = omega arith
part_behind Lecom = omega arith
part_behind Love = omega arith
part_behind Lucid = omega arith

-- a part frame of the longest has room in the row
pub part_inside : (d : Dialect) → bytes_at d + longest_of d ≤ row_size
part_inside Datalink = omega arith
part_inside Lecom = omega arith
part_inside Love = omega arith
part_inside Lucid = omega arith

-- a frame may have a byte, and no more than the longest of LucidControl
pub longest_some : (d : Dialect) → (1 ≤ longest_of d) × (longest_of d ≤ longest_of Lucid)
longest_some Datalink = (omega arith, omega arith)
longest_some Lecom = (omega arith, omega arith)
longest_some Love = (omega arith, omega arith)
longest_some Lucid = (omega arith, omega arith)

pub kept_by : (d : Dialect) (p : List ℕ) (b : ℕ) (xs : List ℕ) → held_by d (p ++ (b ∷ xs)) ≡ true → step_of d p b ≡ Kept (p ++ (b ∷ []))
kept_by Datalink p b xs h = datalinkLaws.kept p b xs h
kept_by Lecom p b xs h = lecomLaws.kept p b xs h
kept_by Love p b xs h = loveLaws.kept p b xs h
kept_by Lucid p b xs h = lucidLaws.kept p b xs h

pub stays_held : (d : Dialect) (p : List ℕ) (b : ℕ) (q : List ℕ) → held_by d p ≡ true → step_of d p b ≡ Kept q → held_by d q ≡ true
stays_held Datalink p b q h e = datalinkLaws.stays_held p b q h e
stays_held Lecom p b q h e = lecomLaws.stays_held p b q h e
stays_held Love p b q h e = loveLaws.stays_held p b q h e
stays_held Lucid p b q h e = lucidLaws.stays_held p b q h e

pub held_rest : (d : Dialect) → held_by d [] ≡ true
unfolding datalinkReceiver.held lecomReceiver.held loveReceiver.held lucidReceiver.held lucidReceiver.complete
held_rest Datalink = refl
held_rest Lecom = refl
held_rest Love = refl
held_rest Lucid = refl

-- what the type of a dialect tells, told of the dialect
module _ {d : Dialect} {step : Step} {held : List ℕ → Bool} {longest at : ℕ} (r : IsOf d step held longest at) where
  pub held_to : (p : List ℕ) → held_by d p ≡ true → held p ≡ true
  held_to p h = ap (λ (f : List ℕ → Bool). f p) r.holds ∙ h

  pub holds_by : (p : List ℕ) → held p ≡ held_by d p
  holds_by p = ap (λ (f : List ℕ → Bool). f p) r.holds

  pub placed_by : (p : List ℕ) (b : ℕ) (place : Place) → Placed step longest p b place → Placed (step_of d) (longest_of d) p b place
  placed_by p b place k = record { fate = ap (λ (f : Step). f p b) (sym r.steps) ∙ k.fate; room = subst (λ (n : ℕ). Room n (length p) place) r.most k.room }

  pub sure_by : (p : List ℕ) (n : ℕ) → Sure held longest p n → Sure (held_by d) (longest_of d) p n
  sure_by p n k = record { kept = λ more h. ap (λ (f : List ℕ → Bool). f (p ++ more)) (sym r.holds) ∙ k.kept more h; room = subst (λ (m : ℕ). length p + n ≤ m) r.most k.room }

pub front_length : (d : Dialect) (n : ℕ) (row : List ℕ) → length row ≡ row_size → n ≤ longest_of d → length (front d n row) ≡ n
front_length d n row l h = length-take-le n (drop (bytes_at d) row) (omega (arith, length-drop (bytes_at d) row, part_inside d))

-- the first n bytes as a slice
pub slice_front : (d : Dialect) (first n : ℕ) (row : List ℕ) → first ≡ bytes_at d → part row first (first + n) ≡ front d n row
slice_front d first n row e = let k : first + n - first ≡ n = omega arith in rw (k, e)

-- the test of a part frame, its count first
pub within_long : (d : Dialect) (n : ℕ) (row : List ℕ) → n ≡ count_at (part_at d) row → longest_of d < n → false ≡ within d row
unfolding within
within_long d n row e l = rw (← e, lt-leb n (longest_of d) l)

pub within_held : (d : Dialect) (n : ℕ) (row : List ℕ) → n ≡ count_at (part_at d) row → n ≤ longest_of d → held_by d (front d n row) ≡ within d row
unfolding within
within_held d n row e l = rw (← e, le-leb n (longest_of d) l)

-- what is known of a part frame that passed
within_facts : (d : Dialect) (row : List ℕ) → within d row ≡ true → Held d (count_at (part_at d) row) row
unfolding within
within_facts d row e =
    let t = and_true (leb (count_at (part_at d) row) (longest_of d)) (held_by d (part_of d row)) e in
    record { few = leb-true (count_at (part_at d) row) (longest_of d) t.0; held = t.1 }

each_within : (d : Dialect) (row : List ℕ) → all_within row ≡ true → within d row ≡ true
unfolding all_within
each_within Datalink row e = (and_true (within Datalink row) _ e).0
each_within Lecom row e = (and_true (within Lecom row) _ (and_true (within Datalink row) _ e).1).0
each_within Love row e = (and_true (within Love row) (within Lucid row) (and_true (within Lecom row) _ (and_true (within Datalink row) _ e).1).1).0
each_within Lucid row e = (and_true (within Love row) (within Lucid row) (and_true (within Lecom row) _ (and_true (within Datalink row) _ e).1).1).1

pub ready_within : (card : Card) → ready card ≡ true → (fit card ≡ true) × ((d : Dialect) → within d card.ports ≡ true)
unfolding ready
ready_within card e =
    let t = and_true (fit card) (all_within card.ports) e in
    (t.0, λ d. each_within d card.ports t.1)

-- what is known of a card that is ready
pub ready_facts : (card : Card) → ready card ≡ true → Fit card × ((d : Dialect) → Held d (count_at (part_at d) card.ports) card.ports)
ready_facts card e = let t = ready_within card e in (fit_facts card t.0, λ d. within_facts d card.ports (t.1 d))
