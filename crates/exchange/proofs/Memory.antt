-- Writable memory and the pending change under each call of the card. Assumes nothing.
use Rattle.std.proofs.Common.{◌≡◌, ℕ, zero, suc, ◌+◌, ◌-◌, ◌*◌, ◌/◌, ◌%◌, ◌<◌, ◌≤◌, Bool, true, false, not, ◌&&◌, eqb, ltb, leb, List, ◌∷◌, ◌++◌, length, get_or, take, drop, set, bit_and, bit_or, sym, refl, ap, ◌∙◌, ap₂, arith, take-append-drop, get_or-set_other, get_or-set_same, take-take, ltb-false, eqb-true, leb-true}
use borrow.Author.Tests.{eqb-false}
use lib.ListN.{get_or-append}
use lib.Seq.{take-append_seam}
use Rattle.wire.proofs.Tests.{and_true}
use Rattle.wire.specs.Choose.{choose}
use Rattle.wire.specs.Buffer.{overlay}
use Rattle.card.specs.Layout.{Card, data_most, pending_size}
use Rattle.card.specs.Change.{memory_start, memory_end, writable_start, in_memory, names_read_only, two_bytes}
use Rattle.card.specs.Fitness.{fit}
use Rattle.card.specs.Reply.{sent}
use Rattle.card.proofs.Facts.{fit_facts}
use Rattle.datalink.specs.Answer.{new_byte, changed, applied_to, applied, pended}
use Rattle.datalink.proofs.Fits.{length_changed}
use Rattle.master.specs.Request.{Ask, Request, named_by, named_most, paired, as_asked}
use Rattle.master.specs.Request.Ask.{bytes, bits}
use Rattle.master.specs.Accepted.{Accepted}
use Rattle.master.specs.Frames.{pairs, data_of, change_body}
use Rattle.master.proofs.Frames.{pairs_length, pairs_at}
use Rattle.calls.proofs.Memory.{Same, None, none_dropped}
use Rattle.exchange.specs.Demand.{writable_range}
use Rattle.exchange.proofs.Orders.{kind_for, named_for}

-- a change applied byte by byte

module _ (kind a : ℕ) (data' : List ℕ) where
  changed_other : (k : ℕ) (m : List ℕ) (j : ℕ) → ((i : ℕ) → i < k → j ≡ a + i → ⊥) → get_or (changed kind a data' k m) j 0 ≡ get_or m j 0
  unfolding changed
  changed_other zero m j out = refl
  changed_other (suc k) m j out = get_or-set_other (changed kind a data' k m) (a + k) j _ 0 (out k (omega arith)) ∙ changed_other k m j (λ i h. out i (omega arith))

  changed_at : (k : ℕ) (m : List ℕ) (i : ℕ) → i < k → a + k ≤ length m → get_or (changed kind a data' k m) (a + i) 0 ≡ new_byte kind (get_or m (a + i) 0) data' i
  unfolding changed
  changed_at zero m i h l = let z : ⊥ = omega arith in absurd z
  changed_at (suc k) m i h l = by (eqb i k) refl (changed_at k m i)
    where
      by : (t : Bool) → eqb i k ≡ t → (i < k → a + k ≤ length m → get_or (changed kind a data' k m) (a + i) 0 ≡ new_byte kind (get_or m (a + i) 0) data' i)
          → get_or (set (changed kind a data' k m) (a + k) (new_byte kind (get_or (changed kind a data' k m) (a + k) 0) data' k)) (a + i) 0 ≡ new_byte kind (get_or m (a + i) 0) data' i
      by true e r =
          let same : i ≡ k = eqb-true i k e in
          rw same (get_or-set_same (changed kind a data' k m) (a + k) _ 0 (rw (length_changed kind a data' k m) (omega arith)) ∙ ap (λ (x : ℕ). new_byte kind x data' k) (changed_other k m (a + k) (λ j g u. omega arith)))
      by false e r =
          let apart : i ≡ k → ⊥ = eqb-false i k e in
          get_or-set_other (changed kind a data' k m) (a + k) (a + i) _ 0 (λ u. apart (omega arith)) ∙ r (omega arith) (omega arith)

-- what a writable range is, as plain facts
pub record Range (q : Request) : Type 0 where
  pub low : memory_start ≤ q.address
  pub high : q.address + named_by q.ask ≤ memory_end
  pub above : (i : ℕ) → i < named_by q.ask → writable_start ≤ q.address

pub range : (q : Request) → writable_range q ≡ true → Range q
unfolding in_memory names_read_only
range q e =
    let n = named_by q.ask in
    let p = and_true (in_memory q.address n) (not (names_read_only q.address n)) e in
    let m = and_true (leb memory_start q.address) (leb (q.address + n) memory_end) p.0 in
    record { low = leb-true memory_start q.address m.0; high = leb-true (q.address + n) memory_end m.1; above = λ i h. by (eqb n 0) (ltb q.address writable_start) refl refl p.1 i h }
  where
    by : (s t : Bool) → eqb (named_by q.ask) 0 ≡ s → ltb q.address writable_start ≡ t → not (not s && t) ≡ true → (i : ℕ) → i < named_by q.ask → writable_start ≤ q.address
    by true t u v f i h = let z : ⊥ = omega (arith, eqb-true (named_by q.ask) 0 u) in absurd z
    by false true u v f i h = let z : ◌≡◌ {A = ℕ} 0 1 = cc in let y : ⊥ = omega arith in absurd y
    by false false u v f i h = ltb-false q.address writable_start v

-- the master's change is pending
pub record Ours (q : Request) (ports : List ℕ) : Type 0 where
  pub rest : List ℕ
  pub front : ports ≡ (kind_for q.ask ∷ change_body q) ++ rest
  pub short : length (kind_for q.ask ∷ change_body q) ≤ pending_size

-- it stays so in a row with the same pending change
pub ours_then : (q : Request) (ports ports' : List ℕ) → Ours q ports → take pending_size ports' ≡ take pending_size ports → Ours q ports'
ours_then q ports ports' o e =
    let c = kind_for q.ask ∷ change_body q in
    let t : take (length c) ports' ≡ c =
    sym (take-take (length c) pending_size ports' o.short) ∙ ap (take (length c)) e ∙ take-take (length c) pending_size ports o.short ∙ ap (take (length c)) o.front ∙ take-append_seam c o.rest in
    record { rest = drop (length c) ports'; front = sym (ap (λ (l : List ℕ). l ++ drop (length c) ports') (sym t) ∙ take-append-drop (length c) ports'); short = o.short }

data_few : (a : Ask) → named_by a ≤ named_most a → paired a ≡ true → length (data_of a) ≤ data_most
data_few (bytes sent) few e = few
data_few (bits masks states) few e = omega (arith, pairs_length masks states (eqb-true (length masks) (length states) e))

-- the echo: memory stays, and the change is the pending one
pub ours_pended : (q : Request) → Accepted q → (card : Card) → Ours q (pended card (kind_for q.ask) (change_body q)).ports
unfolding pended overlay
ours_pended q a card = record { rest = _; front = refl; short = omega (arith, data_few q.ask a.few a.pairs) }

pub same_pended : (q : Request) (card : Card) → Same card (pended card (kind_for q.ask) (change_body q))
unfolding pended
same_pended q card = record { at = λ j h. refl }

-- the acknowledge

-- the byte that is applied is the one asked for; only the data sent is read
new_asked : (a : Ask) → paired a ≡ true → (rest : List ℕ) (old i : ℕ) → i < named_by a → new_byte (kind_for a) old (data_of a ++ rest) i ≡ as_asked a old i
unfolding new_byte as_asked choose
new_asked (bytes sent) e rest old i h = get_or-append sent rest 0 i h
new_asked (bits masks states) e rest old i h =
    let l = eqb-true (length masks) (length states) e in
    let n = pairs_length masks states l in
    let p = pairs_at masks states i l h in
    ap₂ (λ (m s : ℕ). bit_or (bit_and old m) s)
    (get_or-append (pairs masks states) rest 0 (2 * i) (omega arith) ∙ p.0)
    (get_or-append (pairs masks states) rest 0 (2 * i + 1) (omega arith) ∙ p.1)

-- the named bytes are as asked of those of another card, the others are the same
pub record AskedOf (q : Request) (card card' : Card) : Type 0 where
  pub asked : (i : ℕ) → i < named_by q.ask → get_or card'.memory (q.address - memory_start + i) 0 ≡ as_asked q.ask (get_or card.memory (q.address - memory_start + i) 0) i
  pub others : (j : ℕ) → writable_start - memory_start ≤ j → ((i : ℕ) → i < named_by q.ask → j ≡ q.address - memory_start + i → ⊥) → get_or card'.memory j 0 ≡ get_or card.memory j 0

pub none_applied : (card : Card) → None (applied card).ports
unfolding applied
none_applied card = none_dropped card.ports

module _ (q : Request) (a : Accepted q) (r : Range q) (card : Card) (e : fit card ≡ true) (o : Ours q card.ports) where
  applied_memory : (applied card).memory ≡ changed (kind_for q.ask) (q.address - memory_start) (data_of q.ask ++ o.rest) (named_by q.ask) card.memory
  unfolding applied applied_to two_bytes
  applied_memory =
      let at : q.address % 256 + 256 * (q.address / 256) ≡ q.address = omega arith in
      rw (o.front, at, named_for q.ask a.pairs)

  pub asked_applied : AskedOf q card (applied card)
  asked_applied =
      let f = fit_facts card e in
      let sent = data_of q.ask ++ o.rest in
      let at = q.address - memory_start in
      let n = named_by q.ask in
      record {
        asked = λ i h.
            ap (λ (m : List ℕ). get_or m (at + i) 0) applied_memory
            ∙ changed_at (kind_for q.ask) at sent n card.memory i h (omega (arith, f.memory_length, r.high, r.low))
            ∙ new_asked q.ask a.pairs o.rest (get_or card.memory (at + i) 0) i h;
        others = λ j h out. ap (λ (m : List ℕ). get_or m j 0) applied_memory ∙ changed_other (kind_for q.ask) at sent n card.memory j out;
      }
