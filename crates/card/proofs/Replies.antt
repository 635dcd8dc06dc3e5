-- Laws of specs/Reply.antt: what an entry that stops early has given, and that a refusal changes nothing. Assumes nothing.
use Rattle.std.proofs.Common.{◌≡◌, ℕ, ◌+◌, ◌<◌, ◌≤◌, Bool, true, false, leb, List, [], ◌∷◌, ◌++◌, length, take, drop, set, sym, refl, ap, ◌∙◌, subst, ap₂, arith, length-append, take_at, le-leb, leb-true}
use Rattle.wire.specs.Choose.{choose}
use Rattle.wire.specs.Buffer.{put, overlay}
use Rattle.wire.proofs.Cases.{yes, no, by_choice}
use Rattle.wire.proofs.Buffers.{overlay_none, overlay_sets, overlay_set, overlay_put}
use Rattle.card.specs.Numbers.{answered, done, buffer_short, card_unfit}
use Rattle.card.specs.Layout.{Card, card_of, with_words}
use Rattle.card.specs.Fitness.{fit}
use Rattle.card.specs.declared.Outcome.{Outcome}
use Rattle.card.specs.Reply.{Reply, WordsReply, Answer, on_words, leaving, silent, done_with, done_reply, shell, early, guarded, Keeps, Gave, GaveWords, Wrote, Told, Did}

-- two cards are the same, table by table
pub same_card : {a b : Card} → a.words ≡ b.words → a.memory ≡ b.memory → a.ports ≡ b.ports → a ≡ b
same_card {a} {b} w m p = ap (λ (x : List ℕ). card_of x a.memory a.ports) w ∙ ap₂ (λ (x y : List ℕ). card_of b.words x y) m p

-- a number alone: nothing written, no table changed
pub did_silent : (number : ℕ) (card : Card) → Did (silent number card) number card
did_silent number card = record { quiet = refl; numbered = refl; left = refl }

pub gave_silent : (number : ℕ) (card : Card) (out : List ℕ) → Gave (silent number card) out (record { number = number; len = 0 }) card out
gave_silent number card out = record { numbered = refl; measured = refl; written = sym (overlay_none out); left = refl }

-- a done call of a new entry that hands over no bytes
pub did_done_reply : {card card' : Card} → card ≡ card' → Did (done_reply [] card') done card
unfolding done_with choose
did_done_reply e = record { quiet = refl; numbered = refl; left = e }

-- a reply known under another name
pub did_as : {number : ℕ} {card' : Card} (r q : Reply) → r ≡ q → Did r number card' → Did q number card'
did_as {number} {card'} r q e = subst (λ (x : Reply). Did x number card') e

pub gave_as : {out : List ℕ} {o : Outcome} {card' : Card} {out' : List ℕ} (r q : Reply) → r ≡ q → Gave r out o card' out' → Gave q out o card' out'
gave_as {out} {o} {card'} {out'} r q e = subst (λ (x : Reply). Gave x out o card' out') e

-- a number alone, and it is the reply
pub gave_number : {number : ℕ} {q : Reply} {card : Card} {out : List ℕ} {n : ℕ} → number ≡ n → silent n card ≡ q → Gave q out (record { number = number; len = 0 }) card out
gave_number {number} {q} {card} {out} {n} e s =
    gave_as (silent number card) q (ap (λ (k : ℕ). silent k card) e ∙ s) (gave_silent number card out)

-- an entry without an answer buffer that did a silent reply, where one with a buffer is meant
pub gave_did : (r : Reply) (out : List ℕ) {number : ℕ} {card' : Card} → Did r number card' → Gave r out (record { number = number; len = 0 }) card' out
gave_did r out d =
    record {
      numbered = d.numbered;
      measured = sym (ap length d.quiet);
      written = sym (ap (λ (b : List ℕ). overlay b out) d.quiet ∙ overlay_none out);
      left = d.left;
    }

-- a reply over the words alone is one of the card
pub gave_words : (card : Card) (r : WordsReply) (out : List ℕ) {o : Outcome} {words out' : List ℕ} → GaveWords r out o.number o.len words out'
    → Gave (on_words card r) out o (with_words card words) out'
gave_words card r out g =
    record { numbered = g.numbered; measured = g.measured; written = g.written; left = ap (with_words card) g.worded }

-- the shell let a request pass: the card is fit and the buffer is long enough
pub early_none : (least : ℕ) (card : Card) (room : ℕ) {number : ℕ} → number ≡ early least card room → number ≡ answered → (fit card ≡ true) × (least ≤ room)
unfolding early
early_none least card room {number} e z = by (fit card) (leb least room) refl refl
  where
    by : (f l : Bool) → fit card ≡ f → leb least room ≡ l → (fit card ≡ true) × (least ≤ room)
    by true true f l = (f, leb-true least room l)
    by true false f l = let w : answered ≡ buffer_short = sym z ∙ e ∙ sym (yes _ _ _ _ f (no _ _ _ _ l refl)) in absurd (omega arith)
    by false l f _ = let w : answered ≡ card_unfit = sym z ∙ e ∙ sym (no _ _ _ _ f refl) in absurd (omega arith)

module _ (least : ℕ) (card : Card) (out : List ℕ) (reply : Reply) where
  -- the number with which the shell stops is the reply
  pub shell_stopped : {number : ℕ} → number ≡ early least card (length out) → (number ≡ answered → ⊥)
      → Gave (shell least card (length out) reply) out (record { number = number; len = 0 }) card out
  unfolding shell early
  shell_stopped {number} e n = by (fit card) (leb least (length out)) refl refl
    where
      by : (f l : Bool) → fit card ≡ f → leb least (length out) ≡ l
          → Gave (shell least card (length out) reply) out (record { number = number; len = 0 }) card out
      by true true f l = absurd (n (e ∙ sym (yes _ _ _ _ f (yes _ _ _ _ l refl))))
      by true false f l = gave_number (e ∙ sym (yes _ _ _ _ f (no _ _ _ _ l refl))) (yes _ _ _ _ f (no _ _ _ _ l refl))
      by false l f _ = gave_number (e ∙ sym (no _ _ _ _ f refl)) (no _ _ _ _ f refl)

  pub shell_passed : {o : Outcome} {card' : Card} {out' : List ℕ} → fit card ≡ true → least ≤ length out
      → Gave reply out o card' out' → Gave (shell least card (length out) reply) out o card' out'
  unfolding shell
  shell_passed h l = gave_as reply _ (yes _ _ _ _ h (yes _ _ _ _ (le-leb least (length out) l) refl))

-- a refusal changes no table: once for every entry that goes through the shell
pub keeps_silent : (number : ℕ) (card : Card) → Keeps card (silent number card)
keeps_silent number card = record { kept = λ _. refl }

pub shell_keeps : (least : ℕ) (card : Card) (room : ℕ) (reply : Reply) → Keeps card reply → Keeps card (shell least card room reply)
unfolding shell
shell_keeps least card room reply k =
    by_choice (Keeps card) (fit card) _ _
    (λ _. by_choice (Keeps card) (leb least room) _ _ (λ _. k) (λ _. keeps_silent buffer_short card))
    (λ _. keeps_silent card_unfit card)

pub guarded_keeps : (card : Card) (reply : Reply) → Keeps card reply → Keeps card (guarded card reply)
unfolding guarded
guarded_keeps card reply k = by_choice (Keeps card) (fit card) _ _ (λ _. k) (λ _. keeps_silent card_unfit card)

-- bytes known under another name
pub wrote_as : {out out' : List ℕ} {len : ℕ} (a b : List ℕ) → a ≡ b → Wrote a out len out' → Wrote b out len out'
wrote_as {out} {out'} {len} a b e = subst (λ (x : List ℕ). Wrote x out len out') e

-- An answer that grows at its end

-- nothing was written
pub wrote_none : (out : List ℕ) → Wrote [] out 0 out
wrote_none out = record { measured = refl; written = sym (overlay_none out) }

-- an answer known under another name
pub told_as : {out : List ℕ} {number len : ℕ} {out' : List ℕ} (a b : Answer) → a ≡ b → Told a out number len out' → Told b out number len out'
told_as {out} {number} {len} {out'} a b e = subst (λ (x : Answer). Told x out number len out') e

module _ (bytes out : List ℕ) {len : ℕ} {out' : List ℕ} (w : Wrote bytes out len out') where
  -- a byte written after the answer so far
  pub wrote_set : (x : ℕ) → len < length out → Wrote (bytes ++ (x ∷ [])) out (len + 1) (set out' len x)
  wrote_set x h =
      let l : length bytes < length out = omega (arith, w.measured) in
      record {
        measured = simp length-append (omega (arith, w.measured));
        written = rw (w.written, w.measured) (overlay_set bytes out x l);
      }

  -- a list written after the answer so far
  pub wrote_put : (d : List ℕ) → Wrote (bytes ++ d) out (len + length d) (put out' len d)
  wrote_put d =
      record {
        measured = simp length-append (omega (arith, w.measured));
        written = rw (w.written, w.measured) (overlay_put bytes d out);
      }

  -- it stands at the buffer's front
  pub wrote_front : take len out' ≡ bytes
  unfolding overlay
  wrote_front = ap (take len) w.written ∙ take_at bytes (drop (length bytes) out) len (omega (arith, w.measured))

  pub wrote_within : len ≤ length out'
  unfolding overlay
  wrote_within = omega (arith, w.measured, ap length w.written ∙ length-append bytes (drop (length bytes) out))

-- the first byte
pub wrote_one : (x : ℕ) (out : List ℕ) → 0 < length out → Wrote (x ∷ []) out 1 (set out 0 x)
wrote_one x out h = record { measured = refl; written = overlay_sets (x ∷ []) out h }

-- an answer that was sent, and these words left
pub gave_leaving : (words : List ℕ) (answer : Answer) (out : List ℕ) {number len : ℕ} {out' : List ℕ} → Told answer out number len out' → GaveWords (leaving words answer) out number len words out'
gave_leaving words answer out s = record { numbered = s.numbered; measured = s.wrote.measured; written = s.wrote.written; worded = refl }
