-- What an answer shows of the memory: an Interrogate each byte that it names, as it stands, and any other frame nothing. Assumes nothing.
use Rattle.std.proofs.Common.{◌≡◌, ℕ, suc, ◌+◌, ◌-◌, ◌<◌, ◌≤◌, Bool, true, false, eqb, ltb, List, [], ◌∷◌, ◌++◌, length, get_or, drop, set, sym, refl, ap, ◌∙◌, subst, append_assoc, arith, get_or-drop, get_or-take, get_or-append-add, drop-set-lt, ltb-false, ltb-true, Result, Ok, Err}
use Prim.{Unit, tt}
use lib.ListN.{get_or-append}
use lib.Seq.{take-set-le}
use Rattle.wire.specs.Choose.{choose}
use Rattle.wire.specs.Buffer.{part}
use Rattle.wire.specs.Sum.{sum_of}
use Rattle.wire.proofs.Cases.{by_choice}
use Rattle.wire.proofs.Buffers.{length_part, part_front, part_back}
use Rattle.card.specs.Numbers.{done, foreign_address, frame_form, check_character, command_unknown, range_unknown, read_only, nothing_pending}
use Rattle.card.specs.Layout.{Card, kind_at}
use Rattle.card.specs.Change.{no_change, memory_start}
use Rattle.card.specs.Fitness.{fit}
use Rattle.card.specs.Entries.{with_code}
use Rattle.card.specs.Reply.{SameAnswer, silent}
use Rattle.card.proofs.Facts.{fit_facts}
use Rattle.datalink.specs.Form.{start, response_bits, frame_num_at, frame_data_at, framed}
use Rattle.datalink.specs.Frame.{address_in, num_in, kind_in, is_acknowledge, ordered, refused, silently, asked}
use Rattle.datalink.specs.Answer.{response, ia_of, shown, interrogated, echoed, applied, acknowledged, obeyed}
use Rattle.datalink.specs.declared.frame.Order.{Order}
use Rattle.datalink.specs.declared.frame.Order.TheVariants.{Interrogate, Change, Acknowledge}
use Rattle.datalink.specs.declared.frame.Silent.{Silent}
use Rattle.datalink.specs.Stages.{Sound}
use Rattle.datalink.proofs.Frames.{asked_sound}

-- an order to interrogate is of the frame's address and NUM
abbrev Fields : List ℕ → Result Order Silent → Type 0
Fields f (Err refusal) = Unit {0}
Fields f (Ok (Interrogate at n)) = (at ≡ address_in f) × (n ≡ num_in f)
Fields f (Ok (Change kind num)) = Unit {0}
Fields f (Ok Acknowledge) = Unit {0}

module _ (f : List ℕ) where
  or_silent : (t : Bool) (o : Result Order Silent) (number : ℕ) → Fields f o → Fields f (silently t number o)
  or_silent t o number h = by_choice (Fields f) t o (refused number) (λ _. h) (λ _. tt)

  asked_fields : (ia : ℕ) → Fields f (asked ia f)
  unfolding asked ordered
  asked_fields ia =
      or_silent _ _ frame_form (or_silent _ _ frame_form (or_silent _ _ foreign_address (or_silent _ _ command_unknown (or_silent _ _ frame_form (or_silent _ _ check_character
      (or_silent _ _ range_unknown (or_silent _ _ read_only
      (by_choice (λ (o : Order). Fields f (Ok o)) (is_acknowledge f) _ _ (λ _. tt) (λ _. by_choice (λ (o : Order). Fields f (Ok o)) (eqb (kind_in f) no_change) _ _ (λ _. (refl, refl)) (λ _. tt))))))))))

  pub interrogate_fields : (ia at n : ℕ) → asked ia f ≡ Ok (Interrogate at n) → (at ≡ address_in f) × (n ≡ num_in f)
  interrogate_fields ia at n e = subst (Fields f) e (asked_fields ia)

-- a byte of a response: its body has a head of three bytes, NUM and address
response_at : (ia : ℕ) (head bytes : List ℕ) (i : ℕ) → length head ≡ frame_data_at - frame_num_at → i < length bytes → get_or (response ia (head ++ bytes)) (frame_data_at + i) 0 ≡ get_or bytes i 0
unfolding response framed
response_at ia head bytes i h l =
    let second = response_bits + ia in
    let lrc = sum_of (second ∷ (head ++ bytes)) ∷ [] in
    let m : frame_data_at + i ≡ suc (suc (length head + i)) = omega arith in
    ap (λ (k : ℕ). get_or (start ∷ second ∷ ((head ++ bytes) ++ lrc)) k 0) m
    ∙ ap (λ (s : List ℕ). get_or s (length head + i) 0) (append_assoc head bytes lrc)
    ∙ get_or-append-add head (bytes ++ lrc) i 0
    ∙ get_or-append bytes lrc 0 i l

module _ (card : Card) (f : List ℕ) where
  -- an Interrogate shows each byte that it names, silently 12 or 11 comes first
  pub interrogate_shows : (at n i : ℕ) → fit card ≡ true → Ok (Interrogate at n) ≡ asked (ia_of card) f → i < n
      → get_or (obeyed card f (asked (ia_of card) f)).bytes (frame_data_at + i) 0 ≡ get_or card.memory (at - memory_start + i) 0
  unfolding obeyed interrogated shown
  interrogate_shows at n i e order h =
      let s : Sound f (Ok (Interrogate at n)) = subst (Sound f) (sym order) (asked_sound f (ia_of card)) in
      let a = at - memory_start in
      let inside : a + n ≤ length card.memory = omega (arith, s.1.0, s.1.1.0, (fit_facts card e).memory_length) in
      let m : a + n - a ≡ n = omega arith in
      rw (← order)
      (response_at (ia_of card) (part f frame_num_at frame_data_at) (part card.memory a (a + n)) i (length_part f frame_num_at frame_data_at (omega arith) (omega (arith, s.0)))
      (rw (length_part card.memory a (a + n) (omega arith) inside) (omega arith))
      ∙ get_or-take (a + n - a) (drop a card.memory) i 0 (omega arith)
      ∙ get_or-drop a card.memory i 0)

module _ (card : Card) (k code : ℕ) where
  -- bytes shown, byte k not among them
  shown_other : (at n : ℕ) → memory_start ≤ at → (at ≤ memory_start + k → memory_start + k < at + n → ⊥) → shown card at n ≡ shown (with_code card k code) at n
  unfolding shown with_code
  shown_other at n low other = by (ltb k (at - memory_start)) refl
    where
      by : (t : Bool) → ltb k (at - memory_start) ≡ t → shown card at n ≡ shown (with_code card k code) at n
      by true e =
          let l = ltb-true k (at - memory_start) e in
          sym (part_back (set card.memory k code) card.memory (suc k) (drop-set-lt (suc k) card.memory k code (omega arith)) (at - memory_start) (at - memory_start + n) (omega arith))
      by false e =
          let l = ltb-false k (at - memory_start) e in
          let high : memory_start + k < at + n → ⊥ = other (omega arith) in
          sym (part_front (set card.memory k code) card.memory k (take-set-le k card.memory k code (omega arith)) (at - memory_start) (at - memory_start + n) (omega arith) (omega arith))

  order_other : (f : List ℕ) (o : Result Order Silent) → Sound f o → ((at n : ℕ) → o ≡ Ok (Interrogate at n) → at ≤ memory_start + k → memory_start + k < at + n → ⊥)
      → SameAnswer (obeyed card f o) (obeyed (with_code card k code) f o)
  unfolding obeyed interrogated echoed acknowledged ia_of with_code choose
  order_other f (Err refusal) s other = record { number = refl; bytes = refl }
  order_other f (Ok (Interrogate at n)) s other =
      record { number = refl; bytes = ap (λ (b : List ℕ). response (ia_of card) (part f frame_num_at frame_data_at ++ b)) (shown_other at n s.1.0 (other at n refl)) }
  order_other f (Ok (Change kind num)) s other = record { number = refl; bytes = refl }
  order_other f (Ok Acknowledge) s other = by (eqb (get_or card.ports kind_at 0) no_change)
    where
      by : (t : Bool) → SameAnswer (choose t (silent nothing_pending card) (silent done (applied card))) (choose t (silent nothing_pending (with_code card k code)) (silent done (applied (with_code card k code))))
      by true = record { number = refl; bytes = refl }
      by false = record { number = refl; bytes = refl }

  -- a frame that is no Interrogate of byte k is answered alike whatever that byte is
  pub asked_other : (f : List ℕ) → ((at n : ℕ) → asked (ia_of card) f ≡ Ok (Interrogate at n) → at ≤ memory_start + k → memory_start + k < at + n → ⊥)
      → SameAnswer (obeyed card f (asked (ia_of card) f)) (obeyed (with_code card k code) f (asked (ia_of card) f))
  asked_other f = order_other f (asked (ia_of card) f) (asked_sound f (ia_of card))
