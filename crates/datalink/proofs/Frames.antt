-- What is known of a frame that was judged, and of a change that may be echoed. Assumes nothing.
use Rattle.std.proofs.Common.{◌≡◌, ℕ, ◌+◌, ◌/◌, ◌<◌, ◌≤◌, Bool, true, false, not, eqb, leb, List, length, get_or, refl, ap, ◌∙◌, arith, ne_eqb, eqb-true, leb-true, Result, Ok}
use Prim.{tt}
use borrow.Author.Tests.{eqb-false}
use Rattle.wire.specs.Choose.{choose}
use Rattle.wire.proofs.Tests.{and_true}
use Rattle.wire.proofs.Cases.{by_choice}
use Rattle.card.specs.Numbers.{foreign_address, frame_form, check_character, command_unknown, range_unknown, read_only}
use Rattle.card.specs.Layout.{kind_at, num_at, low_address_at, high_address_at, data_most}
use Rattle.card.specs.Change.{no_change, change, change_bits, named, num_right, in_memory, names_read_only, two_bytes, echoable, fit_pending, memory_start, memory_end}
use Rattle.datalink.specs.Form.{bare_size, acknowledge_bits, change_command_bits, change_bits_bits}
use Rattle.datalink.specs.Frame.{command_in, num_in, address_in, is_acknowledge, kind_of, kind_in, named_in, carried, form_right, range_right, change_allowed, change_right, ordered, refused, silently, asked}
use Rattle.datalink.specs.Stages.{order_in, order_at, Sound}
use Rattle.datalink.specs.declared.frame.Order.{Order}
use Rattle.datalink.specs.declared.frame.Order.TheVariants.{Acknowledge}
use Rattle.datalink.specs.declared.frame.Silent.{Silent}

-- The form of a frame that is no Acknowledge

-- one too short for NUM and address is not of its form
pub form_short : (f : List ℕ) → (command_in f ≡ acknowledge_bits → ⊥) → length f < bare_size → false ≡ form_right f
unfolding form_right is_acknowledge choose
form_short f a h =
    let long : length f ≡ bare_size + carried (kind_in f) (num_in f) → ⊥ = λ e. let z : ⊥ = omega arith in z in
    rw (ne_eqb (command_in f) acknowledge_bits a, ne_eqb (length f) (bare_size + carried (kind_in f) (num_in f)) long)

pub form_facts : (f : List ℕ) → (command_in f ≡ acknowledge_bits → ⊥) → form_right f ≡ true → (length f ≡ bare_size + carried (kind_in f) (num_in f)) × (num_right (kind_in f) (num_in f) ≡ true)
unfolding form_right is_acknowledge choose
form_facts f a e =
    let p = and_true (eqb (length f) (bare_size + carried (kind_in f) (num_in f))) (num_right (kind_in f) (num_in f)) (rw (ne_eqb (command_in f) acknowledge_bits a) at e) in
    (eqb-true (length f) (bare_size + carried (kind_in f) (num_in f)) p.0, p.1)

-- Range, read-only and order of an Acknowledge, and of any other frame

pub order_acknowledge : (f : List ℕ) → command_in f ≡ acknowledge_bits → Ok Acknowledge ≡ order_in f
unfolding order_in range_right change_right change_allowed ordered is_acknowledge kind_in kind_of choose
order_acknowledge f e = rw e

pub order_other : (f : List ℕ) → (command_in f ≡ acknowledge_bits → ⊥) → order_at (kind_in f) (num_in f) (address_in f) ≡ order_in f
unfolding order_in order_at range_right change_right named_in ordered is_acknowledge choose
order_other f a = rw (ne_eqb (command_in f) acknowledge_bits a)

-- A change that may be echoed

memory_facts : (at n : ℕ) → in_memory at n ≡ true → (memory_start ≤ at) × (at + n ≤ memory_end)
unfolding in_memory
memory_facts at n e =
    let p = and_true (leb memory_start at) (leb (at + n) memory_end) e in
    (leb-true memory_start at p.0, leb-true (at + n) memory_end p.1)

pub num_most : (kind num : ℕ) → num_right kind num ≡ true → num ≤ data_most
unfolding num_right
num_most kind num e = leb-true num data_most (and_true (leb num data_most) _ e).0

named_most_law : (kind num : ℕ) → num ≤ data_most → (named kind num ≤ data_most) × (kind ≡ change_bits → named kind num + named kind num ≤ data_most)
unfolding named
named_most_law kind num h =
    by_choice (λ (n : ℕ). (n ≤ data_most) × (kind ≡ change_bits → n + n ≤ data_most)) (eqb kind change_bits) (num / 2) num
    (λ _. (omega arith, λ _. omega arith))
    (λ e. (h, λ k. absurd (eqb-false kind change_bits e k)))

-- it names bytes of memory, no more than its data has
pub record Named (kind num at : ℕ) : Type 0 where
  pub start : memory_start ≤ at
  pub end : at + named kind num ≤ memory_end
  pub most : named kind num ≤ data_most
  pub pairs : kind ≡ change_bits → named kind num + named kind num ≤ data_most

-- so does the pending change of a fit card, where there is one
pub pending_named : (p : List ℕ) → fit_pending p ≡ true → (get_or p kind_at 0 ≡ no_change → ⊥)
    → Named (get_or p kind_at 0) (get_or p num_at 0) (two_bytes (get_or p low_address_at 0) (get_or p high_address_at 0))
unfolding fit_pending echoable
pending_named p e none =
    let kind = get_or p kind_at 0 in
    let num = get_or p num_at 0 in
    let at = two_bytes (get_or p low_address_at 0) (get_or p high_address_at 0) in
    let a = and_true (leb kind change_bits) _ (rw (ne_eqb kind no_change none) at e) in
    let b = and_true (num_right kind num) _ a.1 in
    let m = memory_facts at (named kind num) (and_true (in_memory at (named kind num)) _ b.1).0 in
    let n = named_most_law kind num (num_most kind num b.0) in
    record { start = m.0; end = m.1; most = n.0; pairs = n.1 }

-- What an order is known to name

kind_most : (command : ℕ) → leb (kind_of command) change_bits ≡ true
unfolding kind_of
kind_most command =
    by_choice (λ (k : ℕ). leb k change_bits ≡ true) (eqb command change_command_bits) change _ (λ _. refl)
    (λ _. by_choice (λ (k : ℕ). leb k change_bits ≡ true) (eqb command change_bits_bits) change_bits no_change (λ _. refl) (λ _. refl))

named_none : (num : ℕ) → named no_change num ≡ num
unfolding named choose
named_none num = refl

carried_none : (num : ℕ) → carried no_change num ≡ 0
unfolding carried choose
carried_none num = refl

carried_some : (kind num : ℕ) → eqb kind no_change ≡ false → carried kind num ≡ num
unfolding carried choose
carried_some kind num e = rw e

module _ (f : List ℕ) where
  or_silent : (t : Bool) (o : Result Order Silent) (number : ℕ) → (t ≡ true → Sound f o) → Sound f (silently t number o)
  or_silent t o number p = by_choice (Sound f) t o (refused number) p (λ _. tt)

  sound_order : form_right f ≡ true → range_right f ≡ true → change_right f ≡ true → Sound f (Ok (ordered f))
  unfolding ordered range_right change_right change_allowed is_acknowledge named_in kind_in echoable
  sound_order form range allowed =
      by_choice (λ (o : Order). Sound f (Ok o)) (eqb (command_in f) acknowledge_bits) _ _ (λ _. tt)
      (λ a.
      let facts = form_facts f (eqb-false (command_in f) acknowledge_bits a) form in
      let inside : in_memory (address_in f) (named (kind_in f) (num_in f)) ≡ true = rw a at range in
      let bounds = memory_facts (address_in f) (named (kind_in f) (num_in f)) inside in
      let most = num_most (kind_in f) (num_in f) facts.1 in
      by_choice (λ (o : Order). Sound f (Ok o)) (eqb (kind_in f) no_change) _ _
      (λ k.
      let none : kind_in f ≡ no_change = eqb-true (kind_in f) no_change k in
      let same : named (kind_in f) (num_in f) ≡ num_in f = ap (λ (x : ℕ). named x (num_in f)) none ∙ named_none (num_in f) in
      let bare : carried (kind_in f) (num_in f) ≡ 0 = ap (λ (x : ℕ). carried x (num_in f)) none ∙ carried_none (num_in f) in
      (omega arith, (bounds.0, (omega arith, most))))
      (λ k.
      let writes : not (names_read_only (address_in f) (named (kind_in f) (num_in f))) ≡ true = rw k at allowed in
      (facts.0 ∙ ap (λ (x : ℕ). bare_size + x) (carried_some (kind_in f) (num_in f) k), (most, (refl, rw (kind_most (command_in f), facts.1, inside, writes))))))

  pub asked_sound : (ia : ℕ) → Sound f (asked ia f)
  unfolding asked
  asked_sound ia =
      or_silent _ _ frame_form (λ _. or_silent _ _ frame_form (λ _. or_silent _ _ foreign_address (λ _. or_silent _ _ command_unknown
      (λ _. or_silent (form_right f) _ frame_form (λ form. or_silent _ _ check_character
      (λ _. or_silent (range_right f) _ range_unknown (λ range. or_silent (change_right f) _ read_only (λ allowed. sound_order form range allowed))))))))
