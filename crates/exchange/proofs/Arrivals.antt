-- What an arrival of each of the master's frames, and another's frame, does to the card. Assumes nothing.
use Rattle.std.proofs.Common.{◌≡◌, ℕ, ◌+◌, ◌-◌, ◌≤◌, Bool, true, not, eqb, leb, ◌⊎◌, List, [], ◌∷◌, ◌++◌, length, get_or, take, Ok, Result, sym, refl, ap, ◌∙◌, subst, inl, inr, arith, lit≤, eqb-true}
use Prim.{tt}
use borrow.Author.Tests.{eqb-false}
use lib.Seq.{take-append_seam}
use Rattle.wire.specs.Choose.{choose}
use Rattle.wire.specs.Buffer.{part}
use Rattle.wire.specs.Length.{between}
use Rattle.wire.specs.Sum.{sum_of}
use Rattle.wire.proofs.Cases.{by_choice}
use Rattle.card.specs.Numbers.{foreign_address, nothing_pending, buffer_short, card_unfit, range_unknown, read_only, frame_form}
use Rattle.card.specs.Layout.{Card, kind_at}
use Rattle.card.specs.Change.{no_change, in_memory, names_read_only}
use Rattle.card.specs.Fitness.{fit}
use Rattle.card.specs.Reply.{Reply, silent, shell, room_least}
use Rattle.datalink.specs.Form.{frame_num_at, frame_data_at, framed}
use Rattle.datalink.specs.Frame.{refused, asked}
use Rattle.datalink.specs.Answer.{response, ia_of, shown, body_of, pended, applied, echoed, interrogated, acknowledged, obeyed, datalink_reply}
use Rattle.datalink.specs.declared.frame.Order.{Order}
use Rattle.datalink.specs.declared.frame.Silent.{Silent}
use Rattle.datalink.specs.declared.frame.Order.TheVariants.{Interrogate, Change, Acknowledge}
use Rattle.master.specs.Request.{Request, named_by}
use Rattle.master.specs.Accepted.{Accepted}
use Rattle.master.specs.Frames.{data_of, command_of, body, change_body, change_frame, acknowledge_frame, interrogate_frame, echo}
use Rattle.exchange.specs.Demand.{writable_range}
use Rattle.exchange.proofs.Orders.{kind_for, order_change, order_interrogate, order_acknowledge}

-- refused, and nothing changed
pub record Turned (card : Card) (r : Reply) : Type 0 where
  pub kept : r.card ≡ card
  pub number : foreign_address ≤ r.number

-- the change, echoed exactly and now pending
pub record Echoed (q : Request) (card : Card) (r : Reply) : Type 0 where
  pub bytes : r.bytes ≡ echo q
  pub pends : r.card ≡ pended card (kind_for q.ask) (change_body q)
  pub range : writable_range q ≡ true
  pub fitting : fit card ≡ true

-- the pending change, applied
pub record Applied (card : Card) (r : Reply) : Type 0 where
  pub ports : get_or card.ports kind_at 0 ≡ no_change → ⊥
  pub applies : r.card ≡ applied card
  pub fitting : fit card ≡ true

-- the named bytes, shown
pub record Shown (q : Request) (card : Card) (r : Reply) : Type 0 where
  pub bytes : r.bytes ≡ response q.ia (body (named_by q.ask) q.address (shown card q.address (named_by q.ask)))
  pub kept : r.card ≡ card
  pub fitting : fit card ≡ true

turned : (card : Card) (number : ℕ) → foreign_address ≤ number → Turned card (silent number card)
turned card number h = record { kept = refl; number = h }

-- what holds of both refusals of the shell and of the order's reply holds of the Datalink entry's
by_shell : (P : Reply → Type 0) (card : Card) (room : ℕ) (f : List ℕ) → P (silent card_unfit card) → P (silent buffer_short card) → (fit card ≡ true → P (obeyed card f (asked (ia_of card) f)))
    → P (datalink_reply card room f)
unfolding datalink_reply shell
by_shell P card room f unfit short p = by_choice P (fit card) _ _ (λ e. by_choice P (leb room_least room) _ _ (λ _. p e) (λ _. short)) (λ _. unfit)

-- no frame at all
pub none_arrives : (card : Card) (room : ℕ) → Turned card (datalink_reply card room [])
unfolding asked between choose obeyed
none_arrives card room = by_shell (Turned card) card room [] (turned card card_unfit (lit≤ tt)) (turned card buffer_short (lit≤ tt)) (λ _. turned card frame_form (lit≤ tt))

-- a frame of the master's, of whose order what follows is known
module _ (card : Card) (f : List ℕ) (Good : Reply → Type 0) where
  abbrev Got : Reply → Type 0
  Got r = Turned card r ⊎ Good r

  frame_arrives : (room : ℕ) (o : Result Order Silent) → asked (ia_of card) f ≡ o → (fit card ≡ true → Got (obeyed card f o)) → Got (datalink_reply card room f)
  frame_arrives room o e p =
      by_shell Got card room f (inl (turned card card_unfit (lit≤ tt))) (inl (turned card buffer_short (lit≤ tt))) (λ t. subst (λ (x : Result Order Silent). Got (obeyed card f x)) (sym e) (p t))

  -- a test of the order: its refusal turns the frame away
  or_turned : (t : Bool) (o : Result Order Silent) (number : ℕ) → foreign_address ≤ number → (t ≡ true → Got (obeyed card f o)) → Got (obeyed card f (choose t o (refused number)))
  unfolding obeyed
  or_turned t o number h p = by_choice (λ (x : Result Order Silent). Got (obeyed card f x)) t o (refused number) p (λ _. inl (turned card number h))

module _ (q : Request) (a : Accepted q) (card : Card) where
  -- the body of the change as the card takes it out of the frame
  body_taken : body_of (change_frame q) (length (data_of q.ask)) ≡ change_body q
  unfolding body_of change_frame framed
  body_taken =
      let b = change_body q in
      let n : frame_data_at + length (data_of q.ask) - frame_num_at ≡ length b = omega arith in
      ap (λ (k : ℕ). take k (b ++ (sum_of ((command_of q.ask + q.ia) ∷ b) ∷ []))) n ∙ take-append_seam b _

  pub change_arrives : (room : ℕ) → Turned card (datalink_reply card room (change_frame q)) ⊎ Echoed q card (datalink_reply card room (change_frame q))
  unfolding obeyed echoed echo
  change_arrives room =
      let f = change_frame q in
      let n = named_by q.ask in
      let num = length (data_of q.ask) in
      frame_arrives card f (Echoed q card) room _ (order_change (ia_of card) q a)
      (λ t. or_turned card f (Echoed q card) (eqb q.ia (ia_of card)) _ foreign_address (lit≤ tt)
      (λ here. or_turned card f (Echoed q card) (in_memory q.address n) _ range_unknown (lit≤ tt)
      (λ inside. or_turned card f (Echoed q card) (not (names_read_only q.address n)) (Ok (Change (kind_for q.ask) num)) read_only (lit≤ tt)
      (λ free.
      let unit : ia_of card ≡ q.ia = sym (eqb-true q.ia (ia_of card) here) in
      inr (record { bytes = rw (unit, body_taken); pends = ap (pended card (kind_for q.ask)) body_taken; range = rw (inside, free); fitting = t })))))

  pub acknowledge_arrives : (room : ℕ) → Turned card (datalink_reply card room (acknowledge_frame q)) ⊎ Applied card (datalink_reply card room (acknowledge_frame q))
  unfolding obeyed acknowledged
  acknowledge_arrives room =
      let f = acknowledge_frame q in
      frame_arrives card f (Applied card) room _ (order_acknowledge (ia_of card) q a)
      (λ t. or_turned card f (Applied card) (eqb q.ia (ia_of card)) (Ok Acknowledge) foreign_address (lit≤ tt)
      (λ _. by_choice (λ (r : Reply). Turned card r ⊎ Applied card r) (eqb (get_or card.ports kind_at 0) no_change) _ _
      (λ _. inl (turned card nothing_pending (lit≤ tt)))
      (λ some. inr (record { ports = eqb-false (get_or card.ports kind_at 0) no_change some; applies = refl; fitting = t }))))

  -- NUM and address as the card takes them out of the frame
  head_taken : (read : List ℕ) → part (interrogate_frame q) frame_num_at frame_data_at ++ read ≡ body (named_by q.ask) q.address read
  unfolding interrogate_frame framed
  head_taken read = refl

  pub interrogate_arrives : (room : ℕ) → Turned card (datalink_reply card room (interrogate_frame q)) ⊎ Shown q card (datalink_reply card room (interrogate_frame q))
  unfolding obeyed interrogated
  interrogate_arrives room =
      let f = interrogate_frame q in
      let n = named_by q.ask in
      frame_arrives card f (Shown q card) room _ (order_interrogate (ia_of card) q a)
      (λ t. or_turned card f (Shown q card) (eqb q.ia (ia_of card)) _ foreign_address (lit≤ tt)
      (λ here. or_turned card f (Shown q card) (in_memory q.address n) (Ok (Interrogate q.address n)) range_unknown (lit≤ tt)
      (λ _.
      let unit : ia_of card ≡ q.ia = sym (eqb-true q.ia (ia_of card) here) in
      inr (record { bytes = rw (unit, head_taken); kept = refl; fitting = t }))))
