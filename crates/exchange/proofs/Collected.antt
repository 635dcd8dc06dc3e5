-- Demand 3 over collected frames: each such list is a list of whole frames, so that the theorem over those serves. Assumes nothing.
use Rattle.std.proofs.Common.{◌≡◌, ℕ, ◌<◌, ◌≤◌, true, eqb, ltb, ◌⊎◌, List, [], ◌∷◌, Ok, Err, Result, sym, refl, ap, ◌∙◌, subst, inl, inr, arith, ltb-true, eq-eqb}
use Prim.{Unit, tt}
use Rattle.wire.specs.Choose.{choose}
use Rattle.wire.specs.Buffer.{same}
use Rattle.wire.proofs.Cases.{yes, by_choice}
use Rattle.wire.proofs.Tests.{and_true}
use Rattle.receiver.specs.Line.{Whole}
use Rattle.card.specs.Numbers.{foreign_address, frame_form, command_unknown, range_unknown, read_only}
use Rattle.card.specs.Layout.{Card}
use Rattle.card.specs.Change.{in_memory}
use Rattle.datalink.specs.Frame.{refused, asked}
use Rattle.datalink.specs.Receiver.{step}
use Rattle.datalink.specs.declared.frame.Order.{Order}
use Rattle.datalink.specs.declared.frame.Silent.{Silent}
use Rattle.datalink.specs.declared.frame.Order.TheVariants.{Interrogate, Acknowledge}
use Rattle.datalink.proofs.Receiver.{whole_asked}
use Rattle.receive.specs.declared.Dialect.TheVariants.{Datalink, Lecom, Love, Lucid}
use Rattle.master.specs.Request.{Request, named_by, askable}
use Rattle.master.specs.Accepted.{Accepted}
use Rattle.master.specs.Frames.{change_frame, acknowledge_frame, interrogate_frame}
use Rattle.calls.specs.Calls.{Call as Entry}
use Rattle.calls.specs.Calls.Call.{SetCode, Restart, Governor, Frame, Receive, Quiet as Hush, WriteImage, ReadImage}
use Rattle.exchange.specs.Calls.{Call}
use Rattle.exchange.specs.Calls.Call.{Step, Other}
use Rattle.exchange.specs.Line.{World, Build, as_written, called, run}
use Rattle.exchange.specs.Premise.{Quiet, AtMostTwice, AsWorded}
use Rattle.exchange.specs.Demand.{Demand3}
use Rattle.exchange.specs.InC.{in_c}
use Rattle.exchange.specs.Collected.{Feed, Watched, bytes_of, one_sending, watch, arrives, handing, other, fed, feeding, Calm, AllCalm}
use Rattle.exchange.specs.Collected.Feed.{Turn, Lend, Hand, Else}
use Rattle.exchange.proofs.Orders.{range_order, order_interrogate, order_acknowledge}
use Rattle.exchange.proofs.Demand3.{quiet_worded, demand_3_as_worded}
use Rattle.exchange.proofs.InC.{demand_3_in_c}

module _ {State : Type 0} (b : Build State) (q : Request) where
  -- the call of the list of whole frames
  abbrev call_of : Watched State → Feed → Call
  call_of w (Turn choice room) = Step choice room
  call_of w (Lend room comings) = Other (Receive Datalink room (bytes_of w.world.line.frame comings))
  call_of w (Hand room) = handing w room
  call_of w (Else e) = Other e

  unfoldable plain : Watched State → List Feed → List Call
  plain w [] = []
  plain w (c ∷ feeds) = call_of w c ∷ plain (fed b q w c) feeds

  other_world : (w : Watched State) (e : Entry) → (other b q w e).world ≡ called b q w.world (Other e)
  other_world w (SetCode channel code) = refl
  other_world w Restart = refl
  other_world w (Governor channel) = refl
  other_world w (Frame dialect room f) = refl
  other_world w (Receive Datalink room bytes) = refl
  other_world w (Receive Lecom room bytes) = refl
  other_world w (Receive Love room bytes) = refl
  other_world w (Receive Lucid room bytes) = refl
  other_world w (Hush dialect) = refl
  other_world w (WriteImage room) = refl
  other_world w (ReadImage img) = refl

  fed_world : (w : Watched State) (c : Feed) → (fed b q w c).world ≡ called b q w.world (call_of w c)
  unfolding fed
  fed_world w (Turn choice room) = refl
  fed_world w (Lend room comings) = refl
  fed_world w (Hand room) = refl
  fed_world w (Else e) = other_world w e

  feeding_run : (w : Watched State) (feeds : List Feed) → (feeding b q w feeds).world ≡ run b q w.world (plain w feeds)
  unfolding feeding run plain
  feeding_run w [] = refl
  feeding_run w (c ∷ feeds) = feeding_run (fed b q w c) feeds ∙ ap (λ (x : World State). run b q x (plain (fed b q w c) feeds)) (fed_world w c)

  -- a frame that arrives is at most the second
  twice : (w : Watched State) (room : ℕ) → AtMostTwice w.world (handing w room)
  unfolding arrives
  twice w room =
      by_choice (AtMostTwice w.world) (arrives w) _ _
      (λ e. let t = and_true (one_sending _ w.origins) _ e in
      let u = and_true (same w.tray w.world.line.frame) (ltb w.world.line.arrivals 2) t.1 in
      omega (arith, ltb-true w.world.line.arrivals 2 u.1))
      (λ _. tt)

  calm_call_law : (w : Watched State) (c : Feed) → Calm b w c → AtMostTwice w.world (call_of w c) × Quiet b w.world (call_of w c)
  calm_call_law w (Turn choice room) h = (tt, tt)
  calm_call_law w (Lend room comings) h = (tt, λ e. let z : ◌≡◌ {A = ℕ} 0 1 = cc in let y : ⊥ = omega arith in absurd y)
  calm_call_law w (Hand room) h = (twice w room, h)
  calm_call_law w (Else e) h = (tt, h)

  calm_worded : (w : Watched State) (feeds : List Feed) → AllCalm b q w feeds → AsWorded b q w.world (plain w feeds)
  unfolding AllCalm AsWorded plain
  calm_worded w [] h = tt
  calm_worded w (c ∷ feeds) h =
      (calm_call_law w c h.0, subst (λ (x : World State). AsWorded b q x (plain (fed b q w c) feeds)) (fed_world w c) (calm_worded (fed b q w c) feeds h.1))

-- DEMAND 3 over collected frames: from any tables and any part frame, after every list of calls throughout which no other Datalink change or acknowledge is accepted, collected or not
pub demand_3_collected : (q : Request) (start : Card) (feeds : List Feed) → askable q ≡ true → AllCalm as_written q (watch as_written start) feeds
    → Demand3 as_written q start (feeding as_written q (watch as_written start) feeds).world
demand_3_collected q start feeds e h =
    let w = watch as_written start in
    subst (Demand3 as_written q start) (sym (feeding_run as_written q w feeds)) (demand_3_as_worded q start (plain as_written q w feeds) e (calm_worded as_written q w feeds h))

-- the same for nk_step
pub demand_3_collected_in_c : (q : Request) (start : Card) (feeds : List Feed) → askable q ≡ true → AllCalm in_c q (watch in_c start) feeds
    → Demand3 in_c q start (feeding in_c q (watch in_c start) feeds).world
demand_3_collected_in_c q start feeds e h =
    let w = watch in_c start in
    subst (Demand3 in_c q start) (sym (feeding_run in_c q w feeds)) (demand_3_in_c q start (plain in_c q w feeds) e (quiet_worded in_c q w.world (plain in_c q w feeds) (calm_worded in_c q w feeds h)))

-- the master's three frames are handed over whole: none of them is refused for first byte, I.A., command, length or NUM
abbrev Formed : Result Order Silent → Type 0
Formed (Err refusal) = (read_only ≤ refusal.0) ⊎ (refusal.0 ≡ range_unknown)
Formed (Ok order) = Unit {0}

formed_whole : (ia : ℕ) (f : List ℕ) → Formed (asked ia f) → Whole step f
formed_whole ia f k = whole_asked ia f (no frame_form (omega arith) (omega arith)) (no foreign_address (omega arith) (omega arith)) (no command_unknown (omega arith) (omega arith))
  where
    no : (n : ℕ) → n < range_unknown → n < read_only → asked ia f ≡ refused n → ⊥
    no n a b e = go (subst Formed e k)
      where
        go : (read_only ≤ n) ⊎ (n ≡ range_unknown) → ⊥
        go (inl h) = omega arith
        go (inr h) = omega arith

module _ (q : Request) (a : Accepted q) where
  pub change_whole : Whole step (change_frame q)
  change_whole =
      formed_whole q.ia (change_frame q)
      (subst Formed (sym (range_order q a)) (by_choice Formed _ _ _ (λ _. by_choice Formed _ _ _ (λ _. tt) (λ _. inl (omega arith))) (λ _. inr refl)))

  pub acknowledge_whole : Whole step (acknowledge_frame q)
  acknowledge_whole =
      formed_whole q.ia (acknowledge_frame q)
      (subst Formed (sym (order_acknowledge q.ia q a ∙ chosen)) tt)
    where
      chosen : choose (eqb q.ia q.ia) (Ok Acknowledge) (refused foreign_address) ≡ Ok Acknowledge
      chosen = sym (yes _ _ _ _ (eq-eqb q.ia q.ia refl) refl)

  pub interrogate_whole : Whole step (interrogate_frame q)
  interrogate_whole =
      formed_whole q.ia (interrogate_frame q)
      (subst Formed (sym (order_interrogate q.ia q a ∙ chosen)) (by_choice Formed _ _ _ (λ _. tt) (λ _. inr refl)))
    where
      rest : Result Order Silent
      rest = choose (in_memory q.address (named_by q.ask)) (Ok (Interrogate q.address (named_by q.ask))) (refused range_unknown)

      chosen : choose (eqb q.ia q.ia) rest (refused foreign_address) ≡ rest
      chosen = sym (yes _ _ _ _ (eq-eqb q.ia q.ia refl) refl)
