-- Demand 2 over collected frames: a frame, fed to a receiver at rest in any division and then given to its entry, gets the number, the answer and the tables of
use Rattle.std.proofs.Common.{◌≡◌, ℕ, zero, suc, ◌+◌, ◌-◌, ◌*◌, ◌<◌, ◌≤◌, Bool, true, false, eqb, leb, List, [], ◌∷◌, ◌++◌, length, get_or, take, drop, set, bit_and, bit_or, Ok, Err, Result, sym, refl, ap, ◌∙◌, subst, ap₂, arith, length-append, length-drop, length-set, get_or-drop, get_or-take, eqb-true, le-leb}
-- that frame. Assumes nothing.
use borrow.Author.Tests.{eqb-false}
use Rattle.wire.specs.Choose.{choose}
use Rattle.wire.specs.Buffer.{overlay}
use Rattle.wire.proofs.Cases.{by_both}
use Rattle.receiver.specs.Line.{Whole, Call, run}
use Rattle.receiver.proofs.Chunks.{lent, glued, whole_chunked}
use Rattle.card.specs.Numbers.{answered, done, nothing_pending, card_unfit, buffer_short}
use Rattle.card.specs.Layout.{Card, card_of, pending_size, data_most, data_at, kind_at, num_at, low_address_at, high_address_at}
use Rattle.card.specs.Change.{no_change, change_bits, named}
use Rattle.card.specs.Fitness.{fit}
use Rattle.card.specs.Entries.{dropped}
use Rattle.card.specs.Reply.{Reply, SameAnswer, silent, shell, room_least}
use Rattle.card.proofs.Facts.{fit_facts}
use Rattle.card.proofs.Replies.{same_card}
use Rattle.card.proofs.Rows.{same_pending_fit}
use Rattle.datalink.specs.Frame.{asked}
use Rattle.datalink.specs.Answer.{ia_of, shown, interrogated, body_of, pended, echoed, new_byte, changed, applied_to, applied, acknowledged, obeyed, datalink_reply}
use Rattle.datalink.specs.declared.frame.Order.{Order}
use Rattle.datalink.specs.declared.frame.Silent.{Silent}
use Rattle.datalink.specs.declared.frame.Order.TheVariants.{Interrogate, Change, Acknowledge}
use Rattle.datalink.proofs.Frames.{pending_named}
use Rattle.lecom.specs.Answer.{lecom_reply}
use Rattle.love.specs.Answer.{love_reply}
use Rattle.lucid.specs.Answer.{lucid_reply}
use Rattle.lucid.proofs.Fits.{Bytes}
use Rattle.receive.specs.Parts.{step_of, longest_of, part_of}
use Rattle.receive.specs.Receive.{ready, receive_reply}
use Rattle.receive.specs.declared.Dialect.{Dialect}
use Rattle.receive.specs.declared.Dialect.TheVariants.{Datalink, Lecom, Love, Lucid}
use Rattle.receive.proofs.Laws.{PartAlone, receive_either}
use Rattle.receive.proofs.Ready.{receive_stays_ready}
use Rattle.receive.proofs.Lists.{Reception, received, as_call, as_calls, handed, AllBytes, does, handed_run}
use Rattle.receive.proofs.Lists.Reception.{Receives}
use Rattle.calls.specs.Calls.{frame_reply}

-- the same number and answer, and tables that differ in part frames alone
pub record SameReply (r r' : Reply) : Type 0 where
  pub answer : SameAnswer r r'
  pub tables : PartAlone r.card r'.card

-- cards that differ in part frames alone

alone_self : (card : Card) → PartAlone card card
alone_self card = record { words = refl; memory = refl; long = refl; pending = refl }

alone_then : {a b c : Card} → PartAlone a b → PartAlone b c → PartAlone a c
alone_then x y = record { words = y.words ∙ x.words; memory = y.memory ∙ x.memory; long = y.long ∙ x.long; pending = y.pending ∙ x.pending }

same_reply : (number : ℕ) (bytes : List ℕ) {card card' : Card} → PartAlone card card' → SameReply (record { number = number; bytes = bytes; card = card }) (record { number = number; bytes = bytes; card = card' })
same_reply number bytes a = record { answer = record { number = refl; bytes = refl }; tables = a }

-- what stands in the pending change

front_over : (k : ℕ) (xs q q' : List ℕ) → take k q' ≡ take k q → take k (xs ++ drop (length xs) q') ≡ take k (xs ++ drop (length xs) q)
front_over zero xs q q' h = refl
front_over (suc k) [] q q' h = h
front_over (suc k) (x ∷ xs) [] [] h = refl
front_over (suc k) (x ∷ xs) (y ∷ q) (y' ∷ q') h = ap (λ (l : List ℕ). x ∷ l) (front_over k xs q q' (ap (drop 1) h))
front_over (suc k) (x ∷ xs) [] (y' ∷ q') h = let n : suc (length (take k q')) ≡ 0 = ap length h in let z : ⊥ = omega arith in absurd z
front_over (suc k) (x ∷ xs) (y ∷ q) [] h = let n : 0 ≡ suc (length (take k q)) = ap length h in let z : ⊥ = omega arith in absurd z

-- a change reads no more than the data of a frame
new_byte_same : (kind old : ℕ) (s t : List ℕ) (i : ℕ) → ((j : ℕ) → j < data_most → get_or s j 0 ≡ get_or t j 0) → i < data_most → (kind ≡ change_bits → 2 * i + 1 < data_most) → new_byte kind old s i ≡ new_byte kind old t i
unfolding new_byte choose
new_byte_same kind old s t i same h b = go (eqb kind change_bits) refl
  where
    go : (x : Bool) → eqb kind change_bits ≡ x
        → choose x (bit_or (bit_and old (get_or s (2 * i) 0)) (get_or s (2 * i + 1) 0)) (get_or s i 0) ≡ choose x (bit_or (bit_and old (get_or t (2 * i) 0)) (get_or t (2 * i + 1) 0)) (get_or t i 0)
    go true e = let k = b (eqb-true kind change_bits e) in ap₂ (λ (u v : ℕ). bit_or (bit_and old u) v) (same (2 * i) (omega arith)) (same (2 * i + 1) k)
    go false e = same i h

changed_same : (kind a : ℕ) (s t : List ℕ) (k : ℕ) (m : List ℕ) → ((j : ℕ) → j < data_most → get_or s j 0 ≡ get_or t j 0) → k ≤ data_most → (kind ≡ change_bits → k + k ≤ data_most) → changed kind a s k m ≡ changed kind a t k m
unfolding changed
changed_same kind a s t zero m same h b = refl
changed_same kind a s t (suc k) m same h b =
    let e = changed_same kind a s t k m same (omega arith) (λ c. omega (arith, b c)) in
    ap (λ (l : List ℕ). set l (a + k) (new_byte kind (get_or l (a + k) 0) s k)) e
    ∙ ap (λ (x : ℕ). set (changed kind a t k m) (a + k) x) (new_byte_same kind (get_or (changed kind a t k m) (a + k) 0) s t k same (omega arith) (λ c. omega (arith, b c)))

-- two cards with the same words and memory and the same pending change
module _ (w m p p' : List ℕ) (e : take pending_size p' ≡ take pending_size p) (l : length p' ≡ length p) where
  abbrev c : Card
  c = card_of w m p

  abbrev c' : Card
  c' = card_of w m p'

  alone : PartAlone c c'
  alone = record { words = refl; memory = refl; long = l; pending = e }

  fit_alone : fit c' ≡ fit c
  unfolding fit
  fit_alone = rw (l, same_pending_fit p p' e)

  pending_at : (i : ℕ) → i < pending_size → get_or p' i 0 ≡ get_or p i 0
  pending_at i h = sym (get_or-take pending_size p' i 0 h) ∙ ap (λ (x : List ℕ). get_or x i 0) e ∙ get_or-take pending_size p i 0 h

  pended_alone : (kind : ℕ) (body : List ℕ) → PartAlone (pended c kind body) (pended c' kind body)
  unfolding pended overlay
  pended_alone kind body =
      let n = length (kind ∷ body) in
      record {
        words = refl;
        memory = refl;
        long = length-append (kind ∷ body) (drop n p') ∙ ap (λ (k : ℕ). n + k) (length-drop n p' ∙ ap (λ (k : ℕ). k - n) l ∙ sym (length-drop n p)) ∙ sym (length-append (kind ∷ body) (drop n p));
        pending = front_over pending_size (kind ∷ body) p p' e;
      }

  applied_alone : fit c ≡ true → (get_or p kind_at 0 ≡ no_change → ⊥) → PartAlone (applied c) (applied c')
  unfolding applied applied_to dropped
  applied_alone f some =
      let k = pending_named p (fit_facts c f).pending_fit some in
      record {
        words = refl;
        memory =
            rw (pending_at kind_at (omega arith), pending_at num_at (omega arith), pending_at low_address_at (omega arith), pending_at high_address_at (omega arith))
            (changed_same (get_or p kind_at 0) _ (drop data_at p') (drop data_at p) (named (get_or p kind_at 0) (get_or p num_at 0)) m
            (λ j h. get_or-drop data_at p' j 0 ∙ pending_at (data_at + j) (omega arith) ∙ sym (get_or-drop data_at p j 0)) k.most k.pairs);
        long = length-set p' kind_at no_change ∙ l ∙ sym (length-set p kind_at no_change);
        pending = kinds pending_size p p' e;
      }
    where
      kinds : (k : ℕ) (q q' : List ℕ) → take k q' ≡ take k q → take k (set q' 0 no_change) ≡ take k (set q 0 no_change)
      kinds zero q q' h = refl
      kinds (suc k) [] [] h = refl
      kinds (suc k) (y ∷ q) (y' ∷ q') h = ap (λ (x : List ℕ). no_change ∷ x) (ap (drop 1) h)
      kinds (suc k) [] (y' ∷ q') h = let n : suc (length (take k q')) ≡ 0 = ap length h in let z : ⊥ = omega arith in absurd z
      kinds (suc k) (y ∷ q) [] h = let n : 0 ≡ suc (length (take k q)) = ap length h in let z : ⊥ = omega arith in absurd z

  obeyed_alone : (f : List ℕ) (o : Result Order Silent) → fit c ≡ true → SameReply (obeyed c f o) (obeyed c' f o)
  unfolding obeyed interrogated shown echoed acknowledged ia_of
  obeyed_alone f (Err refusal) t = same_reply refusal.0 [] alone
  obeyed_alone f (Ok (Interrogate at n)) t = same_reply answered _ alone
  obeyed_alone f (Ok (Change kind num)) t = same_reply answered _ (pended_alone kind (body_of f num))
  obeyed_alone f (Ok Acknowledge) t =
      subst (λ (k : ℕ). SameReply (acknowledged c) (choose (eqb k no_change) (silent nothing_pending c') (silent done (applied c')))) (sym (pending_at kind_at (omega arith)))
      (by_both SameReply (eqb (get_or p kind_at 0) no_change) _ _ _ _ (λ _. same_reply nothing_pending [] alone) (λ some. same_reply done [] (applied_alone t (eqb-false (get_or p kind_at 0) no_change some))))

  shell_alone : (least room : ℕ) (r r' : Reply) → (fit c ≡ true → SameReply r r') → SameReply (shell least c room r) (shell least c' room r')
  unfolding shell
  shell_alone least room r r' k =
      subst (λ (t : Bool). SameReply (shell least c room r) (choose t (choose (leb least room) r' (silent buffer_short c')) (silent card_unfit c'))) (sym fit_alone)
      (by_both SameReply (fit c) _ _ _ _ (λ t. by_both SameReply (leb least room) _ _ _ _ (λ _. k t) (λ _. same_reply buffer_short [] alone)) (λ _. same_reply card_unfit [] alone))

  frames_alone : (d : Dialect) (room : ℕ) (f : List ℕ) → SameReply (frame_reply c d room f) (frame_reply c' d room f)
  unfolding frame_reply datalink_reply lecom_reply love_reply lucid_reply ia_of
  frames_alone Datalink room f = shell_alone room_least room _ _ (λ t. obeyed_alone f (asked (ia_of c) f) t)
  frames_alone Lecom room f = shell_alone room_least room _ _ (λ t. same_reply _ _ (record { words = refl; memory = refl; long = l; pending = e }))
  frames_alone Love room f = shell_alone room_least room _ _ (λ t. same_reply _ _ (record { words = refl; memory = refl; long = l; pending = e }))
  frames_alone Lucid room f = shell_alone room_least room _ _ (λ t. same_reply _ _ (record { words = refl; memory = refl; long = l; pending = e }))

-- an entry's reply does not look at part frames
pub part_unseen : (card card' : Card) → PartAlone card card' → (d : Dialect) (room : ℕ) (f : List ℕ) → SameReply (frame_reply card d room f) (frame_reply card' d room f)
part_unseen card card' a d room f =
    let s : card_of card.words card.memory card'.ports ≡ card' = same_card (sym a.words) (sym a.memory) refl in
    subst (λ (x : Card). SameReply (frame_reply card d room f) (frame_reply x d room f)) s (frames_alone card.words card.memory card.ports card'.ports a.pending a.long d room f)

-- a frame in parts, each lent with a frame buffer of this room
abbrev pub in_parts : ℕ → List (List ℕ) → List Reception
in_parts room [] = []
in_parts room (bytes ∷ chunks) = Receives room bytes ∷ in_parts room chunks

module _ (d : Dialect) where
  -- the card after the calls
  unfoldable pub after : Card → List Reception → Card
  after card [] = card
  after card (c ∷ calls) = after (received d card c).card calls

  -- none of them is refused, and they leave all but part frames
  taken_all : (room : ℕ) → longest_of d ≤ room → (card : Card) (chunks : List (List ℕ)) → ready card ≡ true → Bytes card.ports → AllBytes d (in_parts room chunks) → as_calls d card (in_parts room chunks) ≡ lent chunks
  unfolding as_calls lent as_call choose
  taken_all room h card [] e t u = refl
  taken_all room h card (bytes ∷ chunks) e t u =
      ap₂ (λ (x : Call) (xs : List Call). x ∷ xs) (rw (e, le-leb (longest_of d) room h))
      (taken_all room h (receive_reply d card room bytes).reply.card chunks (receive_stays_ready card d room bytes t u.0 e) (does d card (Receives room bytes) t u.0).bytes u.1)

  after_alone : (room : ℕ) (card : Card) (chunks : List (List ℕ)) → PartAlone card (after card (in_parts room chunks))
  unfolding after
  after_alone room card [] = alone_self card
  after_alone room card (bytes ∷ chunks) =
      alone_then (receive_either card (λ (r : Reply). PartAlone card r.card) (λ number h. alone_self card) (λ f card' a. a) d room bytes) (after_alone room (receive_reply d card room bytes).reply.card chunks)

  -- DEMAND 2 over collected frames. From a card that is ready, with the dialect's receiver at rest: a frame that is handed over whole is handed over so in any division, and its entry then gives
  -- the number, the answer and, but for part frames, the tables that it gives for that frame on the card as it was
  pub collected_answered : (card : Card) (room : ℕ) (chunks : List (List ℕ)) → ready card ≡ true → Bytes card.ports → AllBytes d (in_parts room chunks) → part_of d card.ports ≡ [] → longest_of d ≤ room → Whole (step_of d) (glued chunks)
      → (handed d card (in_parts room chunks) ≡ record { frames = glued chunks ∷ []; part = [] })
      × ((answerRoom : ℕ) → SameReply (frame_reply card d answerRoom (glued chunks)) (frame_reply (after card (in_parts room chunks)) d answerRoom (glued chunks)))
  collected_answered card room chunks e t u rest h w = (
    handed_run d card (in_parts room chunks) t u ∙ ap₂ (run (step_of d)) rest (taken_all room h card chunks e t u) ∙ whole_chunked (step_of d) chunks w,
    λ answerRoom. part_unseen card (after card (in_parts room chunks)) (after_alone room card chunks) d answerRoom (glued chunks),
  )
