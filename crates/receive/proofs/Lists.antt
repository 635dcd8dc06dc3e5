-- Calls of a receiver on the card: what a list of them hands over and leaves is what the line gives, byte by byte, for the bytes they took and the quiet marks
-- between them. Assumes nothing.
use Rattle.std.proofs.Common.{◌≡◌, refl, sym, ap, ap₂, ◌∙◌, subst, true, List, [], ◌∷◌, ◌++◌, ℕ, leb}
use Prim.{Unit}
use Rattle.wire.specs.Choose.{choose}
use Rattle.wire.proofs.Cases.{by_both}
use Rattle.receiver.specs.Step.{Fate}
use Rattle.receiver.specs.Step.Fate.{Kept, Dropped, Finished}
use Rattle.receiver.specs.Line.{Heard, Call, counted, onward, collect, heard, run, took}
use Rattle.receiver.specs.Line.Call.{Lent, Silence, Refused}
use Rattle.receiver.proofs.Calls.{run_heard}
use Rattle.receiver.proofs.Origin.{Sound}
use Rattle.card.specs.Numbers.{card_unfit, frame_buffer_short}
use Rattle.card.specs.Layout.{Card}
use Rattle.card.specs.Fitness.{fit}
use Rattle.card.specs.Reply.{Reply, silent, guarded}
use Rattle.card.specs.Entries.{restart, restarted}
use Rattle.card.proofs.Facts.{fit_facts}
use Rattle.lucid.proofs.Fits.{Bytes}
use Rattle.receive.specs.Parts.{step_of, longest_of, part_of}
use Rattle.receive.specs.Receive.{Receipt, frame_in, collected, ready, receive_reply, quiet_reply}
use Rattle.receive.specs.declared.Dialect.{Dialect}
use Rattle.receive.proofs.Parts.{ready_facts}
use Rattle.receive.proofs.Rows.{sound, collected_part, collected_bytes, dropped_part, dropped_bytes, restarted_part, restarted_bytes}

-- the calls of one dialect's receiver: bytes and the frame buffer's room; a quiet line; a restart
pub data Reception : Type 0 where
  Receives : ℕ → List ℕ → Reception
  Hushes : Reception
  Restarts : Reception

module _ (d : Dialect) where
  -- the card's reply
  abbrev pub received : Card → Reception → Reply
  received card (Receives room bytes) = (receive_reply d card room bytes).reply
  received card Hushes = quiet_reply d card
  received card Restarts = restart card

  -- what the call is to the line
  unfoldable pub as_call : Card → Reception → Call
  as_call card (Receives room bytes) = choose (ready card) (choose (leb (longest_of d) room) (Lent bytes) Refused) Refused
  as_call card Hushes = choose (ready card) Silence Refused
  as_call card Restarts = choose (fit card) Silence Refused

  unfoldable pub as_calls : Card → List Reception → List Call
  as_calls card [] = []
  as_calls card (c ∷ calls) = as_call card c ∷ as_calls (received card c).card calls

  -- the frames that the calls hand over, in their order, and the part frame that they leave
  abbrev pub given : List ℕ → List (List ℕ)
  given [] = []
  given (b ∷ bytes) = (b ∷ bytes) ∷ []

  unfoldable pub handed : Card → List Reception → Heard
  handed card [] = record { frames = []; part = part_of d card.ports }
  handed card (c ∷ calls) =
      record { frames = given (received card c).bytes ++ (handed (received card c).card calls).frames; part = (handed (received card c).card calls).part }

  -- bytes are below 256
  abbrev pub OfBytes : Reception → Type 0
  OfBytes (Receives room bytes) = Bytes bytes
  OfBytes Hushes = Unit {0}
  OfBytes Restarts = Unit {0}

  abbrev pub AllBytes : List Reception → Type 0
  AllBytes [] = Unit {0}
  AllBytes (c ∷ calls) = OfBytes c × AllBytes calls

  -- a call hands over one frame at most, and it has a byte
  given_some : (p : List ℕ) (b : ℕ) → given (p ++ (b ∷ [])) ≡ (p ++ (b ∷ [])) ∷ []
  given_some [] b = refl
  given_some (x ∷ p) b = refl

  one_frame : (bytes part : List ℕ) → given (frame_in (collect (step_of d) part bytes).handed) ≡ (collect (step_of d) part bytes).handed
  unfolding collect onward counted
  one_frame [] part = refl
  one_frame (b ∷ bytes) part = go (step_of d part b) (sound d part b) (λ q. one_frame bytes q)
    where
      go : (o : Fate) → Sound (step_of d) part b o → ((q : List ℕ) → given (frame_in (collect (step_of d) q bytes).handed) ≡ (collect (step_of d) q bytes).handed)
          → given (frame_in (onward o (λ left. collect (step_of d) left bytes)).handed) ≡ (onward o (λ left. collect (step_of d) left bytes)).handed
      go (Kept q) s more = more q
      go Dropped s more = more []
      go (Finished f) s more = subst (λ (x : List ℕ). given x ≡ x ∷ []) (sym s) (given_some part b)

  -- what one call does: the frames that it hands over, and the part frame that it leaves, as the line has them
  abbrev pub Onward : Card → Card → List ℕ → Call → Type 0
  Onward card card' f c = (calls : List Call)
      → ◌≡◌ {A = Heard} (record { frames = given f ++ (run (step_of d) (part_of d card'.ports) calls).frames; part = (run (step_of d) (part_of d card'.ports) calls).part })
      (run (step_of d) (part_of d card.ports) (c ∷ calls))

  pub record Does (card : Card) (r : Reply) (c : Call) : Type 0 where
    pub bytes : Bytes r.card.ports
    pub line : Onward card r.card r.bytes c

  refuses : (card : Card) (number : ℕ) → Bytes card.ports → Does card (silent number card) Refused
  unfolding run
  refuses card number t = record { bytes = t; line = λ calls. refl }

  -- a part frame that is dropped
  drops : (card card' : Card) (number : ℕ) → Bytes card'.ports → part_of d card'.ports ≡ [] → Does card (silent number card') Silence
  unfolding run
  drops card card' number t e = record { bytes = t; line = λ calls. ap (λ (p : List ℕ). run (step_of d) p calls) e }

  pub does : (card : Card) (c : Reception) → Bytes card.ports → OfBytes c → Does card (received card c) (as_call card c)
  unfolding as_call receive_reply quiet_reply restart guarded restarted collected run
  does card (Receives room bytes) t u =
      by_both (λ (r : Receipt) (c : Call). Does card r.reply c) (ready card) _ _ _ _
      (λ e. by_both (λ (r : Receipt) (c : Call). Does card r.reply c) (leb (longest_of d) room) _ _ _ _ (λ _. collects e) (λ _. refuses card frame_buffer_short t))
      (λ _. refuses card card_unfit t)
    where
      collects : ready card ≡ true → Does card (collected d card bytes).reply (Lent bytes)
      collects e =
          let f = ready_facts card e in
          let row = card.ports in
          let c = collect (step_of d) (part_of d row) bytes in
          record {
            bytes = collected_bytes d bytes row f.0.ports_length (f.1 d) t u;
            line = λ calls.
                let p = collected_part d bytes row f.0.ports_length (f.1 d) t u in
                ap₂ (λ (fs : List (List ℕ)) (q : List ℕ). record { frames = fs ++ (run (step_of d) q calls).frames; part = (run (step_of d) q calls).part }) (one_frame bytes (part_of d row)) p;
          }
  does card Hushes t u =
      by_both (λ (r : Reply) (c : Call). Does card r c) (ready card) _ _ _ _
      (λ e. drops card _ _ (dropped_bytes d card.ports t) (dropped_part d card.ports (ready_facts card e).0.ports_length))
      (λ _. refuses card card_unfit t)
  does card Restarts t u =
      by_both (λ (r : Reply) (c : Call). Does card r c) (fit card) _ _ _ _
      (λ e. drops card _ _ (restarted_bytes card.ports t) (restarted_part d card.ports (fit_facts card e).ports_length))
      (λ _. refuses card card_unfit t)

  -- THE LINK: calls on the card do what the calls of the line do
  pub handed_run : (card : Card) (calls : List Reception) → Bytes card.ports → AllBytes calls → handed card calls ≡ run (step_of d) (part_of d card.ports) (as_calls card calls)
  unfolding handed as_calls run
  handed_run card [] t u = refl
  handed_run card (c ∷ calls) t u =
      let k = does card c t u.0 in
      let r = handed_run (received card c).card calls k.bytes u.1 in
      ap (λ (h : Heard). record { frames = given (received card c).bytes ++ h.frames; part = h.part }) r ∙ k.line (as_calls (received card c).card calls)

  -- DIVISION on the card: frames and part frame are those of the line for the bytes taken and the quiet marks between them
  pub handed_heard : (card : Card) (calls : List Reception) → Bytes card.ports → AllBytes calls
      → handed card calls ≡ heard (step_of d) (part_of d card.ports) (took (step_of d) (part_of d card.ports) (as_calls card calls))
  handed_heard card calls t u = handed_run card calls t u ∙ run_heard (step_of d) (as_calls card calls) (part_of d card.ports)
