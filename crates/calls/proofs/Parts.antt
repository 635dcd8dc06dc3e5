-- Part frames under every call: of a card that is ready each stays, but for a restart and its own receiver's calls. Assumes nothing.
use Rattle.std.proofs.Common.{◌≡◌, ℕ, ◌+◌, ◌-◌, ◌≤◌, true, eqb, ltb, leb, List, ◌∷◌, ◌++◌, length, get_or, drop, Ok, Err, Result, refl, ap, ◌∙◌, subst, inr, arith, length-append, length-drop, length-take, drop-drop}
use Prim.{Unit}
use lib.Seq.{drop-append-add}
use Rattle.wire.specs.Buffer.{overlay}
use Rattle.wire.proofs.Cases.{by_choice}
use Rattle.card.specs.Layout.{Card, channels, pending_size, kind_at}
use Rattle.card.specs.Change.{no_change}
use Rattle.card.specs.Fitness.{fit}
use Rattle.card.specs.Entries.{dropped, with_code, set_code}
use Rattle.card.specs.Reply.{Reply, shell, guarded, room_least}
use Rattle.card.proofs.Facts.{fit_facts}
use Rattle.datalink.specs.Form.{frame_num_at, frame_data_at}
use Rattle.datalink.specs.Frame.{asked}
use Rattle.datalink.specs.Answer.{ia_of, interrogated, body_of, pended, echoed, applied, acknowledged, obeyed, datalink_reply}
use Rattle.datalink.specs.Stages.{Sound}
use Rattle.datalink.specs.declared.frame.Order.{Order}
use Rattle.datalink.specs.declared.frame.Silent.{Silent}
use Rattle.datalink.specs.declared.frame.Order.TheVariants.{Interrogate, Change, Acknowledge}
use Rattle.datalink.proofs.Frames.{asked_sound}
use Rattle.lecom.specs.Answer.{lecom_reply}
use Rattle.love.specs.Answer.{love_reply}
use Rattle.lucid.specs.Answer.{lucid_reply}
use Rattle.lucid.proofs.Fits.{Bytes}
use Rattle.receive.specs.Parts.{part_of}
use Rattle.receive.specs.Receive.{ready}
use Rattle.receive.specs.declared.Dialect.{Dialect}
use Rattle.receive.specs.declared.Dialect.TheVariants.{Datalink, Lecom, Love, Lucid}
use Rattle.receive.proofs.Parts.{part_behind, ready_facts, ready_within}
use Rattle.receive.proofs.Rows.{Inside, inside_none, inside_set, part_outside, collected_other, dropped_other}
use Rattle.receive.proofs.Ready.{receive_row, quiet_row}
use Rattle.image.specs.Form.{image_size}
use Rattle.image.specs.Entries.{write_image}
use Rattle.image.proofs.Laws.{read_ports}
use Rattle.calls.specs.Calls.{Call, frame_reply, reply_of}
use Rattle.calls.specs.Calls.Call.{SetCode, Restart, Governor, Frame, Receive, Quiet, WriteImage, ReadImage}

-- a Datalink frame writes in the place of the pending change alone
inside_over : (xs row : List ℕ) → length xs ≤ pending_size → pending_size ≤ length row → Inside 0 pending_size row (overlay xs row)
unfolding overlay
inside_over xs row h l =
    record {
      long = length-append xs (drop (length xs) row) ∙ omega (arith, length-drop (length xs) row);
      below = refl;
      above =
          let k : length xs + (pending_size - length xs) ≡ pending_size = omega arith in
          subst (λ (n : ℕ). drop n (xs ++ drop (length xs) row) ≡ drop n row) k (drop-append-add xs (drop (length xs) row) (pending_size - length xs) ∙ drop-drop (pending_size - length xs) (length xs) row);
    }

abbrev InPending : Card → Reply → Type 0
InPending card r = Inside 0 pending_size card.ports r.card.ports

body_few : (f : List ℕ) (num : ℕ) → length (body_of f num) ≤ 3 + num
unfolding body_of
body_few f num = rw (length-take (frame_data_at + num - frame_num_at) (drop frame_num_at f)) (omega arith)

obeyed_inside : (card : Card) (f : List ℕ) (o : Result Order Silent) → fit card ≡ true → Sound f o → InPending card (obeyed card f o)
unfolding obeyed interrogated echoed pended acknowledged applied dropped
obeyed_inside card f (Err refusal) e k = inside_none 0 pending_size card.ports
obeyed_inside card f (Ok (Interrogate at n)) e k = inside_none 0 pending_size card.ports
obeyed_inside card f (Ok (Change kind num)) e k =
    inside_over (kind ∷ body_of f num) card.ports (omega (arith, body_few f num, k.1.0)) (omega (arith, (fit_facts card e).ports_length))
obeyed_inside card f (Ok Acknowledge) e k =
    by_choice (InPending card) (eqb (get_or card.ports kind_at 0) no_change) _ _ (λ _. inside_none 0 pending_size card.ports) (λ _. inside_set 0 pending_size card.ports kind_at no_change (omega arith) (omega arith))

datalink_inside : (card : Card) (room : ℕ) (f : List ℕ) → InPending card (datalink_reply card room f)
unfolding datalink_reply shell
datalink_inside card room f =
    by_choice (InPending card) (fit card) _ _ (λ e. by_choice (InPending card) (leb room_least room) _ _ (λ _. order e (asked (ia_of card) f) (asked_sound f (ia_of card))) (λ _. none)) (λ _. none)
  where
    none : Inside 0 pending_size card.ports card.ports
    none = inside_none 0 pending_size card.ports

    order : fit card ≡ true → (o : Result Order Silent) → Sound f o → InPending card (obeyed card f o)
    order e o k = obeyed_inside card f o e k

-- a call that is not the part frame's own: no restart, and none of the dialect's receiver
abbrev pub OfOthers : Dialect → Call → Type 0
OfOthers d (SetCode channel code) = Unit {0}
OfOthers d Restart = ⊥
OfOthers d (Governor channel) = Unit {0}
OfOthers d (Frame dialect room f) = Unit {0}
OfOthers d (Receive e room bytes) = (e ≡ d → ⊥) × Bytes bytes
OfOthers d (Quiet e) = e ≡ d → ⊥
OfOthers d (WriteImage room) = Unit {0}
OfOthers d (ReadImage img) = Unit {0}

module _ (card : Card) (e : ready card ≡ true) (t : Bytes card.ports) (d : Dialect) where
  abbrev Stays : Reply → Type 0
  Stays r = part_of d r.card.ports ≡ part_of d card.ports

  frame_part : (dialect : Dialect) (room : ℕ) (f : List ℕ) → Stays (frame_reply card dialect room f)
  unfolding frame_reply lecom_reply love_reply lucid_reply shell
  frame_part Datalink room f = part_outside 0 pending_size card.ports _ (datalink_inside card room f) d ((ready_within card e).1 d) (inr (part_behind d))
  frame_part Lecom room f = by_choice Stays (fit card) _ _ (λ _. by_choice Stays (leb room_least room) _ _ (λ _. refl) (λ _. refl)) (λ _. refl)
  frame_part Love room f = by_choice Stays (fit card) _ _ (λ _. by_choice Stays (leb room_least room) _ _ (λ _. refl) (λ _. refl)) (λ _. refl)
  frame_part Lucid room f = by_choice Stays (fit card) _ _ (λ _. by_choice Stays (leb room_least room) _ _ (λ _. refl) (λ _. refl)) (λ _. refl)

  -- every other call leaves the part frame
  pub part_stays : (c : Call) → OfOthers d c → part_of d (reply_of card c).card.ports ≡ part_of d card.ports
  unfolding reply_of set_code guarded with_code write_image shell
  part_stays (SetCode channel code) o = by_choice Stays (fit card) _ _ (λ _. by_choice Stays (ltb channel channels) _ _ (λ _. refl) (λ _. refl)) (λ _. refl)
  part_stays Restart o = elim o [ ]
  part_stays (Governor channel) o = refl
  part_stays (Frame dialect room f) o = frame_part dialect room f
  part_stays (Receive x room bytes) o =
      let f = ready_facts card e in
      receive_row (λ (row : List ℕ). part_of d row ≡ part_of d card.ports) card x room bytes refl (collected_other x d bytes card.ports o.0 f.0.ports_length (f.1 x) t o.1 ((ready_within card e).1 d))
  part_stays (Quiet x) o = quiet_row (λ (row : List ℕ). part_of d row ≡ part_of d card.ports) card x refl (dropped_other x d card.ports o ((ready_within card e).1 d))
  part_stays (WriteImage room) o = by_choice Stays (fit card) _ _ (λ _. by_choice Stays (leb image_size room) _ _ (λ _. refl) (λ _. refl)) (λ _. refl)
  part_stays (ReadImage img) o = ap (part_of d) (read_ports card img)
