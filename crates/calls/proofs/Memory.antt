-- Writable memory and the pending change under every call: memory from 1010h on stays, and the pending change stays or is dropped, unless a
use Rattle.std.proofs.Common.{◌≡◌, ℕ, ◌+◌, ◌-◌, ◌≤◌, Bool, true, false, ltb, leb, ◌⊎◌, List, [], ◌∷◌, ◌++◌, get_or, take, drop, replicate, Ok, Err, Result, sym, refl, ap, ◌∙◌, subst, inl, inr, arith, get_or-drop, get_or-set_other, get_or-append-add, ltb-true, leb-true}
-- Datalink change or acknowledge is accepted. Assumes nothing.
use Rattle.wire.specs.Buffer.{put}
use Rattle.wire.proofs.Cases.{by_choice}
use Rattle.card.specs.Numbers.{foreign_address, card_unfit, buffer_short, range_unknown}
use Rattle.card.specs.Layout.{Card, channels, kind_at, pending_size}
use Rattle.card.specs.Row.{no_parts}
use Rattle.card.specs.Change.{memory_start, writable_start, no_change}
use Rattle.card.specs.Fitness.{fit}
use Rattle.card.specs.Probe.{fault_code}
use Rattle.card.specs.Reply.{Reply, silent, shell, guarded, room_least}
use Rattle.card.specs.Entries.{dropped, faulted, restarted, restart, with_code, set_code}
use Rattle.datalink.specs.Frame.{asked}
use Rattle.datalink.specs.Answer.{ia_of, interrogated, obeyed, datalink_reply}
use Rattle.datalink.specs.declared.frame.Order.{Order}
use Rattle.datalink.specs.declared.frame.Silent.{Silent}
use Rattle.datalink.specs.declared.frame.Order.TheVariants.{Interrogate, Change, Acknowledge}
use Rattle.datalink.proofs.Laws.{keeps as datalink-keeps}
use Rattle.lecom.specs.Answer.{lecom_reply}
use Rattle.love.specs.Answer.{love_reply}
use Rattle.lucid.specs.Answer.{lucid_reply}
use Rattle.receive.proofs.Laws.{PartAlone, receive_either, quiet_either}
use Rattle.image.specs.Form.{image_size}
use Rattle.image.specs.Entries.{write_image, read_image}
use Rattle.image.proofs.Laws.{read_memory, read_ports}
use Rattle.receive.specs.declared.Dialect.{Dialect}
use Rattle.receive.specs.declared.Dialect.TheVariants.{Datalink, Lecom, Love, Lucid}
use Rattle.calls.specs.Calls.{Call, frame_reply, reply_of, refused, writes, frame_writes, asks_write}
use Rattle.calls.specs.Calls.Call.{SetCode, Restart, Governor, Frame, Receive, Quiet, WriteImage, ReadImage}

-- memory from 1010h on is the same
pub record Same (card card' : Card) : Type 0 where
  pub at : (j : ℕ) → writable_start - memory_start ≤ j → get_or card'.memory j 0 ≡ get_or card.memory j 0

-- nothing is pending
pub record None (ports : List ℕ) : Type 0 where
  pub kind : get_or ports kind_at 0 ≡ no_change

pub none_dropped : (p : List ℕ) → None (dropped p)
unfolding dropped
none_dropped [] = record { kind = refl }
none_dropped (x ∷ p) = record { kind = refl }

-- every other call of the card: memory from 1010h on stays, and the pending change stays or is dropped
pub record Mild (card card' : Card) : Type 0 where
  pub memory : Same card card'
  pub ports : (take pending_size card'.ports ≡ take pending_size card.ports) ⊎ None card'.ports

mild_self : (card card' : Card) → card' ≡ card → Mild card card'
mild_self card card' e = subst (Mild card) (sym e) (record { memory = record { at = λ j h. refl }; ports = inl refl })

abbrev MildReply : Card → Reply → Type 0
MildReply card r = Mild card r.card

mild_silent : (card : Card) (number : ℕ) → MildReply card (silent number card)
mild_silent card number = mild_self card card refl

mild_guarded : (card : Card) (r : Reply) → MildReply card r → MildReply card (guarded card r)
unfolding guarded
mild_guarded card r m = by_choice (MildReply card) (fit card) _ _ (λ _. m) (λ _. mild_silent card card_unfit)

mild_shell : (least : ℕ) (card : Card) (room : ℕ) (r : Reply) → MildReply card r → MildReply card (shell least card room r)
unfolding shell
mild_shell least card room r m =
    by_choice (MildReply card) (fit card) _ _ (λ _. by_choice (MildReply card) (leb least room) _ _ (λ _. m) (λ _. mild_silent card buffer_short)) (λ _. mild_silent card card_unfit)

-- a meaning over the words alone
mild_words : (card card' : Card) → card'.memory ≡ card.memory → card'.ports ≡ card.ports → Mild card card'
mild_words card card' m p = record { memory = record { at = λ j h. ap (λ (l : List ℕ). get_or l j 0) m }; ports = inl (ap (take pending_size) p) }

-- a receiver's call
mild_part : (card card' : Card) → PartAlone card card' → Mild card card'
mild_part card card' a = record { memory = record { at = λ j h. ap (λ (l : List ℕ). get_or l j 0) a.memory }; ports = inl a.pending }

mild_restart : (card : Card) → Mild card (restart card).card
unfolding restart restarted faulted put
mild_restart card =
    mild_guarded card _
    (record {
      memory = record {
        at = λ j h.
            let u : channels + (j - channels) ≡ j = omega arith in
            subst (λ (x : ℕ). get_or (replicate channels fault_code ++ drop channels card.memory) x 0 ≡ get_or card.memory x 0) u
            (get_or-append-add (replicate channels fault_code) (drop channels card.memory) (j - channels) 0 ∙ get_or-drop channels card.memory (j - channels) 0);
      };
      ports = inr (none_dropped (no_parts card.ports));
    })

mild_code : (card : Card) (channel code : ℕ) → MildReply card (set_code card channel code)
unfolding set_code with_code
mild_code card channel code =
    mild_guarded card _
    (by_choice (MildReply card) (ltb channel channels) _ _
    (λ t. record { memory = record { at = λ j h. get_or-set_other card.memory channel j code 0 (λ u. omega (arith, ltb-true channel channels t)) }; ports = inl refl })
    (λ _. mild_silent card range_unknown))

mild_read : (card : Card) (img : List ℕ) → MildReply card (read_image card img)
mild_read card img = mild_words card _ (read_memory card img) (read_ports card img)

-- a Datalink frame that asks for no change and no acknowledge
unasked : (card : Card) (f : List ℕ) (o : Result Order Silent) → writes o ≡ false → (obeyed card f o).card ≡ card
unfolding obeyed interrogated
unasked card f (Err refusal) e = refl
unasked card f (Ok (Interrogate at n)) e = refl
unasked card f (Ok (Change kind num)) e = let z : ◌≡◌ {A = ℕ} 0 1 = cc in let y : ⊥ = omega arith in absurd y
unasked card f (Ok Acknowledge) e = let z : ◌≡◌ {A = ℕ} 0 1 = cc in let y : ⊥ = omega arith in absurd y

mild_datalink : (card : Card) (room : ℕ) (f : List ℕ) → (writes (asked (ia_of card) f) ≡ true → refused (datalink_reply card room f).number ≡ true) → MildReply card (datalink_reply card room f)
unfolding datalink_reply
mild_datalink card room f calm = by (writes (asked (ia_of card) f)) refl
  where
    by : (t : Bool) → writes (asked (ia_of card) f) ≡ t → MildReply card (datalink_reply card room f)
    by true e = mild_self card _ ((datalink-keeps card room f).kept (leb-true foreign_address (datalink_reply card room f).number (calm e)))
    by false e = mild_shell room_least card room _ (mild_self card _ (unasked card f (asked (ia_of card) f) e))

mild_frame : (card : Card) (d : Dialect) (room : ℕ) (f : List ℕ) → (frame_writes card d f ≡ true → refused (frame_reply card d room f).number ≡ true) → MildReply card (frame_reply card d room f)
unfolding frame_reply lecom_reply love_reply lucid_reply
mild_frame card Datalink room f calm = mild_datalink card room f calm
mild_frame card Lecom room f calm = mild_shell room_least card room _ (mild_words card _ refl refl)
mild_frame card Love room f calm = mild_shell room_least card room _ (mild_words card _ refl refl)
mild_frame card Lucid room f calm = mild_shell room_least card room _ (mild_words card _ refl refl)

-- a line for each entry
pub mild : (card : Card) (c : Call) → (asks_write card c ≡ true → refused (reply_of card c).number ≡ true) → Mild card (reply_of card c).card
unfolding reply_of write_image
mild card (SetCode channel code) calm = mild_code card channel code
mild card Restart calm = mild_restart card
mild card (Governor channel) calm = mild_self card card refl
mild card (Frame dialect room f) calm = mild_frame card dialect room f calm
mild card (Receive dialect room bytes) calm = receive_either card (MildReply card) (λ number h. mild_silent card number) (λ bytes card' a. mild_part card card' a) dialect room bytes
mild card (Quiet dialect) calm = quiet_either card (MildReply card) (λ number h. mild_silent card number) (λ bytes card' a. mild_part card card' a) dialect
mild card (WriteImage room) calm = mild_shell image_size card room _ (mild_self card card refl)
mild card (ReadImage img) calm = mild_read card img
