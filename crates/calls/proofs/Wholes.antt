-- Every frame that a dialect's entry takes with 0 or 1, on some card, is handed over whole by its receiver. Assumes nothing.
use Rattle.std.proofs.Common.{◌≡◌, ℕ, ◌≤◌, leb, List, length, Some, None, Ok, Err, Option, Result, ◌∙◌, subst, arith, lit≤, eqb-true}
use Prim.{Unit, tt}
use Rattle.wire.proofs.Cases.{by_choice, passed}
use Rattle.wire.proofs.Lengths.{between_facts}
use Rattle.receiver.specs.Line.{Whole}
use Rattle.card.specs.Numbers.{done, foreign_address, frame_form, command_unknown}
use Rattle.card.specs.Layout.{Card}
use Rattle.card.specs.Fitness.{fit}
use Rattle.card.specs.Reply.{Reply, Answer, shell, room_least}
use Rattle.datalink.specs.Frame as datalinkFrame
use Rattle.datalink.specs.Answer as datalinkAnswer
use Rattle.datalink.specs.declared.frame.Order.{Order as DatalinkOrder}
use Rattle.datalink.specs.declared.frame.Silent.{Silent}
use Rattle.datalink.proofs.Receiver.{whole_asked as datalink-whole}
use Rattle.lecom.specs.Frame as lecom_frame
use Rattle.lecom.specs.Answer as lecomAnswer
use Rattle.lecom.specs.declared.form.Named.{Named}
use Rattle.lecom.specs.declared.frame.Order.{Order as LecomOrder}
use Rattle.lecom.specs.declared.frame.Refusal.{Refusal as LecomRefusal}
use Rattle.lecom.specs.declared.frame.Refusal.TheVariants.{Silent as LecomSilent, Refused as LecomRefused}
use Rattle.lecom.proofs.Wholes.{whole_asked as lecom-whole}
use Rattle.love.specs.Frame as loveFrame
use Rattle.love.specs.Answer as loveAnswer
use Rattle.love.specs.declared.frame.Order.{Order as LoveOrder}
use Rattle.love.specs.declared.frame.Refusal.{Refusal as LoveRefusal}
use Rattle.love.specs.declared.frame.Refusal.TheVariants.{Silent as LoveSilent, Refused as LoveRefused}
use Rattle.love.proofs.Wholes.{whole_asked as love-whole}
use Rattle.lucid.specs.Form as lucidForm
use Rattle.lucid.specs.Frame as lucidFrame
use Rattle.lucid.specs.Answer as lucidAnswer
use Rattle.lucid.specs.declared.frame.Order.{Order as LucidOrder}
use Rattle.lucid.specs.declared.frame.Refusal.{Refusal as LucidRefusal}
use Rattle.lucid.specs.declared.frame.Refusal.TheVariants.{Silent as LucidSilent, Refused as LucidRefused}
use Rattle.lucid.proofs.Receiver.{whole_len}
use Rattle.receive.specs.Parts.{step_of}
use Rattle.receive.specs.declared.Dialect.{Dialect}
use Rattle.receive.specs.declared.Dialect.TheVariants.{Datalink, Lecom, Love, Lucid}
use Rattle.calls.specs.Calls.{frame_reply}

-- a reply with 0 or 1 is none of the shell's
shell_low : (least : ℕ) (card : Card) (room : ℕ) (r : Reply) → (shell least card room r).number ≤ done → r.number ≤ done
unfolding shell
shell_low least card room r =
    by_choice (λ (x : Reply). x.number ≤ done → r.number ≤ done) (fit card) _ _
    (λ _. by_choice (λ (x : Reply). x.number ≤ done → r.number ≤ done) (leb least room) _ _ (λ _ h. h) (λ _ h. let z : ⊥ = omega arith in absurd z))
    (λ _ h. let z : ⊥ = omega arith in absurd z)

datalink_taken : (card : Card) (room : ℕ) (f : List ℕ) → (datalinkAnswer.datalink_reply card room f).number ≤ done → Whole (step_of Datalink) f
unfolding datalinkAnswer.datalink_reply datalinkAnswer.obeyed
datalink_taken card room f h = datalink-whole (datalinkAnswer.ia_of card) f (no frame_form (lit≤ tt)) (no foreign_address (lit≤ tt)) (no command_unknown (lit≤ tt))
  where
    low : (datalinkAnswer.obeyed card f (datalinkFrame.asked (datalinkAnswer.ia_of card) f)).number ≤ done
    low = shell_low room_least card room _ h

    no : (n : ℕ) → foreign_address ≤ n → datalinkFrame.asked (datalinkAnswer.ia_of card) f ≡ datalinkFrame.refused n → ⊥
    no n g e = let l : n ≤ done = subst (λ (o : Result DatalinkOrder Silent). (datalinkAnswer.obeyed card f o).number ≤ done) e low in omega arith

-- LECOM: what refuses has a number from 2 on
abbrev LecomHigh : Result LecomOrder LecomRefusal → Type 0
LecomHigh (Err (LecomSilent n)) = foreign_address ≤ n
LecomHigh (Err (LecomRefused n)) = foreign_address ≤ n
LecomHigh (Ok order) = Unit {0}

ordering_high : (order : Named → LecomOrder) (named : Option Named) → LecomHigh (lecom_frame.ordering order named)
ordering_high order None = lit≤ tt
ordering_high order (Some named) = tt

lecom_high : (address : ℕ) (f : List ℕ) → LecomHigh (lecom_frame.asked address f)
unfolding lecom_frame.asked lecom_frame.ordered
lecom_high address f =
    by_choice LecomHigh _ _ _ (λ _. by_choice LecomHigh _ _ _ (λ _. by_choice LecomHigh _ _ _ (λ _. by_choice LecomHigh _ _ _ (λ _. by_choice LecomHigh _ _ _ (λ _. by_choice LecomHigh _ _ _ (λ _. by_choice LecomHigh _ _ _ (λ _. by_choice LecomHigh _ _ _ (λ _. by_choice LecomHigh _ _ _ (λ _. by_choice LecomHigh _ _ _ (λ _. by_choice LecomHigh _ _ _ (λ _. ordering_high _ (lecom_frame.named_in f)) (λ _. lit≤ tt)) (λ _. lit≤ tt)) (λ _. lit≤ tt)) (λ _. lit≤ tt)) (λ _. lit≤ tt)) (λ _. lit≤ tt)) (λ _. lit≤ tt)) (λ _. lit≤ tt)) (λ _. lit≤ tt)) (λ _. lit≤ tt)) (λ _. lit≤ tt)

lecom_taken : (card : Card) (room : ℕ) (f : List ℕ) → (lecomAnswer.lecom_reply card room f).number ≤ done → Whole (step_of Lecom) f
unfolding lecomAnswer.lecom_reply lecomAnswer.obeyed lecomAnswer.refused_by
lecom_taken card room f h = lecom-whole (lecomAnswer.address_of card.words) f silent' refused'
  where
    address : ℕ
    address = lecomAnswer.address_of card.words

    Low : Result LecomOrder LecomRefusal → Type 0
    Low o = (lecomAnswer.obeyed card.words card.memory f o).number ≤ done

    low : Low (lecom_frame.asked address f)
    low = shell_low room_least card room _ h

    silent' : (n : ℕ) → lecom_frame.asked address f ≡ Err (LecomSilent n) → ⊥
    silent' n e = let l : n ≤ done = subst Low e low in let g : foreign_address ≤ n = subst LecomHigh e (lecom_high address f) in omega arith

    told : (n : ℕ) → (lecomAnswer.refused_by f n).number ≤ done → n ≤ done
    told n = by_choice (λ (x : Answer). x.number ≤ done → n ≤ done) (lecom_frame.collective f) _ _ (λ _ l. l) (λ _ l. l)

    refused' : (n : ℕ) → lecom_frame.asked address f ≡ Err (LecomRefused n) → ⊥
    refused' n e = let l : n ≤ done = told n (subst Low e low) in let g : foreign_address ≤ n = subst LecomHigh e (lecom_high address f) in omega arith

-- Love
abbrev LoveHigh : Result LoveOrder LoveRefusal → Type 0
LoveHigh (Err (LoveSilent n)) = foreign_address ≤ n
LoveHigh (Err (LoveRefused n code)) = foreign_address ≤ n
LoveHigh (Ok order) = Unit {0}

love_high : (address : ℕ) (f : List ℕ) → LoveHigh (loveFrame.asked address f)
unfolding loveFrame.asked
love_high address f =
    by_choice LoveHigh _ _ _ (λ _. by_choice LoveHigh _ _ _ (λ _. by_choice LoveHigh _ _ _ (λ _. by_choice LoveHigh _ _ _ (λ _. by_choice LoveHigh _ _ _ (λ _. by_choice LoveHigh _ _ _ (λ _. by_choice LoveHigh _ _ _ (λ _. by_choice LoveHigh _ _ _ (λ _. by_choice LoveHigh _ _ _ (λ _. by_choice LoveHigh _ _ _ (λ _. by_choice LoveHigh _ _ _ (λ _. tt) (λ _. lit≤ tt)) (λ _. by_choice LoveHigh _ _ _ (λ _. by_choice LoveHigh _ _ _ (λ _. by_choice LoveHigh _ _ _ (λ _. by_choice LoveHigh _ _ _ (λ _. tt) (λ _. lit≤ tt)) (λ _. by_choice LoveHigh _ _ _ (λ _. by_choice LoveHigh _ _ _ (λ _. by_choice LoveHigh _ _ _ (λ _. by_choice LoveHigh _ _ _ (λ _. by_choice LoveHigh _ _ _ (λ _. tt) (λ _. lit≤ tt)) (λ _. lit≤ tt)) (λ _. lit≤ tt)) (λ _. lit≤ tt)) (λ _. lit≤ tt))) (λ _. lit≤ tt)) (λ _. lit≤ tt))) (λ _. lit≤ tt)) (λ _. lit≤ tt)) (λ _. lit≤ tt)) (λ _. lit≤ tt)) (λ _. lit≤ tt)) (λ _. lit≤ tt)) (λ _. lit≤ tt)) (λ _. lit≤ tt)) (λ _. lit≤ tt)

love_taken : (card : Card) (room : ℕ) (f : List ℕ) → (loveAnswer.love_reply card room f).number ≤ done → Whole (step_of Love) f
unfolding loveAnswer.love_reply loveAnswer.obeyed
love_taken card room f h = love-whole (loveAnswer.address_of card.words) f silent' refused'
  where
    address : ℕ
    address = loveAnswer.address_of card.words

    Low : Result LoveOrder LoveRefusal → Type 0
    Low o = (loveAnswer.obeyed card.words card.memory o).number ≤ done

    low : Low (loveFrame.asked address f)
    low = shell_low room_least card room _ h

    silent' : (n : ℕ) → loveFrame.asked address f ≡ Err (LoveSilent n) → ⊥
    silent' n e = let l : n ≤ done = subst Low e low in let g : foreign_address ≤ n = subst LoveHigh e (love_high address f) in omega arith

    refused' : (n code : ℕ) → loveFrame.asked address f ≡ Err (LoveRefused n code) → ⊥
    refused' n code e = let l : n ≤ done = subst Low e low in let g : foreign_address ≤ n = subst LoveHigh e (love_high address f) in omega arith

-- LucidControl: length and LEN
lucid_taken : (card : Card) (room : ℕ) (f : List ℕ) → (lucidAnswer.lucid_reply card room f).number ≤ done → Whole (step_of Lucid) f
unfolding lucidAnswer.lucid_reply lucidAnswer.obeyed lucidFrame.asked
lucid_taken card room f h =
    let a = passed _ _ _ (λ e. no (Err (LucidSilent frame_form)) (lit≤ tt) e) in
    let b = passed _ _ _ (λ e. no (Err (LucidRefused frame_form lucidForm.inv_length)) (lit≤ tt) (a.1 ∙ e)) in
    whole_len f (between_facts lucidForm.shortest lucidForm.longest (length f) a.0).0 (eqb-true _ _ b.0)
  where
    Low : Result LucidOrder LucidRefusal → Type 0
    Low o = (lucidAnswer.obeyed card.words card.memory f o).number ≤ done

    low : Low (lucidFrame.asked f)
    low = shell_low room_least card room _ h

    no : (o : Result LucidOrder LucidRefusal) → foreign_address ≤ (lucidAnswer.obeyed card.words card.memory f o).number → lucidFrame.asked f ≡ o → ⊥
    no o g e = let l : (lucidAnswer.obeyed card.words card.memory f o).number ≤ done = subst Low e low in omega arith

-- WHOLE: fed to a receiver at rest, a frame that its entry takes on some card is handed over with its last byte, byte for byte, and leaves the receiver at rest
pub whole_taken : (card : Card) (d : Dialect) (room : ℕ) (f : List ℕ) → (frame_reply card d room f).number ≤ done → Whole (step_of d) f
unfolding frame_reply
whole_taken card Datalink room f h = datalink_taken card room f h
whole_taken card Lecom room f h = lecom_taken card room f h
whole_taken card Love room f h = love_taken card room f h
whole_taken card Lucid room f h = lucid_taken card room f h
