-- The claims say something: for each of them, and each part of one, a wrong master that breaks it; the card is right. Assumes nothing.
use Rattle.std.proofs.Common.{◌≡◌, ℕ, ◌+◌, ◌/◌, ◌%◌, ◌^◌, true, false, eqb, List, [], ◌∷◌, ◌++◌, reverse, length, get_or, Ok, Err, refl, ap, inl, inr, ⊎_elim, arith, lit<, lit≤}
use Prim.{tt}
use Rattle.wire.specs.Choose.{choose}
use Rattle.wire.specs.Buffer.{same}
use Rattle.wire.specs.Word.{word_values}
use Rattle.wire.specs.Sum.{byte_values, sum_of}
use Rattle.figures.specs.Figure.{decimal, upper_hex, char_of, pair_of}
use Rattle.figures.specs.Decimal.{digits}
use Rattle.figures.specs.Signed.{is_negative, magnitude, text_of}
use Rattle.card.specs.Numbers.{frame_form, check_character}
use Rattle.card.specs.Layout.{Card}
use Rattle.card.specs.Entries.{with_code}
use Rattle.card.specs.Start.{start_card}
use Rattle.lecom.specs.Form.{stx, etx, eot, enq, nak, extended_mark}
use Rattle.lecom.specs.Frame.{bcc_of}
use Rattle.lecom.specs.declared.form.Named.TheVariants.{Register}
use Rattle.lecom.specs.declared.frame.Order.TheVariants.{Read as LecomOrder}
use Rattle.lecom.specs.declared.frame.Refusal.TheVariants.{Silent as LecomSilent}
use Rattle.love.specs.Form.{stx as loveStx, etx as loveEtx, filter_of, write_command, minus_sign}
use Rattle.love.specs.Frame.{byte_at}
use Rattle.love.specs.Answer.{figure_count, value_data}
use Rattle.love.specs.declared.frame.Order.TheVariants.{Probe}
use Rattle.love.specs.declared.frame.Refusal.TheVariants.{Silent as LoveSilent}
use Rattle.lucid.specs.Form.{get_io}
use Rattle.asking.specs.Hearing.{Hearing, is_said, number_of}
use Rattle.asking.specs.Hearing.Hearing.{Gives, Done, Fault, Refused, Unread}
use Rattle.asking.specs.Claims.{Dialect, Below, Askable, Means, Least, At, Hears, Answers, Refuses, Has, CheckWrong, Exact}
use Rattle.asking.proofs.Cards.{every, every_at, start_real, real_code}
use Rattle.lecom_master.specs.Request.{task_bytes as lecomBytes, made as lecomMade}
use Rattle.lecom_master.specs.Heard.{heard as lecomHeard}
use Rattle.lecom_master.specs.declared.request.Task.{Task as LecomTask}
use Rattle.lecom_master.specs.declared.request.Task.TheVariants.{Read as LecomRead, Write as LecomWrite}
use Rattle.lecom_master.specs.declared.request.Request.{Request as LecomRequest}
use Rattle.love_master.specs.Request.{half_of, sign_of, data_of as loveData, made as loveMade}
use Rattle.love_master.specs.Heard.{heard_data, value_word, heard as loveHeard}
use Rattle.love_master.specs.declared.request.Task.{Task as LoveTask}
use Rattle.love_master.specs.declared.request.Task.TheVariants.{Status, Read as LoveRead, Write as LoveWrite}
use Rattle.love_master.specs.declared.request.Request.{Request as LoveRequest}
use Rattle.lucid_master.specs.Request.{Asking, asking_of, opc_of, made as lucidMade}
use Rattle.lucid_master.specs.Heard.{heard as lucidHeard}
use Rattle.lucid_master.specs.declared.request.Command.{Command}
use Rattle.lucid_master.specs.declared.request.Command.TheVariants.{GetIo, GetIoGroup}
use Rattle.masters.specs.Lecom.{lecom_master}
use Rattle.masters.specs.Love.{love_master}
use Rattle.masters.specs.Lucid.{lucid_master, Asked}
use Rattle.masters.specs.Speaking.{speaking}
use Rattle.masters.proofs.Computed.{lecom_computed, love_computed, lucid_computed, askable_by}
use Rattle.masters.proofs.Lecom.{lecom_claims}
use Rattle.masters.proofs.Love.{love_claims}
use Rattle.masters.proofs.Lucid.{lucid_claims}

-- a dialect whose master makes other frames, and one whose master hears otherwise
abbrev making : (d : Dialect) → (d.Request → List ℕ) → Dialect
making d made = speaking d d.reply (record { made = made; heard = d.heard })

abbrev hearing : (d : Dialect) → (d.Request → List ℕ → Hearing) → Dialect
hearing d heard = speaking d d.reply (record { made = d.made; heard = heard })

-- each claim alone, as `Claims` has it
abbrev AllMean : Dialect → Type 0
AllMean d = (q : d.Request) → Askable d q → Means d q

abbrev AllLeast : Dialect → Type 0
AllLeast d = (q : d.Request) → Askable d q → Least d q

abbrev AllHear : Dialect → Type 0
AllHear d = (q : d.Request) → Askable d q → Hears d q

abbrev AllExact : Dialect → Type 0
AllExact d = (q : d.Request) → Askable d q → (r : List ℕ) → Below byte_values r → Exact d q r

-- requests to the start card
abbrev to_lecom : LecomTask → LecomRequest
to_lecom task = record { address = 11; task = task }

abbrev to_love : LoveTask → LoveRequest
to_love task = record { address = 0x32; task = task }

abbrev to_lucid : Command → ℕ → ℕ → Asking
to_lucid command p1 p2 = asking_of (record { command = command; p1 = p1; p2 = p2; address = 0 }) []

-- means

-- LECOM: a frame to the next address
refute_lecom_next_address : AllMean (making lecom_master (λ q. lecomMade (record { address = q.address + 1; task = q.task }))) → ⊥
unfolding lecom_computed
refute_lecom_next_address m =
    let q = to_lecom (LecomRead 0) in
    let z : Err (LecomSilent 2) ≡ Ok (LecomOrder (Register 0)) = (m q (askable_by _ q refl refl)).means 11 in
    let y : ◌≡◌ {A = ℕ} 0 1 = cc in
    omega (arith, y)

-- Love: the same
refute_love_next_address : AllMean (making love_master (λ q. loveMade (record { address = q.address + 1; task = q.task }))) → ⊥
unfolding love_computed
refute_love_next_address m =
    let q = to_love Status in
    let z : Err (LoveSilent 2) ≡ Ok Probe = (m q (askable_by _ q refl refl)).means 0x32 in
    let y : ◌≡◌ {A = ℕ} 0 1 = cc in
    omega (arith, y)

-- LucidControl: GetIo made as a group of that channel, which has the same order
abbrev as_group : Asking → List ℕ
as_group q = choose (eqb (opc_of q.request.command) get_io) (lucidMade (to_lucid GetIoGroup (2 ^ q.request.p1) q.request.p2)) (lucidMade q)

refute_lucid_as_group : AllMean (making lucid_master as_group) → ⊥
unfolding lucid_computed
refute_lucid_as_group m =
    let q = to_lucid GetIo 0 0x40 in
    let z : ◌≡◌ {A = ℕ} 0x48 0x46 = ap (λ (x : Asked). x.opc) ((m q (askable_by _ q refl refl)).means 0) in
    omega (arith, z)

-- least: LECOM too long, Love as long and too high. LucidControl has one frame for a request

-- a LECOM frame, by what comes after its address figures
abbrev lecom_frame : (LecomTask → List ℕ) → LecomRequest → List ℕ
lecom_frame bytes q = eot ∷ char_of (q.address / decimal) ∷ char_of (q.address % decimal) ∷ bytes q.task

-- LECOM: an extended code in every read
abbrev extended_bytes : LecomTask → List ℕ
extended_bytes (LecomRead code) = extended_mark ∷ 0x30 ∷ 0x30 ∷ (pair_of code ++ (0x30 ∷ 0x30 ∷ enq ∷ []))
extended_bytes (LecomWrite code value) = lecomBytes (LecomWrite code value)

refute_lecom_extended : AllLeast (making lecom_master (lecom_frame extended_bytes)) → ⊥
unfolding lecom_computed
refute_lecom_extended m =
    let q = to_lecom (LecomRead 0) in
    let f = lecomMade q in
    let z : false ≡ true = (m q (askable_by _ q refl refl)).least f (record { bytes = every_at byte_values f (lit< tt) refl; asks = λ unit u. refl }) in
    let y : ◌≡◌ {A = ℕ} 0 1 = cc in
    omega (arith, y)

-- LECOM: a leading zero in every value that has no minus
abbrev padded_body : ℕ → ℕ → List ℕ
padded_body code value = pair_of code ++ (choose (is_negative value) (text_of value) (0x30 ∷ text_of value) ++ (etx ∷ []))

abbrev padded_bytes : LecomTask → List ℕ
padded_bytes (LecomRead code) = lecomBytes (LecomRead code)
padded_bytes (LecomWrite code value) = stx ∷ (padded_body code value ++ (bcc_of (padded_body code value) ∷ []))

refute_lecom_leading_zero : AllLeast (making lecom_master (lecom_frame padded_bytes)) → ⊥
unfolding lecom_computed
refute_lecom_leading_zero m =
    let q = to_lecom (LecomWrite 0 5) in
    let f = lecomMade q in
    let z : false ≡ true = (m q (askable_by _ q refl refl)).least f (record { bytes = every_at byte_values f (lit< tt) refl; asks = λ unit u. refl }) in
    let y : ◌≡◌ {A = ℕ} 0 1 = cc in
    omega (arith, y)

-- Love: the sign FF in a write of zero
abbrev minus_data : LoveTask → List ℕ
minus_data Status = loveData Status
minus_data (LoveRead place) = loveData (LoveRead place)
minus_data (LoveWrite place value) = pair_of write_command ++ (pair_of (half_of place) ++ (digits figure_count (magnitude value) ++ pair_of (choose (eqb value 0) minus_sign (sign_of value))))

abbrev minus_body : LoveRequest → List ℕ
minus_body q = pair_of (q.address % 0x100) ++ minus_data q.task

abbrev minus_frame : LoveRequest → List ℕ
minus_frame q = loveStx ∷ filter_of q.address ∷ (minus_body q ++ (pair_of (sum_of (minus_body q)) ++ (loveEtx ∷ [])))

refute_love_minus_zero : AllLeast (making love_master minus_frame) → ⊥
unfolding love_computed
refute_love_minus_zero m =
    let q = to_love (LoveWrite 0 0) in
    let f = loveMade q in
    let z : false ≡ true = (m q (askable_by _ q refl refl)).least f (record { bytes = every_at byte_values f (lit< tt) refl; asks = λ unit u. refl }) in
    let y : ◌≡◌ {A = ℕ} 0 1 = cc in
    omega (arith, y)

-- hears

-- LECOM: NAK read as a fault
refute_lecom_nak_fault : AllHear (hearing lecom_master (λ q r. choose (same r (nak ∷ [])) Fault (lecomHeard q r))) → ⊥
unfolding lecom_computed
refute_lecom_nak_fault m =
    let q = to_lecom (LecomRead 0x60) in
    let z : Fault ≡ Refused [] = (m q (askable_by _ q refl refl)).hears start_card (record { real = start_real; there = refl }) 38 (lit≤ tt) in
    let y : ◌≡◌ {A = ℕ} 0 1 = cc in
    omega (arith, y)

-- Love: D read as a temperature of 0
refute_love_d_zero : AllHear (hearing love_master (λ q r. choose (eqb (get_or r 4 0) 0x44) (Gives (0 ∷ [])) (loveHeard q r))) → ⊥
unfolding love_computed
refute_love_d_zero m =
    let q = to_love Status in
    let z : Gives (0 ∷ []) ≡ Fault = (m q (askable_by _ q refl refl)).hears start_card (record { real = start_real; there = refl }) 38 (lit≤ tt) in
    let y : ◌≡◌ {A = ℕ} 0 1 = cc in
    omega (arith, y)

-- LucidControl: the values of a group highest channel first
abbrev turned : Hearing → Hearing
turned (Gives values) = Gives (reverse values)
turned Done = Done
turned Fault = Fault
turned (Refused code) = Refused code
turned (Unread number) = Unread number

-- 5 °C and 10 °C in channels 0 and 1
abbrev two_warm : Card
two_warm = with_code (with_code start_card 0 90) 1 100

refute_lucid_turned : AllHear (hearing lucid_master (λ q r. turned (lucidHeard q r))) → ⊥
unfolding lucid_computed
refute_lucid_turned m =
    let q = to_lucid GetIoGroup 3 0x40 in
    let real = real_code (with_code start_card 0 90) 1 100 (real_code start_card 0 90 start_real (lit< tt)) (lit< tt) in
    let z : Gives (100 ∷ 50 ∷ []) ≡ Gives (50 ∷ 100 ∷ []) = (m q (askable_by _ q refl refl)).hears two_warm (record { real = real; there = refl }) 38 (lit≤ tt) in
    let y : ◌≡◌ {A = ℕ} 100 50 = cc in
    omega (arith, y)

-- exact: where a card's entry and the made frames are the same, so is what document 01 has

module _ (d : Dialect) (f g : d.Request → List ℕ → Hearing) (q : d.Request) where
  -- a card at the address, an answer, a refusal, and either
  at_with : (card : Card) → At (hearing d f) q card → At (hearing d g) q card
  at_with card at = record { real = at.real; there = at.there }

  answers_with : (h : Hearing) (r : List ℕ) → Answers (hearing d f) q h r → Answers (hearing d g) q h r
  answers_with h r x = record { card = x.card; at = at_with x.card x.at; number = x.number; sends = x.sends; says = x.says }

  refuses_with : (h : Hearing) (r : List ℕ) → Refuses (hearing d f) q h r → Refuses (hearing d g) q h r
  refuses_with h r x =
      record {
        card = x.card;
        at = at_with x.card x.at;
        frame = x.frame;
        bytes = x.bytes;
        number = x.number;
        sends = x.sends;
        some = x.some;
        says = x.says;
      }

  has_with : (h : Hearing) (r : List ℕ) → Has (hearing d f) q h r → Has (hearing d g) q h r
  has_with h r = ⊎_elim (λ (x : Answers (hearing d f) q h r). inl (answers_with h r x)) (λ (x : Refuses (hearing d f) q h r). inr (refuses_with h r x))

module _ (d : Dialect) (f g : d.Request → List ℕ → Hearing) (q : d.Request) (r : List ℕ) where
  -- wrong check characters
  check_with : CheckWrong (hearing d f) q r → CheckWrong (hearing d g) q r
  check_with x =
      record {
        characters = x.characters;
        size = x.size;
        inside = x.inside;
        says = x.says;
        mended = answers_with d f g q x.says _ x.mended;
        none = λ h y. x.none h (has_with d g f q h r y);
      }

-- so two masters of which the claim holds hear the same
module _ (d : Dialect) (f g : d.Request → List ℕ → Hearing) (q : d.Request) (r : List ℕ) (x : Exact (hearing d f) q r) (y : Exact (hearing d g) q r) where
  -- what is said, 4, and 3
  said_both : (h : Hearing) → is_said h ≡ true → f q r ≡ h → g q r ≡ h
  said_both h s e = (y.said h s).1 (has_with d f g q h r ((x.said h s).0 e))

  check_both : f q r ≡ Unread check_character → g q r ≡ Unread check_character
  check_both e = y.check.1 (check_with d f g q r (x.check.0 e))

  form_both : f q r ≡ Unread frame_form → g q r ≡ Unread frame_form
  form_both e =
      let o = x.form.0 e in
      y.form.1 (λ h z. o.0 h (has_with d g f q h r z), λ z. o.1 (check_with d g f q r z))

-- the claim at a request and a reply, by their tests
exact_at : (d : Dialect) → AllExact d → (q : d.Request) → d.askable q ≡ true → every word_values (d.numbers q) ≡ true → (r : List ℕ) → every byte_values r ≡ true → Exact d q r
exact_at d x q right words r bytes = x q (askable_by d q right words) r (every_at byte_values r (lit< tt) bytes)

-- said, Love: a reply of another address is taken, 33h for 32h
abbrev any_address : LoveRequest → List ℕ → Hearing
any_address q r = loveHeard (record { address = byte_at upper_hex r 2; task = q.task }) r

refute_love_any_address : AllExact (hearing love_master any_address) → ⊥
unfolding love_computed
refute_love_any_address m =
    let q = to_love (LoveWrite 0 0) in
    let r : List ℕ = 0x02 ∷ 0x4C ∷ 0x33 ∷ 0x33 ∷ 0x30 ∷ 0x30 ∷ 0x31 ∷ 0x32 ∷ 0x06 ∷ [] in
    let right = exact_at love_master love_claims.exact q refl refl r refl in
    let wrong = exact_at _ m q refl refl r refl in
    let z : Unread 3 ≡ Done = said_both love_master any_address loveHeard q r wrong right Done refl refl in
    let y : ◌≡◌ {A = ℕ} 0 1 = cc in
    omega (arith, y)

-- said, Love: a value outside is taken, 871 of SP1
abbrev any_value : LoveRequest → List ℕ → Hearing
any_value q r = choose (eqb (length r) 13) (heard_data q.address r (value_data (value_word r)) (Gives (value_word r ∷ []))) (loveHeard q r)

refute_love_any_value : AllExact (hearing love_master any_value) → ⊥
unfolding love_computed
refute_love_any_value m =
    let q = to_love (LoveRead 0) in
    let r : List ℕ = 0x02 ∷ 0x4C ∷ 0x33 ∷ 0x32 ∷ 0x30 ∷ 0x30 ∷ 0x30 ∷ 0x38 ∷ 0x37 ∷ 0x31 ∷ 0x45 ∷ 0x31 ∷ 0x06 ∷ [] in
    let right = exact_at love_master love_claims.exact q refl refl r refl in
    let wrong = exact_at _ m q refl refl r refl in
    let z : Unread 3 ≡ Gives (871 ∷ []) = said_both love_master any_value loveHeard q r wrong right (Gives (871 ∷ [])) refl refl in
    let y : ◌≡◌ {A = ℕ} 0 1 = cc in
    omega (arith, y)

-- said, LucidControl: D0h is taken for 3, so that a fault is not said
abbrev deaf : Asking → List ℕ → Hearing
deaf q r = choose (eqb (get_or r 0 0) 0xD0) (Unread 3) (lucidHeard q r)

refute_lucid_deaf : AllExact (hearing lucid_master deaf) → ⊥
unfolding lucid_computed
refute_lucid_deaf m =
    let q = to_lucid GetIo 0 0x40 in
    let r : List ℕ = 0xD0 ∷ 0x00 ∷ [] in
    let right = exact_at lucid_master lucid_claims.exact q refl refl r refl in
    let wrong = exact_at _ m q refl refl r refl in
    let z : Unread 3 ≡ Fault = said_both lucid_master lucidHeard deaf q r right wrong Fault refl refl in
    let y : ◌≡◌ {A = ℕ} 0 1 = cc in
    omega (arith, y)

-- another number for one
abbrev numbered : ℕ → ℕ → Hearing → Hearing
numbered from to h = choose (eqb (number_of h) from) (Unread to) h

-- check, LECOM: a wrong BCC is taken for 3
abbrev three_for_four : LecomRequest → List ℕ → Hearing
three_for_four q r = numbered 4 3 (lecomHeard q r)

refute_lecom_three_for_four : AllExact (hearing lecom_master three_for_four) → ⊥
unfolding lecom_computed
refute_lecom_three_for_four m =
    let q = to_lecom (LecomRead 0) in
    let r : List ℕ = 0x02 ∷ 0x30 ∷ 0x30 ∷ 0x30 ∷ 0x03 ∷ 0x34 ∷ [] in
    let right = exact_at lecom_master lecom_claims.exact q refl refl r refl in
    let wrong = exact_at _ m q refl refl r refl in
    let z : Unread 3 ≡ Unread 4 = check_both lecom_master lecomHeard three_for_four q r right wrong refl in
    let y : ◌≡◌ {A = ℕ} 3 4 = cc in
    omega (arith, y)

-- check, LECOM: any other reply, the empty one too, is taken for 4
abbrev four_for_three : LecomRequest → List ℕ → Hearing
four_for_three q r = numbered 3 4 (lecomHeard q r)

refute_lecom_four_for_three : AllExact (hearing lecom_master four_for_three) → ⊥
unfolding lecom_computed
refute_lecom_four_for_three m =
    let q = to_lecom (LecomRead 0) in
    let right = exact_at lecom_master lecom_claims.exact q refl refl [] refl in
    let wrong = exact_at _ m q refl refl [] refl in
    let z : Unread 3 ≡ Unread 4 = check_both lecom_master four_for_three lecomHeard q [] wrong right refl in
    let y : ◌≡◌ {A = ℕ} 3 4 = cc in
    omega (arith, y)

-- form, LECOM: an empty reply is said to be refused
abbrev empty_refused : LecomRequest → List ℕ → Hearing
empty_refused q r = choose (eqb (length r) 0) (Refused []) (lecomHeard q r)

refute_lecom_empty_refused : AllExact (hearing lecom_master empty_refused) → ⊥
unfolding lecom_computed
refute_lecom_empty_refused m =
    let q = to_lecom (LecomRead 0) in
    let right = exact_at lecom_master lecom_claims.exact q refl refl [] refl in
    let wrong = exact_at _ m q refl refl [] refl in
    let z : Refused [] ≡ Unread 3 = form_both lecom_master lecomHeard empty_refused q [] right wrong refl in
    let y : ◌≡◌ {A = ℕ} 0 1 = cc in
    omega (arith, y)

-- form, LucidControl: D0h taken for 3, where document 01 has it
refute_lucid_deaf_form : AllExact (hearing lucid_master deaf) → ⊥
unfolding lucid_computed
refute_lucid_deaf_form m =
    let q = to_lucid GetIo 0 0x40 in
    let r : List ℕ = 0xD0 ∷ 0x00 ∷ [] in
    let right = exact_at lucid_master lucid_claims.exact q refl refl r refl in
    let wrong = exact_at _ m q refl refl r refl in
    let z : Fault ≡ Unread 3 = form_both lucid_master deaf lucidHeard q r wrong right refl in
    let y : ◌≡◌ {A = ℕ} 0 1 = cc in
    omega (arith, y)
