-- What LECOM's master hears as refused some card refuses so, and the other way round. Assumes nothing.
use Rattle.std.proofs.Common.{◌≡◌, ℕ, suc, ◌+◌, ◌-◌, ◌*◌, ◌/◌, ◌%◌, ◌<◌, ◌≤◌, Bool, true, false, not, ◌&&◌, eqb, List, [], ◌∷◌, ◌++◌, length, get_or, take, drop, Ok, Err, Result, sym, refl, ap, ◌∙◌, subst, arith, length-append, take-append-drop, drop_of_length-le, drop-cons, drop-drop, take_at, eqb-true}
use borrow.Author.Tests.{not-true}
use Rattle.wire.specs.Choose.{choose}
use Rattle.wire.specs.Buffer.{part, same}
use Rattle.wire.specs.Length.{between}
use Rattle.wire.specs.Sum.{byte_values}
use Rattle.wire.proofs.Cases.{by_choice}
use Rattle.wire.proofs.Lengths.{between_facts}
use Rattle.wire.proofs.Same.{same_refl, same_true}
use Rattle.wire.proofs.Tests.{and_true, or_true_right, either}
use Rattle.figures.specs.Figure.{decimal, char_of, figure_of}
use Rattle.figures.proofs.Characters.{char_decimal}
use Rattle.figures.proofs.Known.{char_figure}
use Rattle.card.specs.Numbers.{foreign_address, frame_form, range_unknown, probe_fault}
use Rattle.card.specs.Layout.{Card}
use Rattle.card.specs.Fitness.{lecom_right}
use Rattle.card.specs.Reply.{Answer, room_least, shell, on_words, leaving}
use Rattle.card.specs.declared.probe.Reading.{Reading}
use Rattle.card.specs.declared.probe.Reading.TheVariants.{Temperature, Fault}
use Rattle.lecom.specs.Form.{shortest, longest, eot, enq, ack, nak, tens_at, ones_at, start_at}
use Rattle.lecom.specs.Frame.{tens_in, ones_in, collective, reaches, is_write, code_at, is_extended, hex_at, code_end, code_of, size_right, end_right, asked}
use Rattle.lecom.specs.Answer.{quietly, value_bytes, refusal_bytes, unknown_bytes, done_by, refused_by, probe_answer, read_answer, obeyed, lecom_reply}
use Rattle.lecom.specs.declared.form.Named.TheVariants.{Register, Probe, Activate, Store}
use Rattle.lecom.specs.declared.frame.Order.{Order}
use Rattle.lecom.specs.declared.frame.Refusal.{Refusal}
use Rattle.lecom.specs.declared.frame.Order.TheVariants.{Read, Write}
use Rattle.lecom.specs.declared.frame.Refusal.TheVariants.{Silent, Refused}
use Rattle.lecom.proofs.Frames.{bounds, figures_small, read_start}
use Rattle.lecom.proofs.Passing.{Laid, unknown_laid}
use Rattle.lecom.proofs.Wholes.{read_size, read_end}
use Rattle.asking.specs.Hearing.{Hearing}
use Rattle.asking.specs.Hearing.Hearing.{Refused as RefusedHearing}
use Rattle.asking.specs.Claims.{Below, At, Refuses}
use Rattle.asking.proofs.Bytes.{take_below, drop_below, cons_below, append_below, none_below}
use Rattle.lecom_master.specs.Heard.{read_of, is_unknown, unknown_code, is_refusal}
use Rattle.lecom_master.specs.declared.request.Request.{Request}
use Rattle.lecom_master.proofs.Requests.{unit_most, figures_right_law}
use Rattle.lecom_master.proofs.Unknowns.{unknown_order}
use Rattle.masters.specs.Lecom.{lecom_master}
use Rattle.masters.proofs.LecomMeans.{reaches_unit}
use Rattle.masters.proofs.LecomHears.{not_collective, own_reached}
use Rattle.masters.proofs.LecomCards.{some_card, some_placed}

-- an address figure's character is a byte
char_byte : (v : ℕ) → v < decimal → char_of v < byte_values
char_byte v h = omega (arith, char_decimal v h)

-- The entry on a card at an address, whatever the frame

replied_any : (q : Request) (card : Card) → At lecom_master q card → (f : List ℕ) → lecom_reply card room_least f ≡ on_words card (obeyed card.words card.memory f (asked q.address f))
unfolding lecom_reply shell choose
replied_any q card a f = rw (a.real.fits, a.there)

-- A refusal is some card's

module _ (q : Request) (own : lecom_right q.address ≡ true) where
  abbrev address : ℕ
  address = q.address

  abbrev pub card : Card
  card = some_card address own

  pub some_at : At lecom_master q card
  some_at = record { real = (some_placed address own).real; there = (some_placed address own).there }

  start_below : (rest : List ℕ) → Below byte_values rest → Below byte_values (eot ∷ char_of (address / decimal) ∷ char_of (address % decimal) ∷ rest)
  start_below rest h =
      let m = unit_most address own in
      let t = char_of (address / decimal) in
      let o = char_of (address % decimal) in
      let k : Below byte_values (o ∷ rest) = cons_below byte_values o rest (char_byte (address % decimal) (omega arith)) h in
      cons_below byte_values eot (t ∷ o ∷ rest) (omega arith) (cons_below byte_values t (o ∷ rest) (char_byte (address / decimal) (omega (arith, m))) k)

  -- a frame of the wrong layout
  abbrev rest : List ℕ
  rest = 0 ∷ 0 ∷ 0 ∷ []

  rest_below : Below byte_values rest
  rest_below =
      cons_below byte_values 0 (0 ∷ 0 ∷ []) (omega arith) (cons_below byte_values 0 (0 ∷ []) (omega arith) (cons_below byte_values 0 [] (omega arith) (none_below byte_values (omega arith))))

  abbrev bad : List ℕ
  bad = eot ∷ char_of (address / decimal) ∷ char_of (address % decimal) ∷ rest

  bad_asked : asked address bad ≡ Err (Refused frame_form)
  unfolding asked size_right end_right code_end hex_at is_extended code_at is_write between choose
  bad_asked =
      let m = unit_most address own in
      rw (figures_right_law address m rest, reaches_unit address m rest address, own_reached address own)

  by_nak : (r : List ℕ) → r ≡ nak ∷ [] → Refuses lecom_master q (RefusedHearing []) r
  unfolding obeyed refused_by refusal_bytes choose
  by_nak r e =
      let o : lecom_reply card room_least bad ≡ on_words card (leaving card.words (record { number = frame_form; bytes = nak ∷ [] })) =
      replied_any q card some_at bad ∙ rw (bad_asked, not_collective address own rest) in
      record {
        card = card;
        at = some_at;
        frame = bad;
        bytes = start_below rest rest_below;
        number = rw o (omega arith);
        sends = rw o (sym e);
        some = rw e (omega arith);
        says = refl;
      }

  by_code : (r text : List ℕ) → Below byte_values text → r ≡ unknown_bytes (read_of address text) → is_write (read_of address text) ≡ false → is_unknown (asked address (read_of address text)) ≡ true
      → Refuses lecom_master q (RefusedHearing []) r
  unfolding obeyed refused_by refusal_bytes unknown_bytes read_of choose
  by_code r text below e w six =
      let f = read_of address text in
      let o : lecom_reply card room_least f ≡ on_words card (leaving card.words (record { number = range_unknown; bytes = unknown_bytes f })) =
      replied_any q card some_at f ∙ rw (unknown_order (asked address f) six, not_collective address own (text ++ (enq ∷ [])), w) in
      record {
        card = card;
        at = some_at;
        frame = f;
        bytes = start_below (text ++ (enq ∷ [])) (append_below byte_values text (enq ∷ []) below (cons_below byte_values enq [] (omega arith) (none_below byte_values (omega arith))));
        number = rw o (omega arith);
        sends = rw o (sym e);
        some = rw e (omega arith);
        says = refl;
      }

  pub refused_by_law : (r : List ℕ) → Below byte_values r → is_refusal address r ≡ true → Refuses lecom_master q (RefusedHearing []) r
  unfolding is_refusal unknown_code
  refused_by_law r below h =
      either (same r (nak ∷ [])) _ h (λ a. by_nak r (same_true r (nak ∷ []) a))
      (λ b.
      let text = part r 1 (length r - 1) in
      let x = and_true (same r (unknown_bytes (read_of address text))) _ b in
      let y = and_true (not (is_write (read_of address text))) _ x.1 in
      let bytes = take_below byte_values (length r - 1 - 1) (drop 1 r) (omega arith) (drop_below byte_values 1 r below) in
      by_code r text bytes (same_true r (unknown_bytes (read_of address text)) x.0) (not-true _ y.0) y.1)

-- Back: what a card sends where it refuses

three : (f : List ℕ) → 3 ≤ length f → f ≡ get_or f 0 0 ∷ get_or f 1 0 ∷ get_or f 2 0 ∷ drop 3 f
three [] h = let z : ⊥ = omega arith in absurd z
three (a ∷ []) h = let z : ⊥ = omega arith in absurd z
three (a ∷ b ∷ []) h = let z : ⊥ = omega arith in absurd z
three (a ∷ b ∷ c ∷ r) h = refl

-- a read to the unit's own address that is refused for its code is the read of that code
module _ (address : ℕ) (f : List ℕ) (six : asked address f ≡ Err (Refused range_unknown)) (single : collective f ≡ false) (reads : is_write f ≡ false) where
  abbrev laid : Laid address f
  laid = unknown_laid address f six

  abbrev long : (shortest ≤ length f) × (length f ≤ longest)
  long = between_facts shortest longest (length f) laid.long

  small : (tens_in f < decimal) × (ones_in f < decimal)
  small = figures_small f (omega (arith, long.0)) laid.figured

  address_is : decimal * tens_in f + ones_in f ≡ address
  unfolding reaches choose
  address_is = eqb-true _ address (rw single at laid.reached)

  tens_char : get_or f tens_at 0 ≡ char_of (address / decimal)
  unfolding tens_in
  tens_char =
      let e : figure_of (get_or f tens_at 0) ≡ address / decimal = omega (arith, small, address_is) in
      sym (char_figure (get_or f tens_at 0) (omega (arith, small))) ∙ ap char_of e

  ones_char : get_or f ones_at 0 ≡ char_of (address % decimal)
  unfolding ones_in
  ones_char =
      let e : figure_of (get_or f ones_at 0) ≡ address % decimal = omega (arith, small, address_is) in
      sym (char_figure (get_or f ones_at 0) (omega (arith, small))) ∙ ap char_of e

  size : length f ≡ code_end f + 1
  size = read_size f reads laid.sized

  tail : drop (code_end f) f ≡ enq ∷ []
  tail =
      let m : code_end f ≡ length f - 1 = omega (arith, size) in
      let n : suc (length f - 1) ≡ length f = omega (arith, size) in
      rw m (drop-cons f (length f - 1) 0 (omega (arith, size)) ∙ rw (read_end f reads laid.ended, n) (ap (λ (l : List ℕ). enq ∷ l) (drop_of_length-le f {i = length f} (omega arith))))

  itself : f ≡ read_of address (code_of f)
  unfolding read_of code_of
  itself =
      let m : start_at + (code_end f - start_at) ≡ code_end f = omega (arith, bounds f, read_start f reads) in
      let n = code_end f - start_at in
      let d : drop start_at f ≡ take n (drop start_at f) ++ (enq ∷ []) = sym (take-append-drop n (drop start_at f)) ∙ rw (drop-drop n start_at f, m, tail) in
      three f (omega (arith, long.0))
      ∙ rw (eqb-true (get_or f 0 0) eot laid.starts, tens_char, ones_char, read_start f reads) (ap (λ (l : List ℕ). eot ∷ char_of (address / decimal) ∷ char_of (address % decimal) ∷ l) d)

  code_shown : part (unknown_bytes f) 1 (length (unknown_bytes f) - 1) ≡ code_of f
  unfolding unknown_bytes
  code_shown =
      let n : length (code_of f) ≡ length (unknown_bytes f) - 1 - 1 = simp length-append (omega arith) in
      take_at (code_of f) (eot ∷ []) _ n

  unknown_refusal : is_refusal address (unknown_bytes f) ≡ true
  unfolding is_refusal unknown_code is_unknown
  unknown_refusal =
      let u : same (unknown_bytes f) (unknown_bytes f) ≡ true = same_refl (unknown_bytes f) in
      rw (code_shown, ← itself, u, reads, six) (or_true_right (same (unknown_bytes f) (nak ∷ [])))

module _ (address : ℕ) (card : Card) (f r : List ℕ) (long : 0 < length r) where
  abbrev P : Answer → Type 0
  P a = foreign_address ≤ a.number → a.bytes ≡ r → is_refusal address r ≡ true

  silent : (n : ℕ) → P (quietly n)
  silent n h e = let z : ⊥ = omega (arith, ap length e) in absurd z

  nak_refusal : nak ∷ [] ≡ r → is_refusal address r ≡ true
  unfolding is_refusal same
  nak_refusal e = subst (λ (x : List ℕ). is_refusal address x ≡ true) e refl

  by_done : (quiet : Bool) (bytes : List ℕ) → P (done_by quiet bytes)
  unfolding done_by
  by_done quiet bytes = by_choice P quiet _ _ (λ _. silent 1) (λ _ h e. let z : ⊥ = omega arith in absurd z)

  by_refused : (n : ℕ) → (n ≡ range_unknown → asked address f ≡ Err (Refused range_unknown)) → P (refused_by f n)
  unfolding refused_by refusal_bytes
  by_refused n six =
      by_choice P (collective f) _ _ (λ _. silent n)
      (λ single _. by_choice (λ (b : List ℕ). b ≡ r → is_refusal address r ≡ true) (eqb n range_unknown && not (is_write f)) _ _
      (λ t e.
      let x = and_true (eqb n range_unknown) (not (is_write f)) t in
      subst (λ (b : List ℕ). is_refusal address b ≡ true) e (unknown_refusal address f (six (eqb-true n range_unknown x.0)) single (not-true _ x.1)))
      (λ _. nak_refusal))

  by_probe : (k : Reading) → P (probe_answer f k)
  unfolding probe_answer
  by_probe (Temperature tenths) = by_done (collective f) (value_bytes f tenths.0)
  by_probe Fault = by_refused probe_fault (λ e. let z : ⊥ = omega arith in absurd z)

  back : (o : Result Order Refusal) → asked address f ≡ o → foreign_address ≤ (obeyed card.words card.memory f o).number → (obeyed card.words card.memory f o).bytes ≡ r → is_refusal address r ≡ true
  unfolding obeyed read_answer
  back (Err (Silent n)) d = silent n
  back (Err (Refused n)) d = by_refused n (λ e. d ∙ ap (λ (k : ℕ). Err (Refused k)) e)
  back (Ok (Read (Register k))) d = by_done (collective f) _
  back (Ok (Read (Probe channel))) d = by_probe _
  back (Ok (Read Activate)) d = by_done (collective f) _
  back (Ok (Read Store)) d = by_done (collective f) _
  back (Ok (Write named value)) d = by_done (collective f) (ack ∷ [])

pub refusal_heard : (q : Request) (r : List ℕ) (h : Hearing) → Refuses lecom_master q h r → is_refusal q.address r ≡ true
refusal_heard q r h c =
    let d = replied_any q c.card c.at c.frame in
    back q.address c.card c.frame r c.some (asked q.address c.frame) refl (rw d at c.number) (rw d at c.sends)
