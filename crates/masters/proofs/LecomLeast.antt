-- A made LECOM request is the least of its frames: every other one is longer. Assumes nothing.
use Rattle.std.proofs.Common.{◌≡◌, ℕ, suc, ◌+◌, ◌-◌, ◌*◌, ◌/◌, ◌%◌, ◌<◌, ◌≤◌, Bool, true, false, ◌⊎◌, List, [], ◌∷◌, ◌++◌, length, get_or, take, drop, Err, sym, refl, ap, ◌∙◌, subst, inl, inr, ⊎_elim, append_assoc, arith, length-append, take-append-drop, drop_of_length-le, drop-cons, drop-drop, take_at, eqb-true, Option, Some, None}
use Prim.{tt}
use Rattle.wire.specs.Choose.{choose}
use Rattle.wire.specs.Buffer.{part}
use Rattle.wire.proofs.Buffers.{length_part}
use Rattle.wire.proofs.Lengths.{between_facts}
use Rattle.wire.proofs.Tests.{and_true}
use Rattle.figures.specs.Figure.{decimal, base, char_of, pair_of}
use Rattle.figures.specs.Signed.{text_of, parsed_of}
use Rattle.figures.proofs.Known.{char_figure, pair_chars, text_least}
use Rattle.card.specs.Numbers.{foreign_address}
use Rattle.card.specs.Fitness.{register_most, lecom_most, lecom_right}
use Rattle.lecom.specs.Form.{shortest, longest, stx, etx, eot, enq, tens_at, ones_at, start_at, closing, data_least, data_most, named_by, known, writable}
use Rattle.lecom.specs.Frame.{tens_in, ones_in, collective, reaches, is_write, code_at, is_extended, code_end, bcc_of, bcc_right, pair_in, code_number, subcode_right, named_in, data_of, data_read, value_right, value_in, data_right, ordered, asked, ordering}
use Rattle.lecom.specs.declared.form.Named.{Named}
use Rattle.lecom.specs.declared.frame.Order.TheVariants.{Read as ReadOrder, Write as WriteOrder}
use Rattle.lecom.specs.declared.frame.Refusal.TheVariants.{Silent}
use Rattle.lecom.proofs.Frames.{read_start, write_start, extended_code, standard_hex_law, standard_code, figures_small, write_holds}
use Rattle.lecom.proofs.Passing.{Passed, Obeyed, asked_passed, order_passed, order_read, order_write_law}
use Rattle.lecom.proofs.Values.{named_once}
use Rattle.lecom.proofs.Wholes.{read_size, read_end, write_end}
use Rattle.lecom.specs.declared.frame.Order.{Order}
use Rattle.asking.specs.Claims.{ForSame, Askable, Least}
use Rattle.asking.proofs.Later.{Longer, no_later_law}
use Rattle.lecom_master.specs.Request.{task_right, body, checked, task_bytes, made}
use Rattle.lecom_master.specs.declared.request.Task.{Task}
use Rattle.lecom_master.specs.declared.request.Task.TheVariants.{Read, Write}
use Rattle.lecom_master.specs.declared.request.Request.{Request}
use Rattle.lecom_master.proofs.Requests.{known_byte, writable_known, address_most_law, askable_parts}
use Rattle.masters.specs.Lecom.{lecom_master, order_of, addresses, asked_of}
use Rattle.masters.proofs.LecomMeans.{lecom_means}
use Rattle.masters.proofs.LecomAddresses.{address_known_law, some_unit}

-- a value that is taken was read
took : (named : Option Named) (p : Option ℕ) (value : ℕ) → value_right named p ≡ true → value_in p ≡ value → p ≡ Some value
unfolding value_right value_in
took named None value h e = let z : ◌≡◌ {A = ℕ} 0 1 = cc in let n : ⊥ = omega (arith, z) in absurd n
took named (Some v) value h e = ap Some e

-- the order of a frame that reads what a code names, and of one that writes it
read_order : (f : List ℕ) (n : Option Named) → known n ≡ true → ordered f ≡ ordering ReadOrder n → (is_write f ≡ false) × (named_in f ≡ n)
read_order f None h e = let z : ◌≡◌ {A = ℕ} 0 1 = cc in let w : ⊥ = omega (arith, z) in absurd w
read_order f (Some named) h e = order_read f named e

write_order : (f : List ℕ) (value : ℕ) (n : Option Named) → known n ≡ true → ordered f ≡ ordering (λ (named : Named). WriteOrder named value) n
    → (is_write f ≡ true) × ((named_in f ≡ n) × (value_in (data_read f) ≡ value))
write_order f value None h e = let z : ◌≡◌ {A = ℕ} 0 1 = cc in let w : ⊥ = omega (arith, z) in absurd w
write_order f value (Some named) h e = order_write_law f named value e

-- a list of six or more by its first elements
six : (f : List ℕ) → 6 ≤ length f → f ≡ get_or f 0 0 ∷ get_or f 1 0 ∷ get_or f 2 0 ∷ get_or f 3 0 ∷ get_or f 4 0 ∷ get_or f 5 0 ∷ drop 6 f
six [] h = let z : ⊥ = omega arith in absurd z
six (a ∷ []) h = let z : ⊥ = omega arith in absurd z
six (a ∷ b ∷ []) h = let z : ⊥ = omega arith in absurd z
six (a ∷ b ∷ c ∷ []) h = let z : ⊥ = omega arith in absurd z
six (a ∷ b ∷ c ∷ d ∷ []) h = let z : ⊥ = omega arith in absurd z
six (a ∷ b ∷ c ∷ d ∷ e ∷ []) h = let z : ⊥ = omega arith in absurd z
six (a ∷ b ∷ c ∷ d ∷ e ∷ g ∷ r) h = refl

-- a frame at this address that passes
module _ (unit : ℕ) (f : List ℕ) (p : Passed unit f) (address : ℕ) (most : address ≤ lecom_most) (tens-are : tens_in f ≡ address / decimal) (ones-are : ones_in f ≡ address % decimal) where
  first : get_or f 0 0 ≡ eot
  first = eqb-true (get_or f 0 0) eot p.starts

  second : get_or f tens_at 0 ≡ char_of (address / decimal)
  unfolding tens_in
  second = sym (char_figure (get_or f tens_at 0) (omega (arith, tens-are))) ∙ ap char_of tens-are

  third : get_or f ones_at 0 ≡ char_of (address % decimal)
  unfolding ones_in
  third = sym (char_figure (get_or f ones_at 0) (omega (arith, ones-are))) ∙ ap char_of ones-are

  -- a standard code's characters
  code_chars : (code : ℕ) → known (named_by code) ≡ true → named_in f ≡ named_by code → is_extended f ≡ false → (get_or f (code_at f) 0 ≡ char_of (code / base)) × (get_or f (code_at f + 1) 0 ≡ char_of (code % base))
  unfolding named_in subcode_right code_number pair_in choose
  code_chars code named e x =
      let n : pair_in f (code_at f) ≡ code = named_once (pair_in f (code_at f)) code named (rw (x, standard_hex_law f x) at e) in
      pair_chars _ _ code (known_byte code named) n

  module _ (code : ℕ) (named : known (named_by code) ≡ true) (o : ordered f ≡ ordering ReadOrder (named_by code)) where
    abbrev is_read : is_write f ≡ false
    is_read = (read_order f (named_by code) named o).0

    size : length f ≡ code_end f + 1
    size = read_size f is_read p.sized

    at_start : code_at f ≡ start_at
    at_start = read_start f is_read

    last_read : get_or f (length f - 1) 0 ≡ enq
    last_read = read_end f is_read p.ended

    abbrev whole_read : List ℕ
    whole_read = eot ∷ char_of (address / decimal) ∷ char_of (address % decimal) ∷ char_of (code / base) ∷ char_of (code % base) ∷ enq ∷ []

    reads : Longer f whole_read
    reads = by (is_extended f) refl
      where
        by : (t : Bool) → is_extended f ≡ t → Longer f whole_read
        by true x = inr (omega (arith, size, extended_code f x, at_start))
        by false x =
            let c = code_chars code named (read_order f (named_by code) named o).1 x in
            let n : length f ≡ 6 = omega (arith, size, standard_code f x, at_start) in
            let d : get_or f 3 0 ≡ char_of (code / base) = rw at_start at c.0 in
            let e : get_or f 4 0 ≡ char_of (code % base) = rw at_start at c.1 in
            let l : get_or f 5 0 ≡ enq = rw n at last_read in
            let r : drop 6 f ≡ [] = drop_of_length-le f {i = 6} (omega arith) in
            inl (six f (omega arith) ∙ rw (first, second, third, d, e, l, r))

  module _ (code value : ℕ) (named : known (named_by code) ≡ true) (o : ordered f ≡ ordering (λ (n : Named). WriteOrder n value) (named_by code)) where
    abbrev n : ℕ
    n = length f

    abbrev is_write_law : is_write f ≡ true
    is_write_law = (write_order f value (named_by code) named o).0

    at_code : code_at f ≡ start_at + 1
    at_code = write_start f is_write_law

    fourth : get_or f start_at 0 ≡ stx
    unfolding is_write
    fourth = eqb-true _ stx is_write_law

    write_size : (code_end f + data_least + closing ≤ n) × (n ≤ code_end f + data_most + closing)
    write_size = write_holds f is_write_law p.sized

    last_but_one : get_or f (n - closing) 0 ≡ etx
    last_but_one = write_end f is_write_law p.ended

    last_write : bcc_of (part f (start_at + 1) (n - 1)) ≡ get_or f (n - 1) 0
    unfolding bcc_right choose
    last_write = eqb-true _ _ (rw (is_write_law, at_code) at p.summed)

    parsed : parsed_of register_most (data_of f) ≡ Some value
    unfolding data_right data_read choose
    parsed = took (named_in f) (parsed_of register_most (data_of f)) value (rw is_write_law at p.valued) (write_order f value (named_by code) named o).1.1

    data_length : length (data_of f) ≡ n - closing - code_end f
    unfolding data_of
    data_length = length_part f (code_end f) (n - closing) (omega (arith, write_size)) (omega arith)

    abbrev full : List ℕ
    full = eot ∷ char_of (address / decimal) ∷ char_of (address % decimal) ∷ stx ∷ checked code value

    full_length : length full ≡ 8 + length (text_of value)
    unfolding checked body pair_of
    full_length = simp length-append (omega arith)

    -- the frame by its parts, where its code is standard
    module _ (x : is_extended f ≡ false) where
      ends_at : code_end f ≡ 6
      ends_at = standard_code f x ∙ rw at_code

      abbrev text : List ℕ
      text = char_of (code / base) ∷ char_of (code % base) ∷ (data_of f ++ (etx ∷ []))

      tail : drop (n - closing) f ≡ etx ∷ get_or f (n - 1) 0 ∷ []
      tail =
          let a : suc (n - closing) ≡ n - 1 = omega (arith, write_size) in
          let b : suc (n - 1) ≡ n = omega (arith, write_size) in
          let c : drop (n - 1) f ≡ get_or f (n - 1) 0 ∷ [] =
          drop-cons f (n - 1) 0 (omega (arith, write_size)) ∙ rw b (ap (λ (l : List ℕ). get_or f (n - 1) 0 ∷ l) (drop_of_length-le f {i = n} (omega arith))) in
          drop-cons f (n - closing) 0 (omega (arith, write_size)) ∙ rw (last_but_one, a) (ap (λ (l : List ℕ). etx ∷ l) c)

      rest : drop 6 f ≡ data_of f ++ (etx ∷ get_or f (n - 1) 0 ∷ [])
      unfolding data_of
      rest =
          let m : 6 + (n - closing - 6) ≡ n - closing = omega (arith, write_size, ends_at) in
          sym (take-append-drop (n - closing - 6) (drop 6 f)) ∙ rw (ends_at, drop-drop (n - closing - 6) 6 f, m, tail)

      whole : f ≡ eot ∷ char_of (address / decimal) ∷ char_of (address % decimal) ∷ stx ∷ (text ++ (get_or f (n - 1) 0 ∷ []))
      whole =
          let c = code_chars code named (write_order f value (named_by code) named o).1.0 x in
          let d : get_or f 4 0 ≡ char_of (code / base) = rw at_code at c.0 in
          let e : get_or f 5 0 ≡ char_of (code % base) = rw at_code at c.1 in
          six f (omega (arith, write_size, ends_at)) ∙ rw (first, second, third, fourth, d, e, rest) (simp append_assoc)

      bcc_is : get_or f (n - 1) 0 ≡ bcc_of text
      bcc_is =
          let m : length text ≡ n - 1 - (start_at + 1) = simp length-append (omega (arith, data_length, ends_at, write_size)) in
          sym last_write ∙ ap bcc_of (ap (λ (l : List ℕ). take (n - 1 - (start_at + 1)) (drop (start_at + 1) l)) whole ∙ take_at text _ _ m)

      same_text : data_of f ≡ text_of value → f ≡ full
      unfolding checked body pair_of
      same_text e = whole ∙ rw (bcc_is, e)

    writes : Longer f full
    writes = by (is_extended f) refl
      where
        least_text : (data_of f ≡ text_of value) ⊎ (length (text_of value) < length (data_of f))
        least_text = text_least register_most (data_of f) value (omega arith) parsed

        by : (t : Bool) → is_extended f ≡ t → Longer f full
        by true x = ⊎_elim (λ (e : data_of f ≡ text_of value). inr (omega (arith, full_length, data_length, write_size, extended_code f x, at_code, ap length e)))
            (λ (l : length (text_of value) < length (data_of f)). inr (omega (arith, full_length, data_length, write_size, extended_code f x, at_code)))
            least_text
        by false x = ⊎_elim (λ (e : data_of f ≡ text_of value). inl (same_text x e))
            (λ (l : length (text_of value) < length (data_of f)). inr (omega (arith, full_length, data_length, write_size, ends_at x)))
            least_text

-- a frame that asks a unit what was order_of
ordering_obeyed : (order : Named → Order) (n : Option Named) → known n ≡ true → Obeyed (ordering order n)
ordering_obeyed order None h = let z : ◌≡◌ {A = ℕ} 0 1 = cc in let w : ⊥ = omega (arith, z) in absurd w
ordering_obeyed order (Some named) h = tt

task_obeyed : (task : Task) → task_right task ≡ true → Obeyed (order_of task)
unfolding order_of task_right
task_obeyed (Read code) h = ordering_obeyed _ (named_by code) h
task_obeyed (Write code value) h = ordering_obeyed _ (named_by code) (writable_known (named_by code) (and_true (writable (named_by code)) _ h).0)

tests : (unit : ℕ) (q : Request) (f : List ℕ) → task_right q.task ≡ true → asked unit f ≡ asked_of q unit → addresses q.address unit ≡ true → Passed unit f × (ordered f ≡ order_of q.task)
unfolding asked_of choose
tests unit q f right e h =
    let d : asked unit f ≡ order_of q.task = e ∙ rw h in
    let p : Passed unit f = order_passed unit f (subst Obeyed (sym d) (task_obeyed q.task right)) in
    (p, sym (asked_passed unit f p) ∙ d)

not_foreign : (task : Task) (number : ℕ) → task_right task ≡ true → order_of task ≡ Err (Silent number) → ⊥
not_foreign task number right e = subst Obeyed e (task_obeyed task right)

-- whom a frame reaches, by its figures
reaches_by : (f : List ℕ) (unit : ℕ) → tens_in f < decimal → ones_in f < decimal → reaches unit f ≡ addresses (decimal * tens_in f + ones_in f) unit
unfolding reaches collective addresses
reaches_by f unit t o =
    let d : (decimal * tens_in f + ones_in f) / decimal ≡ tens_in f = omega arith in
    let m : (decimal * tens_in f + ones_in f) % decimal ≡ ones_in f = omega arith in
    rw (d, m)

-- a frame for the same request reaches whom the request reaches
module _ (q : Request) (f : List ℕ) (unit : ℕ) (right : task_right q.task ≡ true) (p : Passed unit f) (o : ordered f ≡ order_of q.task) where
  moved : (other : ℕ) → reaches other f ≡ true → Passed other f
  moved other r =
      record {
        long = p.long;
        starts = p.starts;
        figured = p.figured;
        reached = r;
        sized = p.sized;
        ended = p.ended;
        coded = p.coded;
        summed = p.summed;
        known = p.known;
        written = p.written;
        valued = p.valued;
      }

  reaches_same : (other : ℕ) → asked other f ≡ asked_of q other → reaches other f ≡ addresses q.address other
  unfolding asked_of choose
  reaches_same other e = by (addresses q.address other) refl (reaches other f) refl
    where
      by : (t : Bool) → addresses q.address other ≡ t → (u : Bool) → reaches other f ≡ u → reaches other f ≡ addresses q.address other
      by true h u d = (tests other q f right e h).0.reached ∙ sym h
      by false h false d = d ∙ sym h
      by false h true d = absurd (not_foreign q.task foreign_address right (sym o ∙ sym (asked_passed other f (moved other d)) ∙ e ∙ rw h))

longer : (address : ℕ) (task : Task) (unit : ℕ) (f : List ℕ) → task_right task ≡ true → Passed unit f → ordered f ≡ order_of task → address ≤ lecom_most
    → tens_in f ≡ address / decimal → ones_in f ≡ address % decimal → Longer f (made (record { address = address; task = task }))
unfolding made task_bytes pair_of order_of task_right
longer address (Read code) unit f right p o most t n = reads unit f p address most t n code right o
longer address (Write code value) unit f right p o most t n = writes unit f p address most t n code value (writable_known (named_by code) (and_true (writable (named_by code)) _ right).0) o

made_least : (q : Request) → Askable lecom_master q → (f : List ℕ) → ForSame lecom_master q f → Longer f (made q)
made_least q right f same =
    let r = askable_parts q right.right in
    let most = address_most_law q.address r.0 in
    let asks : (unit : ℕ) → lecom_right unit ≡ true → asked unit f ≡ asked_of q unit = λ unit h. same.asks unit h ∙ (lecom_means q right).means unit in
    let u = some_unit q.address most r.0 in
    let t = tests u.unit q f r.1 (asks u.unit u.right) u.reached in
    let g = figures_small f (omega (arith, (between_facts shortest longest (length f) t.0.long).0)) t.0.figured in
    let e : decimal * tens_in f + ones_in f ≡ q.address =
    address_known_law q.address (decimal * tens_in f + ones_in f) most (omega (arith, g)) r.0
    (λ unit h. sym (reaches_by f unit g.0 g.1) ∙ reaches_same q f u.unit r.1 t.0 t.1 unit (asks unit h)) in
    longer q.address q.task u.unit f r.1 t.0 t.1 most (omega (arith, g, e)) (omega (arith, g, e))

pub lecom_least_law : (q : Request) → Askable lecom_master q → Least lecom_master q
lecom_least_law q right = record { least = λ f same. no_later_law f (made q) (made_least q right f same) }
