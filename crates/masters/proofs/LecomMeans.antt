-- A made LECOM request means to every unit what was asked. Assumes nothing.
use Rattle.std.proofs.Common.{◌≡◌, ℕ, suc, ◌+◌, ◌-◌, ◌*◌, ◌/◌, ◌%◌, ◌<◌, ◌≤◌, Bool, true, false, List, [], ◌∷◌, ◌++◌, length, get_or, sym, refl, ap, ◌∙◌, append_assoc, arith, length-append, take_at, eq-eqb, ne_eqb, le-leb, Some}
use lib.Seq.{get_or_at}
use Rattle.wire.specs.Choose.{choose}
use Rattle.wire.specs.Buffer.{part}
use Rattle.wire.specs.Length.{between}
use Rattle.wire.specs.Sum.{byte_values}
use Rattle.wire.specs.Word.{minus, word_values}
use Rattle.wire.proofs.Tests.{and_true}
use Rattle.figures.specs.Figure.{decimal, upper_hex, base, char_of, pair_of}
use Rattle.figures.specs.Signed.{text_of}
use Rattle.figures.proofs.Characters.{char_least, pair_all}
use Rattle.figures.proofs.Known.{pair_read}
use Rattle.figures.proofs.Texts.{text_length, parse_text}
use Rattle.card.specs.Fitness.{in_span, register_most, lecom_most}
use Rattle.lecom.specs.Form.{shortest, longest, length_right, stx, etx, eot, enq, extended_mark, start_at, standard_hex, closing, data_least, data_most, named_by, known, writable, takes}
use Rattle.lecom.specs.Frame.{collective, reaches, is_write, code_at, is_extended, hex_at, code_end, size_right, end_right, code_right, bcc_of, bcc_right, pair_in, code_number, subcode_right, named_in, code_known, write_right, data_of, data_read, value_right, value_in, data_right, ordered, asked}
use Rattle.lecom.proofs.Frames.{read_start, standard_hex_law, standard_code}
use Rattle.lecom.proofs.Passing.{Passed, asked_passed, asked_foreign}
use Rattle.lecom.proofs.Values.{span_magnitude}
use Rattle.asking.specs.Claims.{Below, Askable, Means}
use Rattle.lecom_master.specs.Request.{task_right, body, checked, task_bytes, made}
use Rattle.lecom_master.specs.declared.request.Task.{Task}
use Rattle.lecom_master.specs.declared.request.Task.TheVariants.{Read, Write}
use Rattle.lecom_master.specs.declared.request.Request.{Request}
use Rattle.lecom_master.proofs.Requests.{known_byte, writable_known, address_most_law, figures_right_law, tens, ones, askable_parts}
use Rattle.masters.specs.Lecom.{lecom_master, numbers_in, order_of, addresses, asked_of}

-- Address figures

module _ (address : ℕ) (most : address ≤ lecom_most) (rest : List ℕ) where
  abbrev frame : List ℕ
  frame = eot ∷ char_of (address / decimal) ∷ char_of (address % decimal) ∷ rest

  pub reaches_unit : (unit : ℕ) → reaches unit frame ≡ addresses address unit
  unfolding reaches collective addresses
  reaches_unit unit =
      let e : decimal * (address / decimal) + address % decimal ≡ address = omega arith in
      rw (tens address most rest, ones address most rest, e)

-- What comes after them

-- the tests from the layout on, and the order
record TaskPassed (task : Task) (f : List ℕ) : Type 0 where
  long : length_right (length f) ≡ true
  sized : size_right f ≡ true
  ended : end_right f ≡ true
  coded : code_right f ≡ true
  summed : bcc_right f ≡ true
  known : code_known f ≡ true
  written : write_right f ≡ true
  valued : data_right f ≡ true
  order : ordered f ≡ order_of task

-- a read: t and o are any two characters
module _ (t o code : ℕ) (named : known (named_by code) ≡ true) where
  abbrev pub read : List ℕ
  read = eot ∷ t ∷ o ∷ char_of (code / base) ∷ char_of (code % base) ∷ enq ∷ []

  abbrev byte : code < byte_values
  byte = known_byte code named

  no_write : is_write read ≡ false
  unfolding is_write
  no_write = ne_eqb (char_of (code / base)) stx (λ e. omega (arith, char_least (code / base)))

  pub read_at : code_at read ≡ start_at
  read_at = read_start read no_write

  read_standard : is_extended read ≡ false
  unfolding is_extended
  read_standard = rw read_at (ne_eqb (char_of (code / base)) extended_mark (λ e. omega (arith, char_least (code / base))))

  read_hex : hex_at read ≡ start_at
  read_hex = standard_hex_law read read_standard ∙ read_at

  pub read_code_end : code_end read ≡ start_at + standard_hex
  read_code_end = standard_code read read_standard ∙ ap (λ (n : ℕ). n + standard_hex) read_at

  read_named : named_in read ≡ named_by code
  unfolding named_in subcode_right code_number pair_in choose
  read_named = rw (read_standard, read_hex) (ap named_by (pair_read code byte))

  read_passed : TaskPassed (Read code) read
  unfolding between size_right end_right code_right bcc_right code_known write_right data_right ordered order_of choose
  read_passed =
      record {
        long = refl;
        sized = rw (no_write, read_code_end);
        ended = rw no_write;
        coded = rw (read_hex, read_code_end) (pair_all upper_hex (code / base) (code % base) (omega (arith, byte)) (omega arith) (omega (arith, byte)) (omega arith));
        summed = rw no_write;
        known = rw read_named named;
        written = rw no_write;
        valued = rw no_write;
        order = rw (no_write, read_named);
      }

-- code, text, ETX
body_length : (code value : ℕ) → length (body code value) ≡ 3 + length (text_of value)
unfolding body pair_of
body_length code value = simp length-append (omega arith)

-- a write
module _ (t o code value : ℕ) (may : writable (named_by code) ≡ true) (range : in_span (minus register_most) register_most value ≡ true) (takes-it : takes (named_by code) value ≡ true)
    (word : value < word_values) where
  abbrev bcc : ℕ
  bcc = bcc_of (body code value)

  abbrev write : List ℕ
  write = eot ∷ t ∷ o ∷ stx ∷ (body code value ++ (bcc ∷ []))

  abbrev named_byte : code < byte_values
  named_byte = known_byte code (writable_known (named_by code) may)

  write_length_law : length write ≡ 8 + length (text_of value)
  write_length_law = simp length-append (omega (arith, body_length code value))

  abbrev front : List ℕ
  front = eot ∷ t ∷ o ∷ stx ∷ char_of (code / base) ∷ char_of (code % base) ∷ text_of value

  write_split : write ≡ front ++ (etx ∷ bcc ∷ [])
  unfolding body pair_of
  write_split = simp append_assoc

  is_write_law : is_write write ≡ true
  unfolding is_write
  is_write_law = refl

  write_at : code_at write ≡ start_at + 1
  unfolding code_at choose is_write
  write_at = refl

  write_standard : is_extended write ≡ false
  unfolding is_extended body pair_of
  write_standard = rw write_at (ne_eqb (char_of (code / base)) extended_mark (λ e. omega (arith, char_least (code / base))))

  write_hex : hex_at write ≡ start_at + 1
  write_hex = standard_hex_law write write_standard ∙ write_at

  write_code_end : code_end write ≡ start_at + 1 + standard_hex
  write_code_end = standard_code write write_standard ∙ ap (λ (n : ℕ). n + standard_hex) write_at

  write_named : named_in write ≡ named_by code
  unfolding named_in subcode_right code_number pair_in body pair_of choose
  write_named = rw (write_standard, write_hex) (ap named_by (pair_read code named_byte))

  write_data : data_of write ≡ text_of value
  unfolding data_of body pair_of
  write_data =
      let n : length write - closing - (start_at + 1 + standard_hex) ≡ length (text_of value) = omega (arith, write_length_law) in
      rw (write_code_end, n, append_assoc) (take_at (text_of value) _ (length (text_of value)) refl)

  write_parsed : data_read write ≡ Some value
  unfolding data_read
  write_parsed = rw write_data (parse_text register_most value word (span_magnitude value (record { within = range; word = word })))

  write_body : part write (start_at + 1) (length write - 1) ≡ body code value
  write_body =
      let n : length write - 1 - (start_at + 1) ≡ length (body code value) = omega (arith, write_length_law, body_length code value) in
      rw n (take_at (body code value) _ (length (body code value)) refl)

  write_etx : get_or write (length write - closing) 0 ≡ etx
  write_etx =
      let n : length front ≡ length write - closing = omega (arith, write_length_law) in
      ap (λ (l : List ℕ). get_or l (length write - closing) 0) write_split ∙ get_or_at front etx (bcc ∷ []) 0 (length write - closing) n

  write_last : get_or write (length write - 1) 0 ≡ bcc
  write_last =
      let p = eot ∷ t ∷ o ∷ stx ∷ body code value in
      let n : length p ≡ length write - 1 = omega (arith, write_length_law, body_length code value) in
      get_or_at p bcc [] 0 (length write - 1) n

  write_coded : code_right write ≡ true
  unfolding code_right body pair_of
  write_coded =
      rw (write_hex, write_code_end) (pair_all upper_hex (code / base) (code % base) (omega (arith, named_byte)) (omega arith) (omega (arith, named_byte)) (omega arith))

  write_passed : TaskPassed (Write code value) write
  unfolding between size_right end_right bcc_right code_known write_right data_right value_right value_in ordered order_of choose
  write_passed =
      let n = write_length_law in
      let m = text_length value in
      let end = start_at + 1 + standard_hex in
      record {
        long = rw (le-leb shortest (length write) (omega (arith, n)), le-leb (length write) longest (omega (arith, n, m)));
        sized =
            rw (is_write_law, write_code_end, le-leb (end + data_least + closing) (length write) (omega (arith, n, m)), le-leb (length write) (end + data_most + closing) (omega (arith, n, m)));
        ended = rw is_write_law (eq-eqb _ etx write_etx);
        coded = write_coded;
        summed = rw (is_write_law, write_at) (eq-eqb _ _ (ap bcc_of write_body ∙ sym write_last));
        known = rw write_named (writable_known (named_by code) may);
        written = rw (is_write_law, write_named) may;
        valued = rw (is_write_law, write_named, write_parsed) takes-it;
        order = rw (is_write_law, write_named, write_parsed);
      }

-- The whole frame

made_passed : (address : ℕ) (task : Task) → task_right task ≡ true → Below word_values (numbers_in task) → TaskPassed task (made (record { address = address; task = task }))
unfolding made task_bytes checked pair_of task_right numbers_in
made_passed address (Read code) h w = read_passed (char_of (address / decimal)) (char_of (address % decimal)) code h
made_passed address (Write code value) h w =
    let a = and_true (writable (named_by code)) _ h in
    let b = and_true (in_span (minus register_most) register_most value) (takes (named_by code) value) a.1 in
    write_passed (char_of (address / decimal)) (char_of (address % decimal)) code value a.0 b.0 b.1 (w 1)

pub lecom_means : (q : Request) → Askable lecom_master q → Means lecom_master q
unfolding made asked_of choose
lecom_means q asks =
    let a = askable_parts q asks.right in
    record { means = λ unit. by (address_most_law q.address a.0) (made_passed q.address q.task a.1 (λ i. asks.words (suc i))) unit (addresses q.address unit) refl }
  where
    by : q.address ≤ lecom_most → TaskPassed q.task (made q) → (unit : ℕ) (t : Bool) → addresses q.address unit ≡ t → asked unit (made q) ≡ asked_of q unit
    by most p unit true e =
        let x : Passed unit (made q) =
        record {
          long = p.long;
          starts = refl;
          figured = figures_right_law q.address most (task_bytes q.task);
          reached = reaches_unit q.address most (task_bytes q.task) unit ∙ e;
          sized = p.sized;
          ended = p.ended;
          coded = p.coded;
          summed = p.summed;
          known = p.known;
          written = p.written;
          valued = p.valued;
        } in
        rw e (asked_passed unit (made q) x ∙ p.order)
    by most p unit false e =
        rw e (asked_foreign unit (made q) p.long refl (figures_right_law q.address most (task_bytes q.task)) (reaches_unit q.address most (task_bytes q.task) unit ∙ e))
