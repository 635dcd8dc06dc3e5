-- `lecom::frame::Frame::code_in` meets its contract, pair by pair. Assumes nothing.
use Rattle.std.proofs.Common.{ℕ, ◌+◌, ◌≤◌, ◌<◌, true, List, length, Option, None, Result, Err, ◌≡◌, sym, ap, ◌∙◌, arith}
use Rattle.std.proofs.lemmas.Result.{err_from_is_err_and}
use Rattle.std.specs.Option.{ok_or}
use Rattle.std.specs.Result.{IsErrAnd}
use Rattle.wire.proofs.Cases.{told_true, told_false}
use Rattle.card.specs.Numbers.{frame_form}
use Rattle.figures.specs.Figure.{no_byte, byte_or_none}
use Rattle.lecom.specs.Form.{extended_hex, standard_at, subcode_at, named_by}
use Rattle.lecom.specs.Frame.{is_extended, hex_at, code_end, pair_in}
use Rattle.lecom.specs.Stages.{Outlines}
use Rattle.lecom.specs.declared.frame.Outline.{Outline}
use Rattle.lecom.specs.declared.frame.Refusal.{Refusal}
use Rattle.lecom.specs.declared.frame.Refusal.TheVariants.{Refused}
use Rattle.lecom.proofs.Frames.{bounds, extended_end}
use Rattle.lecom.proofs.Codes.{first_wrong, second_wrong, subcode_wrong, standard_coded, extended_coded, subcode_named, extended_named}
use Rattle.lecom.proofs.frame.Frame.code_in.Goals as goal
use Rattle.lecom.proofs.frame.Frame.code_in.Goals.{In_ok-first, In_ok-second, In_ok-subcode}

-- a pair that is none refuses the frame for its form
refused : {A : Type 0} {r : Result A Refusal} {got : Option ℕ} {e : Refusal} → IsErrAnd r (λ (y : Refusal). y ≡ e) → Err e ≡ ok_or got (Refused frame_form) → got ≡ None
    → r ≡ Err (Refused frame_form)
refused {r = r} h v n =
    let p = err_from_is_err_and r h in
    let w : ◌≡◌ {A = Result ℕ Refusal} (Err _) (Err (Refused frame_form)) = rw n at v in
    p.1 ∙ ap Err (p.2 ∙ cc)

-- what the outline says of the code
module _ (f : List ℕ) (o : Outline) (r : (code_end f ≤ length f) × Outlines f o) where
  -- what was got at the code's first hex character, and at k characters behind it, is the pair there
  first : {got : Option ℕ} → byte_or_none got ≡ pair_in f o.hex → {b : Option ℕ} → got ≡ b → byte_or_none b ≡ pair_in f (hex_at f)
  first e g = sym (ap byte_or_none g) ∙ e ∙ ap (pair_in f) r.1.hexed

  later : (k : ℕ) {got : Option ℕ} → byte_or_none got ≡ pair_in f (o.hex + k) → {b : Option ℕ} → got ≡ b → byte_or_none b ≡ pair_in f (hex_at f + k)
  later k e g = sym (ap byte_or_none g) ∙ e ∙ ap (λ (h : ℕ). pair_in f (h + k)) r.1.hexed

  extended : o.extended ≡ true → is_extended f ≡ true
  extended x = told_true r.1.extends x

  -- the six characters of an extended code stand in the frame
  ended : o.extended ≡ true → o.hex + extended_hex ≤ length f
  ended x = omega (arith, extended_end f (extended x), r.0, r.1.hexed)

-- a byte is not the mark for none
byte : {b n : ℕ} → b ≡ n → b < no_byte → n ≡ no_byte → ⊥
byte e l z = omega arith

pub pair_in-requires : goal.pair_in-requires
pair_in-requires c = omega (arith, bounds c.args.self.bytes.now, c.args.self.outlined.hexed)

pub returns-in_err-first : goal.returns-in_err-first
returns-in_err-first c =
    let e = c.in_err-first.ensures in
    refused c.from_residual.ensures.1 e.value e.ok_part ∙ first_wrong _ c.requires (sym (first _ _ (c.requires, c.args.self.outlined) c.pair_in.ensures e.ok_part))

-- the three pairs, as they are read
at_first : (c : In_ok-first) → c.in_ok-first.first ≡ pair_in c.args.self.bytes.now (hex_at c.args.self.bytes.now)
at_first c = first _ _ (c.requires, c.args.self.outlined) c.pair_in.ensures c.in_ok-first.ensures.ok_part

pub returns-then-not-self : goal.returns-then-not-self
returns-then-not-self c =
    let e = at_first ((goal.at.returns-then-not-self c).In_ok-first) in
    standard_coded _ c.requires (byte e (omega arith)) _ (told_false c.args.self.outlined.extends c.if-not-self.true) (c.named_by.ensures ∙ ap named_by e)

pub overflow_add-at : goal.overflow_add-at
overflow_add-at c = omega (arith, ended _ _ (c.requires, c.args.self.outlined) c.if-not-self.false)

pub pair_in-requires-2 : goal.pair_in-requires-2
pair_in-requires-2 c = omega (arith, ended _ _ (c.requires, c.args.self.outlined) c.if-not-self.false)

second : (c : In_ok-second) → c.in_ok-second.second ≡ pair_in c.args.self.bytes.now (hex_at c.args.self.bytes.now + standard_at)
second c = later _ _ (c.requires, c.args.self.outlined) standard_at c.pair_in-2.ensures c.in_ok-second.ensures.ok_part

pub returns-in_err-second : goal.returns-in_err-second
returns-in_err-second c =
    let e = c.in_err-second.ensures in
    let n = byte (at_first ((goal.at.returns-in_err-second c).In_ok-first)) (omega arith) in
    let w = sym (later _ _ (c.requires, c.args.self.outlined) standard_at c.pair_in-2.ensures e.ok_part) in
    refused c.from_residual-in_err-second.ensures.1 e.value e.ok_part ∙ second_wrong _ c.requires n (extended _ _ (c.requires, c.args.self.outlined) c.if-not-self.false) w

pub overflow_add-at-2 : goal.overflow_add-at-2
overflow_add-at-2 c = omega (arith, ended _ _ (c.requires, c.args.self.outlined) c.if-not-self.false)

pub pair_in-requires-3 : goal.pair_in-requires-3
pair_in-requires-3 c = omega (arith, ended _ _ (c.requires, c.args.self.outlined) c.if-not-self.false)

subcode : (c : In_ok-subcode) → c.in_ok-subcode.subcode ≡ pair_in c.args.self.bytes.now (hex_at c.args.self.bytes.now + subcode_at)
subcode c = later _ _ (c.requires, c.args.self.outlined) subcode_at c.pair_in-3.ensures c.in_ok-subcode.ensures.ok_part

pub returns-in_err-subcode : goal.returns-in_err-subcode
returns-in_err-subcode c =
    let e = c.in_err-subcode.ensures in
    let n = byte (at_first ((goal.at.returns-in_err-subcode c).In_ok-first)) (omega arith) in
    let w = sym (later _ _ (c.requires, c.args.self.outlined) subcode_at c.pair_in-3.ensures e.ok_part) in
    refused c.from_residual-in_err-subcode.ensures.1 e.value e.ok_part ∙ subcode_wrong _ c.requires n (extended _ _ (c.requires, c.args.self.outlined) c.if-not-self.false) w

pub returns-then-subcode-ne0 : goal.returns-then-subcode-ne0
returns-then-subcode-ne0 c =
    let f = c.args.self.bytes.now in
    let a = at_first ((goal.at.returns-then-subcode-ne0 c).In_ok-first) in
    let p = second ((goal.at.returns-then-subcode-ne0 c).In_ok-second) in
    let s = subcode ((goal.at.returns-then-subcode-ne0 c).In_ok-subcode) in
    let n = byte a (omega arith) in
    let x = extended f _ (c.requires, c.args.self.outlined) c.if-not-self.false in
    extended_coded f c.requires n x _ (byte p (omega arith)) (byte s (omega arith)) (subcode_named f c.requires n x (λ z. c.if-subcode-ne0.true (s ∙ z)))

pub returns : goal.returns
returns c =
    let f = c.args.self.bytes.now in
    let a = at_first ((goal.at.returns c).In_ok-first) in
    let p = second ((goal.at.returns c).In_ok-second) in
    let s = subcode ((goal.at.returns c).In_ok-subcode) in
    let n = byte a (omega arith) in
    let x = extended f _ (c.requires, c.args.self.outlined) c.if-not-self.false in
    extended_coded f c.requires n x _ (byte p (omega arith)) (byte s (omega arith))
    (c.named_by-2.ensures ∙ ap named_by (omega (arith, a, p, c.from_be_bytes.ensures)) ∙ extended_named f c.requires n x (sym s ∙ c.if-subcode-ne0.false))
