-- What is known of a request that 7 does not refuse, and its bytes written piece by piece. Assumes nothing.
use Rattle.std.proofs.Common.{Option, Some, None, ◌≡◌, ℕ, ◌+◌, ◌/◌, ◌%◌, ◌<◌, ◌≤◌, true, ◌&&◌, eqb, leb, List, [], ◌∷◌, ◌++◌, length, sym, refl, ap, ◌∙◌, append_assoc, arith, length-append, eqb-true, leb-true}
use Rattle.wire.specs.Buffer.{put, part}
use Rattle.wire.specs.Sum.{byte_values}
use Rattle.wire.proofs.Buffers.{part_put, put_put}
use Rattle.wire.proofs.Cases.{by_choice}
use Rattle.wire.proofs.Tests.{and_true, either}
use Rattle.figures.specs.Figure.{decimal, char_of, pair_of}
use Rattle.figures.specs.Signed.{text_of}
use Rattle.figures.proofs.Characters.{figure_char, pair_all}
use Rattle.card.specs.Fitness.{lecom_least, lecom_most, lecom_right}
use Rattle.lecom.specs.Form.{etx, eot, standard_hex, last_register, first_probe, last_probe, activate, store, named_by, known, writable}
use Rattle.lecom.specs.Answer.{closed}
use Rattle.lecom.specs.Frame.{figures_right, tens_in, ones_in, bcc_of}
use Rattle.lecom.specs.declared.form.Named.{Named}
use Rattle.lecom_master.specs.Request.{is_collective, address_right, task_right, askable, body, checked}
use Rattle.lecom_master.specs.declared.request.Task.TheVariants.{Read, Write}
use Rattle.lecom_master.specs.declared.request.Request.{Request}

-- Codes and addresses

-- a code that names something is a byte
pub known_byte : (code : ℕ) → known (named_by code) ≡ true → code < byte_values
unfolding named_by
known_byte code =
    by_choice P (leb code last_register) _ _ (λ a _. omega (arith, leb-true code last_register a))
    (λ _. by_choice P (leb first_probe code && leb code last_probe) _ _ (λ a _. omega (arith, leb-true code last_probe (and_true (leb first_probe code) (leb code last_probe) a).1))
    (λ _. by_choice P (eqb code activate) _ _ (λ a _. omega (arith, eqb-true code activate a))
    (λ _. by_choice P (eqb code store) _ _ (λ a _. omega (arith, eqb-true code store a))
    (λ _ h. let z : ◌≡◌ {A = ℕ} 0 1 = cc in let n : ⊥ = omega arith in absurd n))))
  where
    P : Option Named → Type 0
    P named = known named ≡ true → code < byte_values

-- what may be written is something
pub writable_known : (named : Option Named) → writable named ≡ true → known named ≡ true
writable_known (Some named) h = refl
writable_known None h = h

pub read_byte : (code : ℕ) → task_right (Read code) ≡ true → code < byte_values
unfolding task_right
read_byte code h = known_byte code h

pub write_byte : (code value : ℕ) → task_right (Write code value) ≡ true → code < byte_values
unfolding task_right
write_byte code value h = known_byte code (writable_known (named_by code) (and_true (writable (named_by code)) _ h).0)

-- a unit's address has two figures, neither of them 0
pub unit_most : (address : ℕ) → lecom_right address ≡ true → address ≤ lecom_most
unit_most address h = leb-true address lecom_most (and_true (leb address lecom_most) _ (and_true (leb lecom_least address) _ h).1).0

pub address_most_law : (address : ℕ) → address_right address ≡ true → address ≤ lecom_most
unfolding address_right is_collective
address_most_law address h =
    either (lecom_right address) _ h (λ a. unit_most address a) (λ b. leb-true address lecom_most (and_true (leb address lecom_most) _ b).0)

-- the figures of an address, in a frame that begins with it
module _ (address : ℕ) (most : address ≤ lecom_most) (rest : List ℕ) where
  abbrev frame : List ℕ
  frame = eot ∷ char_of (address / decimal) ∷ char_of (address % decimal) ∷ rest

  pub figures_right_law : figures_right frame ≡ true
  unfolding figures_right
  figures_right_law = pair_all decimal (address / decimal) (address % decimal) (omega arith) (omega arith) (omega arith) (omega arith)

  pub tens : tens_in frame ≡ address / decimal
  unfolding tens_in
  tens = figure_char (address / decimal) (omega arith)

  pub ones : ones_in frame ≡ address % decimal
  unfolding ones_in
  ones = figure_char (address % decimal) (omega arith)

-- both halves of what makes a request askable
pub askable_parts : (q : Request) → askable q ≡ true → (address_right q.address ≡ true) × (task_right q.task ≡ true)
unfolding askable
askable_parts q h = and_true (address_right q.address) (task_right q.task) h

-- Bytes

-- code, text, ETX and BCC
pub checked_length : (code value : ℕ) → length (checked code value) ≡ 4 + length (text_of value)
unfolding checked body pair_of
checked_length code value = simp length-append (omega arith)

-- a code's two characters, and the data behind them
pub put_checked : (d : List ℕ) (at code value : ℕ) {d₁ d₂ : List ℕ} → at + standard_hex ≤ length d → d₁ ≡ put d at (pair_of code) → d₂ ≡ put d₁ (at + standard_hex) (closed (part d₁ at (at + standard_hex)) value)
    → d₂ ≡ put d at (checked code value)
unfolding checked body closed pair_of
put_checked d at code value l e₁ e₂ =
    let p = pair_of code in
    let b = text_of value ++ (etx ∷ []) in
    let c : part (put d at p) at (at + standard_hex) ≡ p = part_put d at p (omega arith) in
    e₂ ∙ rw (e₁, c) (put_put d at p (b ++ (bcc_of (p ++ b) ∷ [])) (omega arith)) ∙ ap (put d at) (sym (append_assoc p b _))
