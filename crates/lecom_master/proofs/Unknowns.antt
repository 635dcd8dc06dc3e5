-- A reply that says that a code is unknown: its length, its first and its last byte; and which code. Assumes nothing.
use Rattle.std.proofs.Common.{Result, Ok, Err, ◌≡◌, ℕ, ◌+◌, ◌-◌, ◌<◌, ◌≤◌, Bool, true, false, not, ◌&&◌, ◌⊎◌, List, [], ◌∷◌, ◌++◌, length, get_or, sym, refl, ap, ◌∙◌, subst, inl, inr, ⊎_elim, arith, length-append, take_at, eqb-true}
use Rattle.std.proofs.lemmas.Bool.{not-true}
use Rattle.std.proofs.lemmas.List.{get_or_at}
use Rattle.wire.specs.Buffer.{part, same}
use Rattle.wire.proofs.Pieces.{framed}
use Rattle.wire.proofs.Same.{same_refl, same_true}
use Rattle.wire.proofs.Tests.{and_true, and_false_right, refuted}
use Rattle.card.specs.Numbers.{range_unknown}
use Rattle.lecom.specs.Form.{stx, eot, enq, start_at, standard_hex, extended_hex}
use Rattle.lecom.specs.Frame.{is_write, is_extended, code_end, code_of, asked}
use Rattle.lecom.specs.Answer.{unknown_bytes}
use Rattle.lecom.specs.declared.frame.Order.{Order}
use Rattle.lecom.specs.declared.frame.Refusal.{Refusal}
use Rattle.lecom.specs.declared.frame.Refusal.TheVariants.{Silent, Refused}
use Rattle.lecom.proofs.Frames.{read_start, extended_code, standard_code}
use Rattle.lecom.proofs.Passing.{Laid, unknown_laid}
use Rattle.lecom.proofs.Wholes.{read_size}
use Rattle.lecom_master.specs.Heard.{read_of, is_unknown, unknown_code}
use Rattle.lecom_master.specs.Stages.{code_refused}

-- an order that is refused for its code
pub unknown_order : (o : Result Order Refusal) → is_unknown o ≡ true → o ≡ Err (Refused range_unknown)
unfolding is_unknown
unknown_order (Err (Silent number)) h = let z : ◌≡◌ {A = ℕ} 0 1 = cc in let n : ⊥ = omega arith in absurd n
unknown_order (Err (Refused number)) h = ap (λ (n : ℕ). Err (Refused n)) (eqb-true number range_unknown h)
unknown_order (Ok order) h = let z : ◌≡◌ {A = ℕ} 0 1 = cc in let n : ⊥ = omega arith in absurd n

-- a read is four bytes longer than its code
read_length_law : (address : ℕ) (text : List ℕ) → length (read_of address text) ≡ 4 + length text
unfolding read_of
read_length_law address text = simp length-append (omega arith)

-- a read that is refused for its code, by the characters of its code
module _ (address : ℕ) (text : List ℕ) (reads : is_write (read_of address text) ≡ false) (six : is_unknown (asked address (read_of address text)) ≡ true) where
  abbrev f : List ℕ
  f = read_of address text

  abbrev laid : Laid address f
  laid = unknown_laid address f (unknown_order (asked address f) six)

  pub text_size : code_end f ≡ start_at + length text
  text_size = omega (arith, read_size f reads laid.sized, read_length_law address text)

  text_sizes : (length text ≡ standard_hex) ⊎ (length text ≡ 1 + extended_hex)
  text_sizes = by (is_extended f) refl
    where
      by : (t : Bool) → is_extended f ≡ t → (length text ≡ standard_hex) ⊎ (length text ≡ 1 + extended_hex)
      by true e = inr (omega (arith, extended_code f e, read_start f reads, text_size))
      by false e = inl (omega (arith, standard_code f e, read_start f reads, text_size))

  -- the code as received is those characters
  text_code : code_of f ≡ text
  unfolding code_of read_of
  text_code =
      let n : code_end f - start_at ≡ length text = omega (arith, text_size) in
      rw (read_start f reads, n) (take_at text (enq ∷ []) (length text) refl)

  text_unknown : unknown_bytes f ≡ stx ∷ (text ++ (eot ∷ []))
  unfolding unknown_bytes
  text_unknown = rw text_code

module _ (address : ℕ) (text : List ℕ) where
  record Parts : Type 0 where
    reads : is_write (read_of address text) ≡ false
    six : is_unknown (asked address (read_of address text)) ≡ true

  parts : code_refused address text ≡ true → Parts
  parts h = let b = and_true (not (is_write (read_of address text))) _ h in record { reads = not-true _ b.0; six = b.1 }

  -- no read with another number of characters is refused for its code
  pub other_refused : (length text ≡ standard_hex → ⊥) → (length text ≡ 1 + extended_hex → ⊥) → false ≡ code_refused address text
  other_refused s e = refuted (code_refused address text) (λ h. let p = parts h in ⊎_elim s e (text_sizes address text p.reads p.six))

module _ (address : ℕ) (r : List ℕ) where
  abbrev code : List ℕ
  code = part r 1 (length r - 1)

  -- such a reply is STX, the code's characters, EOT
  pub record Says : Type 0 where
    pub refused : code_refused address code ≡ true
    pub bytes : r ≡ stx ∷ (code ++ (eot ∷ []))

  pub unknown_says : unknown_code address r ≡ true → Says
  unfolding unknown_code
  unknown_says h =
      let b = and_true (same r (unknown_bytes (read_of address code))) (code_refused address code) h in
      let p = parts address code b.1 in
      record { refused = b.1; bytes = same_true r (unknown_bytes (read_of address code)) b.0 ∙ text_unknown address code p.reads p.six }

  module _ (s : Says) where
    says_first : get_or r 0 0 ≡ stx
    says_first = ap (λ (l : List ℕ). get_or l 0 0) s.bytes

    says_length : length r ≡ length code + 2
    says_length = ap length s.bytes ∙ simp length-append (omega arith)

    says_last : get_or r (length r - 1) 0 ≡ eot
    says_last = ap (λ (l : List ℕ). get_or l (length r - 1) 0) s.bytes ∙ get_or_at (stx ∷ code) eot [] 0 (length r - 1) (omega (arith, says_length))

    says_long : standard_hex + 2 ≤ length r
    says_long =
        let p = parts address code s.refused in
        ⊎_elim (λ (e : length code ≡ standard_hex). omega (arith, says_length)) (λ (e : length code ≡ 1 + extended_hex). omega (arith, says_length))
        (text_sizes address code p.reads p.six)

  -- between STX and EOT the code decides
  pub unknown_by_code : 2 ≤ length r → get_or r 0 0 ≡ stx → get_or r (length r - 1) 0 ≡ eot → code_refused address code ≡ unknown_code address r
  unfolding unknown_code
  unknown_by_code n a e = by (code_refused address code) refl
    where
      by : (t : Bool) → code_refused address code ≡ t → code_refused address code ≡ (same r (unknown_bytes (read_of address code)) && code_refused address code)
      by false h = rw h (sym (and_false_right (same r (unknown_bytes (read_of address code)))))
      by true h =
          let p = parts address code h in
          let w : r ≡ unknown_bytes (read_of address code) = framed r n ∙ (rw (a, e)) ∙ sym (text_unknown address code p.reads p.six) in
          let s : same r (unknown_bytes (read_of address code)) ≡ true = subst (λ (l : List ℕ). same r l ≡ true) w (same_refl r) in
          rw (s, h)

-- a shorter reply, or one with another first or last byte, is none
module _ (address : ℕ) (r : List ℕ) where
  pub too_short : length r < standard_hex + 2 → false ≡ unknown_code address r
  too_short h = refuted (unknown_code address r) (λ u. omega (arith, says_long address r (unknown_says address r u)))

  pub other_last : (get_or r (length r - 1) 0 ≡ eot → ⊥) → false ≡ unknown_code address r
  other_last n = refuted (unknown_code address r) (λ u. n (says_last address r (unknown_says address r u)))

  pub other_first : (get_or r 0 0 ≡ stx → ⊥) → false ≡ unknown_code address r
  other_first n = refuted (unknown_code address r) (λ u. n (says_first address r (unknown_says address r u)))
