-- `lecom::frame::Frame::order_here` meets its contract, test by test. Assumes nothing.
use Rattle.std.proofs.Common.{Option, Result, List, ℕ, Bool, true, ◌&&◌, ◌≡◌, sym, refl, ap, ◌∙◌, arith}
use Rattle.std.proofs.lemmas.Result.{err_from_is_err_and}
use Rattle.wire.proofs.Tests.{and_true}
use Rattle.wire.proofs.Cases.{yes, no, told_true, told_false}
use Rattle.card.specs.Numbers.{frame_form, check_character, range_unknown, value_outside, read_only}
use Rattle.lecom.specs.Form.{known}
use Rattle.lecom.specs.Frame.{unless, size_right, end_right, code_right, bcc_right, named_in, code_known, write_right, data_right, ordered}
use Rattle.lecom.specs.Stages.{order_here}
use Rattle.lecom.specs.declared.form.Named.{Named}
use Rattle.lecom.specs.declared.frame.Order.{Order}
use Rattle.lecom.specs.declared.frame.Refusal.{Refusal}
use Rattle.lecom.proofs.Codes.{coded, uncoded}
use Rattle.lecom.proofs.Frames.{size_holds, wrong_size_or_end}
use Rattle.lecom.proofs.frame.Frame.order_here.Goals as goal

pub returns-then-not-size_and_end_right : goal.returns-then-not-size_and_end_right
returns-then-not-size_and_end_right c = wrong_size_or_end _ (told_false c.size_and_end_right.ensures c.if-not-size_and_end_right.true)

-- the frame's size and end are right
laid : (f : List ℕ) {r : Bool} → r ≡ (size_right f && end_right f) → r ≡ true → (size_right f ≡ true) × (end_right f ≡ true)
laid f e h = and_true (size_right f) _ (told_true e h)

pub code_in-requires : goal.code_in-requires
code_in-requires c =
    let sized = (laid c.args.self.bytes.now c.size_and_end_right.ensures c.if-not-size_and_end_right.false).0 in
    omega (arith, size_holds c.args.self.bytes.now sized)

module _ (f : List ℕ) (r : (size_right f ≡ true) × (end_right f ≡ true)) where
  -- past the layout but for the code, past the code, and past the BCC, what is left of the order
  past_end : {order : Result Order Refusal}
      → order ≡ unless (code_right f) frame_form (unless (bcc_right f) check_character (unless (code_known f) range_unknown (unless (write_right f) read_only (unless (data_right f) value_outside (ordered f)))))
      → order ≡ order_here f
  unfolding order_here
  past_end e = yes _ _ _ _ r.0 (yes _ _ _ _ r.1 e)

  past_bcc : {order : Result Order Refusal} → code_right f ≡ true → bcc_right f ≡ true
      → order ≡ unless (code_known f) range_unknown (unless (write_right f) read_only (unless (data_right f) value_outside (ordered f))) → order ≡ order_here f
  past_bcc h b e = past_end (yes _ _ _ _ h (yes _ _ _ _ b e))

-- it is known what the code names
known_so : (f : List ℕ) {n : Option Named} → n ≡ named_in f → {r : Bool} → known n ≡ r → code_known f ≡ r
unfolding code_known
known_so f e k = sym (ap known e) ∙ k

pub returns-in_err-code : goal.returns-in_err-code
returns-in_err-code c =
    let f = c.args.self.bytes.now in
    let u = uncoded f _ (sym c.code_in.ensures ∙ c.in_err-code.was) in
    let p = err_from_is_err_and c.from_residual.result c.from_residual.ensures.1 in
    past_end f (laid f c.size_and_end_right.ensures c.if-not-size_and_end_right.false) (no _ _ _ _ u.0 (rw (p.1, p.2, u.1)))

pub returns-then-not-bcc_right : goal.returns-then-not-bcc_right
returns-then-not-bcc_right c =
    let f = c.args.self.bytes.now in
    let h = coded f _ (sym c.code_in.ensures ∙ c.in_ok-code.was) in
    past_end f (laid f c.size_and_end_right.ensures c.if-not-size_and_end_right.false)
    (yes _ _ _ _ h.0 (no _ _ _ _ (told_false c.bcc_right.ensures c.if-not-bcc_right.true) refl))

pub returns-in_default : goal.returns-in_default
returns-in_default c =
    let f = c.args.self.bytes.now in
    let h = coded f _ (sym c.code_in.ensures ∙ c.in_ok-code.was) in
    past_bcc f (laid f c.size_and_end_right.ensures c.if-not-size_and_end_right.false) h.0 (told_true c.bcc_right.ensures c.if-not-bcc_right.false)
    (no _ _ _ _ (known_so f h.1 (ap known c.in_default.is)) refl)

pub order_in-requires : goal.order_in-requires
order_in-requires c =
    let f = c.args.self.bytes.now in
    let h = coded f _ (sym c.code_in.ensures ∙ c.in_ok-code.was) in
    ((laid f c.size_and_end_right.ensures c.if-not-size_and_end_right.false).0, sym c.in-Some.is ∙ h.1)

pub returns : goal.returns
returns c =
    let f = c.args.self.bytes.now in
    let h = coded f _ (sym c.code_in.ensures ∙ c.in_ok-code.was) in
    past_bcc f (laid f c.size_and_end_right.ensures c.if-not-size_and_end_right.false) h.0 (told_true c.bcc_right.ensures c.if-not-bcc_right.false)
    (yes _ _ _ _ (known_so f h.1 {r = true} (ap known c.in-Some.is)) c.order_in.ensures)
