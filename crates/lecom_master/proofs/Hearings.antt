-- What is heard in a reply: to a read, its length is that of an answer, and its data are a value; to a write, one byte. Assumes nothing.
use Rattle.std.proofs.Common.{Option, Some, None, ◌≡◌, ℕ, ◌+◌, ◌-◌, ◌<◌, List, [], ◌∷◌, length, get_or, sym, refl, ◌∙◌, arith, length-drop, length-take, eq-eqb, ne_eqb}
use Rattle.wire.specs.Choose.{choose}
use Rattle.wire.specs.Buffer.{part, same}
use Rattle.wire.proofs.Pieces.{same_one}
use Rattle.wire.proofs.Cases.{yes, no, by_choice}
use Rattle.figures.specs.Signed.{longest_text, parsed_of}
use Rattle.figures.proofs.Texts.{text_length}
use Rattle.card.specs.Numbers.{frame_form}
use Rattle.lecom.specs.Form.{ack, closing, data_least, named_by}
use Rattle.asking.specs.Against.{against}
use Rattle.asking.specs.Hearing.{Hearing, heard_by}
use Rattle.asking.specs.Hearing.Hearing.{Done, Unread}
use Rattle.lecom_master.specs.Heard.{data_at, check_size, answerable, answer_bytes, data_read, heard_value}
use Rattle.lecom_master.proofs.Requests.{checked_length}

-- a reply shorter than every answer has no data
pub short_heard : (code : ℕ) (r : List ℕ) → length r < data_at + data_least + closing → Unread frame_form ≡ heard_value code r (data_read r)
unfolding heard_value data_read parsed_of
short_heard code r h =
    let n : length (part r data_at (length r - closing)) ≡ 0 = simp (length-take, length-drop) (omega arith) in
    let e : data_read r ≡ None = sym (yes _ _ _ _ (eq-eqb (length (part r data_at (length r - closing))) 0 n) refl) in
    rw e

-- a reply of another length than the answer
apart : (back size : ℕ) (r answer : List ℕ) → (length r ≡ length answer → ⊥) → against back size r answer ≡ frame_form
unfolding against
apart back size r answer n = sym (no _ _ _ _ (ne_eqb (length r) (length answer) n) refl)

-- a reply longer than every answer
pub long_heard : (code : ℕ) (r : List ℕ) (p : Option ℕ) → data_at + longest_text + closing < length r → Unread frame_form ≡ heard_value code r p
unfolding heard_value heard_by answer_bytes choose
long_heard code r None h = refl
long_heard code r (Some value) h =
    let a = answer_bytes code value in
    let e : against check_size check_size r a ≡ frame_form = apart check_size check_size r a (λ n. omega (arith, n, checked_length code value, text_length value)) in
    by_choice (λ (x : Hearing). Unread frame_form ≡ x) (answerable (named_by code) value) _ _ (λ _. rw e) (λ _. refl)

-- a reply to a write that is one byte, and not ACK
pub other_byte : (r : List ℕ) → length r ≡ 1 → (get_or r 0 0 ≡ ack → ⊥) → choose (same r (ack ∷ [])) Done (Unread frame_form) ≡ Unread frame_form
other_byte r one n = sym (no _ _ _ _ (same_one r ack one ∙ ne_eqb _ _ n) refl)
