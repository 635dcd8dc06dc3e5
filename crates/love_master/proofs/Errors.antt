-- What an error reply shows: its code by the second of its characters; and a reply of its length is none else. Assumes nothing.
use Rattle.std.proofs.Common.{◌≡◌, ℕ, ◌+◌, ◌-◌, ◌%◌, ◌^◌, ◌<◌, Bool, true, false, ◌&&◌, ◌||◌, eqb, leb, List, [], ◌∷◌, length, get_or, sym, refl, ap, ◌∙◌, arith, eqb-true}
use Rattle.wire.specs.Choose.{choose}
use Rattle.wire.specs.Buffer.{same}
use Rattle.wire.specs.Sum.{byte_values}
use Rattle.wire.proofs.Cases.{yes, no}
use Rattle.wire.proofs.Same.{same_refl, same_true, lengths_apart}
use Rattle.wire.proofs.Tests.{and_true, and_false_right, both, same_test}
use Rattle.figures.specs.Figure.{upper_hex, base, zero_char, char_of, pair_of}
use Rattle.figures.proofs.Known.{pair_read}
use Rattle.card.specs.Numbers.{frame_form}
use Rattle.card.specs.Fitness.{love_address_most, love_right}
use Rattle.love.specs.Frame.{byte_at}
use Rattle.love.specs.Answer.{unit_of, error_reply, written_data}
use Rattle.asking.specs.Hearing.{Hearing}
use Rattle.asking.specs.Hearing.Hearing.{Done, Refused, Unread}
use Rattle.love_master.specs.declared.request.Task.{Task}
use Rattle.love_master.specs.declared.request.Task.TheVariants.{Status, Read, Write}
use Rattle.love_master.specs.declared.request.Request.{Request}
use Rattle.love_master.specs.Request.{task_right, askable}
use Rattle.love_master.specs.Heard.{code_at, is_code, is_refusal, heard_data, heard_task, heard}
use Rattle.love_master.specs.Stages.{error_length, written_reply_length, code_last_at, heard_error}
use Rattle.love_master.proofs.Shown.{normal_length, other_length, value_length, status_length_law}

-- what holds of the five codes holds of a code
pub by_code : (P : ℕ → Type 0) (c : ℕ) → is_code c ≡ true → P 1 → P 2 → P 4 → P 5 → P 6 → P c
unfolding is_code
by_code P c h p₁ p₂ p₄ p₅ p₆ = one (eqb c 1) (eqb c 2) (eqb c 4) (eqb c 5) (eqb c 6) refl refl refl refl refl h
  where
    at : (k : ℕ) → P k → eqb c k ≡ true → P c
    at k p e = rw (eqb-true c k e) p

    one : (a b d e f : Bool) → eqb c 1 ≡ a → eqb c 2 ≡ b → eqb c 4 ≡ d → eqb c 5 ≡ e → eqb c 6 ≡ f → (a || (b || (d || (e || f)))) ≡ true → P c
    one true b d e f q _ _ _ _ _ = at 1 p₁ q
    one false true d e f _ q _ _ _ _ = at 2 p₂ q
    one false false true e f _ _ q _ _ _ = at 4 p₄ q
    one false false false true f _ _ _ q _ _ = at 5 p₅ q
    one false false false false f _ _ _ _ q g = at 6 p₆ (q ∙ g)

code_byte : (c : ℕ) → is_code c ≡ true → c < byte_values
code_byte c h = by_code (λ (x : ℕ). x < byte_values) c h (omega arith) (omega arith) (omega arith) (omega arith) (omega arith)

code_last : (c : ℕ) → is_code c ≡ true → char_of (c % base) ≡ c + zero_char
unfolding char_of choose
code_last c h = by_code (λ (x : ℕ). char_of (x % base) ≡ x + zero_char) c h refl refl refl refl refl

code_small : (c : ℕ) → is_code c ≡ true → c < 7
code_small c h = by_code (λ (x : ℕ). x < 7) c h (omega arith) (omega arith) (omega arith) (omega arith) (omega arith)

pub error_length_law : (address code : ℕ) → length (error_reply address code) ≡ error_length
unfolding error_reply unit_of pair_of
error_length_law address code = refl

-- the code that an error reply shows
error_code : (address c : ℕ) → is_code c ≡ true → byte_at upper_hex (error_reply address c) code_at ≡ c
unfolding error_reply unit_of pair_of
error_code address c h = pair_read c (code_byte c h)

error_last : (address c : ℕ) → is_code c ≡ true → get_or (error_reply address c) code_last_at 0 ≡ c + zero_char
unfolding error_reply unit_of pair_of
error_last address c h = code_last c h

-- an error reply is heard as such
pub refusal_heard : (address c : ℕ) → is_code c ≡ true → is_refusal address (error_reply address c) ≡ true
unfolding is_refusal
refusal_heard address c h = rw (error_code address c h) (both h (same_refl (error_reply address c)))

-- a reply that is heard as an error reply is one
pub refusal_is : (address : ℕ) (r : List ℕ) → is_refusal address r ≡ true → (is_code (byte_at upper_hex r code_at) ≡ true) × (r ≡ error_reply address (byte_at upper_hex r code_at))
unfolding is_refusal
refusal_is address r h =
    let b = and_true (is_code (byte_at upper_hex r code_at)) _ h in
    (b.0, same_true r _ b.1)

-- a reply of another length is none
refusal_length : (address : ℕ) (r : List ℕ) → (length r ≡ error_length → ⊥) → is_refusal address r ≡ false
unfolding is_refusal
refusal_length address r n =
    let c = byte_at upper_hex r code_at in
    rw (lengths_apart r (error_reply address c) (λ e. n (e ∙ error_length_law address c))) (and_false_right (is_code c))

-- the code k by the second of its characters
module _ (address : ℕ) (r : List ℕ) (k : ℕ) (shown : k ≡ (get_or r code_last_at 0 + (2 ^ 8 - zero_char)) % 2 ^ 8) where
  told_back : (is_code k && same r (error_reply address k)) ≡ true → (is_refusal address r ≡ true) × (byte_at upper_hex r code_at ≡ k)
  told_back h =
      let b = and_true (is_code k) _ h in
      let e : r ≡ error_reply address k = same_true r _ b.1 in
      rw e (refusal_heard address k b.0, error_code address k b.0)

  told : is_refusal address r ≡ true → (is_code k && same r (error_reply address k)) ≡ true
  told h =
      let c = byte_at upper_hex r code_at in
      let p = refusal_is address r h in
      let l : get_or r code_last_at 0 ≡ c + zero_char = ap (λ (s : List ℕ). get_or s code_last_at 0) p.1 ∙ error_last address c p.0 in
      let e : k ≡ c = omega (arith, shown, l, code_small c p.0) in
      rw e (both p.0 (ap (λ (s : List ℕ). same r s) (sym p.1) ∙ same_refl r))

  refusal_told : is_refusal address r ≡ (is_code k && same r (error_reply address k))
  refusal_told = same_test _ _ told (λ h. (told_back h).0)

  -- another code, another reply, and the error reply
  pub error_other : is_code k ≡ false → Unread frame_form ≡ heard_error address r (Unread frame_form)
  unfolding heard_error
  error_other h = no _ _ _ _ (refusal_told ∙ rw h) refl

  pub error_none : is_code k ≡ true → same r (error_reply address k) ≡ false → Unread frame_form ≡ heard_error address r (Unread frame_form)
  unfolding heard_error
  error_none h n = no _ _ _ _ (refusal_told ∙ rw h n) refl

  pub error_some : is_code k ≡ true → same r (error_reply address k) ≡ true → Refused (k ∷ []) ≡ heard_error address r (Unread frame_form)
  unfolding heard_error
  error_some h s = yes _ _ _ _ (refusal_told ∙ both h s) (ap (λ (c : ℕ). Refused (c ∷ [])) (sym (told_back (both h s)).1))

-- a reply to a write of another length
pub written_length : (address : ℕ) (r : List ℕ) → (length r ≡ written_reply_length → ⊥) → heard_data address r written_data Done ≡ Unread frame_form
unfolding written_data pair_of
written_length address r n = other_length address r written_data Done (λ e. n (e ∙ normal_length address written_data))

-- no other reply is as long as an error reply
task_other : (address : ℕ) (task : Task) (r : List ℕ) → length r ≡ error_length → heard_task address task r ≡ Unread frame_form
unfolding heard_task
task_other address Status r l = status_length_law address r (λ e. omega arith)
task_other address (Read place) r l = value_length address place r (λ e. omega arith)
task_other address (Write place value) r l = written_length address r (λ e. omega arith)

pub heard_error_law : (q : Request) (r : List ℕ) → length r ≡ error_length → heard_error q.address r (Unread frame_form) ≡ heard q r
unfolding heard heard_error
heard_error_law q r l = ap (heard_error q.address r) (sym (task_other q.address q.task r l))

pub heard_normal : (q : Request) (r : List ℕ) (task : Task) {x : Hearing} → (length r ≡ error_length → ⊥) → q.task ≡ task → x ≡ heard_task q.address task r → x ≡ heard q r
unfolding heard
heard_normal q r task n e h = no _ _ _ _ (refusal_length q.address r n) (h ∙ ap (λ (t : Task). heard_task q.address t r) (sym e))

-- what is known of a request that 7 does not refuse
pub askable_facts : (q : Request) → askable q ≡ true → (love_right q.address ≡ true) × (task_right q.task ≡ true)
unfolding askable
askable_facts q h = and_true (love_right q.address) _ h

pub askable_address : (q : Request) → askable q ≡ true → leb q.address love_address_most ≡ true
askable_address q h = (and_true (leb q.address love_address_most) _ (askable_facts q h).0).0
