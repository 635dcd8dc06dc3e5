-- LucidControl's refusals: what any card refuses with is heard as that, and each status and the fault are some card's. Assumes nothing.
use Rattle.std.proofs.Common.{◌≡◌, ℕ, ◌+◌, ◌<◌, ◌≤◌, Bool, true, List, [], ◌∷◌, ◌++◌, length, Ok, Err, Result, sym, refl, ap, ◌∙◌, subst, arith, eqb-true}
use Prim.{Unit, tt}
use Rattle.wire.specs.Choose.{choose}
use Rattle.wire.specs.Buffer.{same}
use Rattle.wire.specs.Sum.{byte_values}
use Rattle.wire.proofs.Cases.{by_choice}
use Rattle.wire.proofs.Computed as wire
use Rattle.card.specs.Numbers.{foreign_address}
use Rattle.card.specs.Layout.{channels}
use Rattle.card.specs.Start.{start_words, start_memory, start_card}
use Rattle.card.specs.Reply.{Reply, room_least}
use Rattle.card.proofs.Computed as card
use Rattle.lucid.specs.Form.{no_support, inv_length, inv_p1, inv_p2, inv_value, inv_channel, inv_param, inv_data, err_execution, channels_of}
use Rattle.lucid.specs.Form.{get_io, get_io_group, set_param, get_param, demand, tenths, default, cycle_address, address_size, parameter_size, little}
use Rattle.lucid.specs.Frame.{asked}
use Rattle.lucid.specs.Answer.{Values, Held, Failed, group, value_of, read, obeyed}
use Rattle.lucid.specs.declared.frame.Order.{Order}
use Rattle.lucid.specs.declared.frame.Refusal.{Refusal}
use Rattle.lucid.specs.declared.frame.Order.TheVariants.{GetIo as GetOrder, SetIo as SetOrder}
use Rattle.lucid.specs.declared.frame.Refusal.TheVariants.{Silent, Refused as RefusedOrder}
use Rattle.lucid.specs.declared.frame.Order.TheVariants.{GetParam as GetParamOrder, SetParam as SetParamOrder, Reset as ResetOrder}
use Rattle.lucid.proofs.Computed as lucid
use Rattle.lucid.proofs.Laws.{replied}
use Rattle.asking.specs.Hearing.{Hearing, is_said}
use Rattle.asking.specs.Hearing.Hearing.{Fault, Refused}
use Rattle.asking.specs.Claims.{Refuses}
use Rattle.asking.proofs.Cards.{every, every_at, start_real}
use Rattle.lucid_master.specs.Request.{Asking}
use Rattle.lucid_master.specs.Heard.{is_status, heard}
use Rattle.lucid_master.proofs.Requests.{one_of}
use Rattle.masters.specs.Lucid.{refusal_in, lucid_master}

-- a status is one of eight
by_status : (P : ℕ → Type 0) → P no_support → P inv_length → P inv_p1 → P inv_p2 → P inv_value → P inv_channel → P inv_param → P inv_data → (s : ℕ) → is_status s ≡ true → P s
unfolding is_status
by_status P a b c d e f g i s h =
    one_of P s no_support _ h a
    (λ h₁. one_of P s inv_length _ h₁ b
    (λ h₂. one_of P s inv_p1 _ h₂ c
    (λ h₃. one_of P s inv_p2 _ h₃ d
    (λ h₄. one_of P s inv_value _ h₄ e
    (λ h₅. one_of P s inv_channel _ h₅ f
    (λ h₆. one_of P s inv_param _ h₆ g
    (λ h₇. subst P (sym (eqb-true s inv_data h₇)) i)))))))

-- an order refuses with one of these
abbrev Known : Result Order Refusal → Type 0
Known (Err (Silent number)) = Unit {0}
Known (Err (RefusedOrder number status)) = is_status status ≡ true
Known (Ok order) = Unit {0}

-- a test, of which the other way is such a refusal; and one of which both ways are none or such
or_known : (t : Bool) (order : Result Order Refusal) (number status : ℕ) → is_status status ≡ true → Known order → Known (choose t order (Err (RefusedOrder number status)))
or_known t order number status h k = by_choice Known t order (Err (RefusedOrder number status)) (λ _. k) (λ _. h)

either : (t : Bool) (a b : Result Order Refusal) → Known a → Known b → Known (choose t a b)
either t a b k l = by_choice Known t a b (λ _. k) (λ _. l)

-- every order does
known : (f : List ℕ) → Known (asked f)
unfolding asked is_status
known f =
    either _ _ _
    (or_known _ _ _ _ refl (or_known _ _ _ _ refl (or_known _ _ _ _ refl (or_known _ _ _ _ refl (or_known _ _ _ _ refl (or_known _ _ _ _ refl (or_known _ _ _ _ refl (or_known _ _ _ _ refl
    (either _ _ _ tt (either _ _ _ tt (or_known _ _ _ _ refl (either _ _ _ tt (either _ _ _ tt (or_known _ _ _ _ refl tt))))))))))))))
    tt

-- a refusal's bytes are heard as what they say
abbrev HeardSo : Asking → List ℕ → Type 0
HeardSo q bytes = (heard q bytes ≡ refusal_in bytes) × (is_said (refusal_in bytes) ≡ true)

-- where channels are read
read_heard : (q : Asking) (v : Values) → foreign_address ≤ (read v).number → HeardSo q (read v).bytes
unfolding read heard same refusal_in choose
read_heard q (Held bytes) h = let z : ⊥ = omega arith in absurd z
read_heard q Failed h = (refl, refl)

-- and for every order
order_heard : (q : Asking) (ws memory f : List ℕ) (order : Result Order Refusal) → Known order → foreign_address ≤ (obeyed ws memory f order).number → 0 < length (obeyed ws memory f order).bytes
    → HeardSo q (obeyed ws memory f order).bytes
unfolding obeyed heard same is_status refusal_in choose
order_heard q ws memory f (Err (Silent number)) k h some = let z : ⊥ = omega arith in absurd z
order_heard q ws memory f (Err (RefusedOrder number status)) k h some =
    by_status (λ s. HeardSo q (s ∷ 0 ∷ [])) (refl, refl) (refl, refl) (refl, refl) (refl, refl) (refl, refl) (refl, refl) (refl, refl) (refl, refl) status k
order_heard q ws memory f (Ok (GetOrder valueType mask)) k h some = read_heard q (group (value_of ws memory valueType) (channels_of mask)) h
order_heard q ws memory f (Ok (SetOrder mask)) k h some = let z : ⊥ = omega arith in absurd z
order_heard q ws memory f (Ok (GetParamOrder place)) k h some = let z : ⊥ = omega arith in absurd z
order_heard q ws memory f (Ok (SetParamOrder place saved value)) k h some = let z : ⊥ = omega arith in absurd z
order_heard q ws memory f (Ok (ResetOrder place saved)) k h some = let z : ⊥ = omega arith in absurd z

-- a refusal that document 01 has is heard
pub refusal_said : (q : Asking) (h : Hearing) (r : List ℕ) → Refuses lucid_master q h r → (is_said h ≡ true) × (heard q r ≡ h)
refusal_said q h r x =
    let ws = x.card.words in
    let memory = x.card.memory in
    let e = replied x.card room_least x.frame x.at.real.fits (omega arith) in
    let bytes = (obeyed ws memory x.frame (asked x.frame)).bytes in
    let sends : bytes ≡ r = sym (ap (λ (y : Reply). y.bytes) e) ∙ x.sends in
    let says : refusal_in bytes ≡ h = sym (ap (λ (y : Reply). refusal_in y.bytes) e) ∙ x.says in
    let so =
    order_heard q ws memory x.frame (asked x.frame) (known x.frame) (subst (λ (y : Reply). foreign_address ≤ y.number) e x.number)
    (subst (λ (l : List ℕ). 0 < length l) (sym sends) x.some) in
    (sym (ap is_said says) ∙ so.1, sym (ap (heard q) sends) ∙ so.0 ∙ says)

-- a frame that the start card refuses with this status
record Refusing (s : ℕ) : Type 0 where
  frame : List ℕ
  bytes : every byte_values frame ≡ true
  number : foreign_address ≤ (obeyed start_words start_memory frame (asked frame)).number
  sends : (obeyed start_words start_memory frame (asked frame)).bytes ≡ s ∷ 0 ∷ []

abbrev refusing : (s : ℕ) (f : List ℕ) → every byte_values f ≡ true → foreign_address ≤ (obeyed start_words start_memory f (asked f)).number
    → (obeyed start_words start_memory f (asked f)).bytes ≡ s ∷ 0 ∷ [] → Refusing s
refusing s f b n e = record { frame = f; bytes = b; number = n; sends = e }

-- each status
status_refused : (s : ℕ) → is_status s ≡ true → Refusing s
unfolding wire.computed card.computed lucid.computed
status_refused =
    by_status Refusing
    (refusing no_support (0 ∷ 0 ∷ 0 ∷ 0 ∷ []) refl (omega arith) refl)
    (refusing inv_length (get_io ∷ 0 ∷ demand ∷ 1 ∷ []) refl (omega arith) refl)
    (refusing inv_p1 (get_io_group ∷ 0 ∷ demand ∷ 0 ∷ []) refl (omega arith) refl)
    (refusing inv_p2 (get_param ∷ 0 ∷ default ∷ 0 ∷ []) refl (omega arith) refl)
    (refusing inv_value (get_io ∷ 0 ∷ 0 ∷ 0 ∷ []) refl (omega arith) refl)
    (refusing inv_channel (get_io ∷ channels ∷ demand ∷ 0 ∷ []) refl (omega arith) refl)
    (refusing inv_param (get_param ∷ 0 ∷ 0 ∷ address_size ∷ little address_size 0) refl (omega arith) refl)
    (refusing inv_data (set_param ∷ 0 ∷ 0 ∷ (address_size + parameter_size) ∷ (little address_size cycle_address ++ little parameter_size 0)) refl (omega arith) refl)

-- no probe of the start card has been read
fault_refused : Refusing err_execution
unfolding wire.computed card.computed lucid.computed
fault_refused = refusing err_execution (get_io ∷ 0 ∷ tenths ∷ 0 ∷ []) refl (omega arith) refl

-- so document 01 has it
refuses_with : (q : Asking) (h : Hearing) (s : ℕ) → Refusing s → refusal_in (s ∷ 0 ∷ []) ≡ h → Refuses lucid_master q h (s ∷ 0 ∷ [])
refuses_with q h s x says =
    let e = replied start_card room_least x.frame start_real.fits (omega arith) in
    let sends = ap (λ (y : Reply). y.bytes) e ∙ x.sends in
    record {
      card = start_card;
      at = record { real = start_real; there = refl };
      frame = x.frame;
      bytes = every_at byte_values x.frame (omega arith) x.bytes;
      number = subst (λ (y : Reply). foreign_address ≤ y.number) (sym e) x.number;
      sends = sends;
      some = omega arith;
      says = ap refusal_in sends ∙ says;
    }

-- each status is a refusal of some card
pub refuses : (q : Asking) (s : ℕ) → is_status s ≡ true → Refuses lucid_master q (Refused (s ∷ [])) (s ∷ 0 ∷ [])
unfolding refusal_in choose
refuses q s h =
    refuses_with q (Refused (s ∷ [])) s (status_refused s h) (by_status (λ t. refusal_in (t ∷ 0 ∷ []) ≡ Refused (t ∷ [])) refl refl refl refl refl refl refl refl s h)

-- and D0h a fault
pub faults : (q : Asking) → Refuses lucid_master q Fault (err_execution ∷ 0 ∷ [])
unfolding refusal_in choose
faults q = refuses_with q Fault err_execution fault_refused refl
