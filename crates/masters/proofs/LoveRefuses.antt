-- Love's refusals: a card refuses with the five codes alone, and for each of them there is a frame that it so refuses. Assumes nothing.
use Rattle.std.proofs.Common.{◌≡◌, ℕ, zero, suc, ◌-◌, ◌/◌, ◌%◌, ◌<◌, ◌≤◌, Bool, true, List, [], ◌∷◌, ◌++◌, length, get_or, Ok, Err, Result, sym, refl, ◌∙◌, arith, eq-eqb, ne_eqb}
use Prim.{Unit, tt}
use Rattle.wire.specs.Choose.{choose}
use Rattle.wire.specs.Length.{between}
use Rattle.wire.specs.Sum.{byte_values, sum_of}
use Rattle.wire.proofs.Cases.{yes, by_choice}
use Rattle.wire.proofs.Sums.{sum_byte}
use Rattle.wire.proofs.Computed as wire
use Rattle.figures.specs.Figure.{upper_hex, hex, base, figure_of, char_of, all_figures, pair_byte, pair_of}
use Rattle.figures.proofs.Computed as figures
use Rattle.card.specs.Numbers.{foreign_address, frame_form, check_character, command_unknown, value_outside}
use Rattle.card.specs.Fitness.{love_hundred, love_address_most}
use Rattle.card.proofs.Computed as card
use Rattle.love.specs.Form.{shortest, longest, etx, stx, letters, filter_of, undefined_command, checksum_error, illegal_character, field_error, out_of_range}
use Rattle.love.specs.Frame.{silently, unless, parameter_of, sign_right, number_in, asked}
use Rattle.love.specs.Stages.{order_write, order_by, order_in}
use Rattle.love.specs.Answer.{error_reply, address_of, obeyed}
use Rattle.love.specs.declared.frame.Order.{Order}
use Rattle.love.specs.declared.frame.Refusal.{Refusal}
use Rattle.love.specs.declared.frame.Order.TheVariants.{Probe, Read, Write}
use Rattle.love.specs.declared.frame.Refusal.TheVariants.{Silent, Refused}
use Rattle.love.proofs.Hosts.{host_frame, host_asked, sent, sent_wrong}
use Rattle.asking.specs.Claims.{Below}
use Rattle.asking.proofs.Cards.{every, every_at}
use Rattle.love_master.specs.Heard.{is_code}
use Rattle.love_master.proofs.Errors.{by_code}

-- a refusal that is answered has one of the codes
abbrev pub Coded : Result Order Refusal → Type 0
Coded (Err (Silent number)) = Unit {0}
Coded (Err (Refused number code)) = is_code code ≡ true
Coded (Ok order) = Unit {0}

or_silent : (t : Bool) (o : Result Order Refusal) (n : ℕ) → Coded o → Coded (silently t n o)
or_silent t o n p = by_choice Coded t o (Err (Silent n)) (λ _. p) (λ _. tt)

or_refused : (t : Bool) (o : Result Order Refusal) (n e : ℕ) → is_code e ≡ true → Coded o → Coded (unless t n e o)
or_refused t o n e c p = by_choice Coded t o (Err (Refused n e)) (λ _. p) (λ _. c)

pub asked_coded : (address : ℕ) (f : List ℕ) → Coded (asked address f)
unfolding asked is_code
asked_coded address f =
    or_silent _ _ _ (or_silent _ _ _ (or_silent _ _ _ (or_silent _ _ _ (or_silent _ _ _
    (or_refused _ _ _ _ refl (or_refused _ _ _ _ refl (or_refused _ _ _ _ refl (or_refused _ _ _ _ refl
    (by_choice Coded _ _ _ (λ _. or_refused _ _ _ _ refl tt)
    (λ _. or_refused _ _ _ _ refl (or_refused _ _ _ _ refl
    (by_choice Coded _ _ _ (λ _. or_refused _ _ _ _ refl tt)
    (λ _. or_refused _ _ _ _ refl (or_refused _ _ _ _ refl (or_refused _ _ _ _ refl (or_refused _ _ _ _ refl
    (or_refused _ _ _ _ refl tt)))))))))))))))))

-- the bytes of a refusal that is answered
pub refusal_bytes_law : (words memory : List ℕ) (order : Result Order Refusal) → Coded order → foreign_address ≤ (obeyed words memory order).number → 0 < length (obeyed words memory order).bytes
    → (code : ℕ) × ((is_code code ≡ true) × ((obeyed words memory order).bytes ≡ error_reply (address_of words) code))
unfolding obeyed
refusal_bytes_law words memory (Err (Silent number)) c n l = let z : ⊥ = omega arith in absurd z
refusal_bytes_law words memory (Err (Refused number code)) c n l = (code, (c, refl))
refusal_bytes_law words memory (Ok Probe) c n l = let z : ⊥ = omega arith in absurd z
refusal_bytes_law words memory (Ok (Read k)) c n l = let z : ⊥ = omega arith in absurd z
refusal_bytes_law words memory (Ok (Write k word)) c n l = let z : ⊥ = omega arith in absurd z

-- bytes
listed : (s : List ℕ) → every byte_values s ≡ true → Below byte_values s
listed s h = every_at byte_values s (omega arith) h

below_cons : (x : ℕ) (s : List ℕ) → x < byte_values → Below byte_values s → Below byte_values (x ∷ s)
below_cons x s h all zero = h
below_cons x s h all (suc i) = all i

below_append : (s t : List ℕ) → Below byte_values s → Below byte_values t → Below byte_values (s ++ t)
below_append [] t p q = q
below_append (x ∷ s) t p q = below_cons x (s ++ t) (p zero) (below_append s t (λ i. p (suc i)) q)

letter_byte : (i : ℕ) → get_or letters i 0 < byte_values
letter_byte zero = omega arith
letter_byte (suc zero) = omega arith
letter_byte (suc (suc zero)) = omega arith
letter_byte (suc (suc (suc zero))) = omega arith
letter_byte (suc (suc (suc (suc i)))) = omega arith

char_byte : (v : ℕ) → v < base → char_of v < byte_values
unfolding char_of
char_byte v h = by_choice (λ (n : ℕ). n < byte_values) _ _ _ (λ _. omega arith) (λ _. omega arith)

pair_bytes : (v : ℕ) → v < byte_values → Below byte_values (pair_of v)
unfolding pair_of
pair_bytes v h =
    below_cons (char_of (v / base)) (char_of (v % base) ∷ []) (char_byte (v / base) (omega arith)) (below_cons (char_of (v % base)) [] (char_byte (v % base) (omega arith)) (listed [] refl))

host_bytes : (address : ℕ) (d : List ℕ) → Below byte_values d → Below byte_values (host_frame address d)
unfolding host_frame
host_bytes address d p =
    let b = pair_of (address % love_hundred) ++ d in
    let ending = pair_of (sum_of b) ++ (etx ∷ []) in
    below_cons stx (filter_of address ∷ (b ++ ending)) (omega arith)
    (below_cons (filter_of address) (b ++ ending) (letter_byte (address / love_hundred))
    (below_append b ending (below_append (pair_of (address % love_hundred)) d (pair_bytes (address % love_hundred) (omega arith)) p)
    (below_append (pair_of (sum_of b)) (etx ∷ []) (pair_bytes (sum_of b) (sum_byte b)) (listed (etx ∷ []) refl))))

-- a frame that the unit at an address refuses with a code
pub record Refusable (address code : ℕ) : Type 0 where
  pub frame : List ℕ
  pub bytes : Below byte_values frame
  pub number : ℕ
  pub refuses : foreign_address ≤ number
  pub orders : asked address frame ≡ Err (Refused number code)

module _ (address : ℕ) (most : address ≤ love_address_most) where
  -- by its data
  by_data : (d : List ℕ) (number code : ℕ) → length d ≤ longest - shortest → Below byte_values d → foreign_address ≤ number
      → choose (all_figures hex d) (order_in d) (Err (Refused frame_form illegal_character)) ≡ Err (Refused number code) → Refusable address code
  by_data d number code short p n e =
      record {
        frame = host_frame address d;
        bytes = host_bytes address d p;
        number = number;
        refuses = n;
        orders = host_asked address most d short address ∙ sym (yes _ _ _ _ (eq-eqb address address refl) (sym e));
      }

  -- 0300: 03 is no command
  unknown : Refusable address undefined_command
  unfolding wire.computed figures.computed order_in order_by parameter_of
  unknown =
      by_data (0x30 ∷ 0x33 ∷ 0x30 ∷ 0x30 ∷ []) command_unknown undefined_command (omega arith) (listed (0x30 ∷ 0x33 ∷ 0x30 ∷ 0x30 ∷ []) refl) (omega arith) refl

  -- G: no figure
  illegal : Refusable address illegal_character
  unfolding wire.computed figures.computed
  illegal = by_data (0x47 ∷ []) frame_form illegal_character (omega arith) (listed (0x47 ∷ []) refl) (omega arith) refl

  -- no data
  field : Refusable address field_error
  unfolding wire.computed figures.computed order_in
  field = by_data [] frame_form field_error (omega arith) (listed [] refl) (omega arith) refl

  -- 0200 9999 00: SP1 to 9999
  outside : Refusable address out_of_range
  unfolding wire.computed figures.computed card.computed order_in order_by order_write parameter_of sign_right number_in
  outside =
      let d : List ℕ = 0x30 ∷ 0x32 ∷ 0x30 ∷ 0x30 ∷ 0x39 ∷ 0x39 ∷ 0x39 ∷ 0x39 ∷ 0x30 ∷ 0x30 ∷ [] in
      by_data d value_outside out_of_range (omega arith) (listed d refl) (omega arith) refl

  -- two bytes for a checksum that are no figures
  unchecked : Refusable address checksum_error
  unfolding pair_of pair_byte figure_of between choose
  unchecked =
      let unit_byte = address % love_hundred in
      let s = char_of (unit_byte / base) ∷ char_of (unit_byte % base) ∷ [] in
      record {
        frame = sent address most [] (omega arith) 0 0;
        bytes =
            below_cons stx (filter_of address ∷ (pair_of unit_byte ++ (0 ∷ 0 ∷ etx ∷ []))) (omega arith)
            (below_cons (filter_of address) (pair_of unit_byte ++ (0 ∷ 0 ∷ etx ∷ [])) (letter_byte (address / love_hundred))
            (below_append (pair_of unit_byte) (0 ∷ 0 ∷ etx ∷ []) (pair_bytes unit_byte (omega arith)) (listed (0 ∷ 0 ∷ etx ∷ []) refl)));
        number = check_character;
        refuses = omega arith;
        orders = sent_wrong address most [] (omega arith) 0 0 (ne_eqb (pair_byte upper_hex 0 0) (sum_of s) (λ e. omega (arith, e, sum_byte s)));
      }

  pub refusable : (code : ℕ) → is_code code ≡ true → Refusable address code
  refusable code h = by_code (Refusable address) code h unknown unchecked illegal field outside
