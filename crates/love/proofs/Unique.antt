-- A Love frame that is carried out is known from what it asks: all but its data, and of its data what the order says. For masters. Assumes nothing.
use Prim.{Unit, tt}
use Rattle.std.proofs.Common.{ℕ, suc, ◌+◌, ◌-◌, ◌/◌, ◌%◌, ◌≤◌, ◌<◌, ◌≡◌, refl, sym, ap, ap₂, ◌∙◌, true, List, [], ◌∷◌, ◌++◌, arith, eqb-true, ltb-true, eqb, length, get_or, drop, drop_of_length-le, take-append-drop, drop-cons, drop-drop, Result, Ok, Err}
use Rattle.wire.specs.Buffer.{part}
use Rattle.wire.specs.Sum.{sum_of}
use Rattle.wire.proofs.Cases.{by_choice}
use Rattle.wire.proofs.Sums.{sum_byte}
use Rattle.wire.proofs.Lengths.{between_facts}
use Rattle.wire.proofs.Tests.{and_true}
use Rattle.figures.specs.Figure.{decimal, upper_hex, hex, base, char_of, all_figures, pair_of}
use Rattle.figures.proofs.Known.{pair_chars}
use Rattle.card.specs.Layout.{love_count}
use Rattle.card.specs.Fitness.{love_hundred}
use Rattle.love.specs.Form.{shortest, longest, stx, etx, filter_at, address_at, data_at, tail, filter_of, command_at, parameter_at, value_at, sign_at, status_command, read_command, write_command, status_length, read_length, write_length}
use Rattle.love.specs.Frame.{byte_at, data_of, for_unit, checksum_right, parameter_of, sign_right, number_in, asked}
use Rattle.love.specs.Stages.{order_write, order_by, order_in}
use Rattle.love.specs.declared.frame.Order.{Order}
use Rattle.love.specs.declared.frame.Order.TheVariants.{Probe, Read, Write}
use Rattle.love.specs.declared.frame.Refusal.{Refusal}
use Rattle.love.proofs.Passes.{Formed, framed, framed_summed}
use Rattle.love.proofs.Hosts.{host_frame}

-- what holds of a frame whose order is carried out
pub record Carried (address : ℕ) (f : List ℕ) (order : Order) : Type 0 where
  pub formed : Formed f
  pub unit : for_unit address f ≡ true
  pub checked : checksum_right f ≡ true
  pub orders : order_in (data_of f) ≡ Ok order

abbrev pub Held : ℕ → List ℕ → Result Order Refusal → Type 0
Held address f (Ok order) = Carried address f order
Held address f (Err refusal) = Unit {0}

hold : (address : ℕ) (f : List ℕ) (asks : Result Order Refusal) → ((order : Order) → asks ≡ Ok order → Carried address f order) → Held address f asks
hold address f (Ok order) c = c order refl
hold address f (Err refusal) c = tt

pub asked_held : (address : ℕ) (f : List ℕ) → Held address f (asked address f)
unfolding asked order_in order_by order_write
asked_held address f =
    by_choice (Held address f) _ _ _
    (λ long. by_choice (Held address f) _ _ _
    (λ begins. by_choice (Held address f) _ _ _
    (λ ends. by_choice (Held address f) _ _ _
    (λ figured. by_choice (Held address f) _ _ _
    (λ unit. by_choice (Held address f) _ _ _
    (λ checked. by_choice (Held address f) _ _ _
    (λ _. hold address f (order_in (data_of f)) (λ order e. record { formed = record { long = long; begins = begins; ends = ends; figured = figured }; unit = unit; checked = checked; orders = e }))
    (λ _. tt)) (λ _. tt)) (λ _. tt)) (λ _. tt)) (λ _. tt)) (λ _. tt)) (λ _. tt)

-- what the data of such a frame are
abbrev pub Shape : List ℕ → Result Order Refusal → Type 0
Shape s (Err refusal) = Unit {0}
Shape s (Ok Probe) = (length s ≡ status_length) × (byte_at hex s command_at ≡ status_command)
Shape s (Ok (Read k)) = ((length s ≡ read_length) × (byte_at hex s command_at ≡ read_command)) × ((parameter_of (byte_at hex s parameter_at) ≡ k) × (k < love_count))
Shape s (Ok (Write k word)) =
    (((length s ≡ write_length) × (byte_at hex s command_at ≡ write_command)) × ((parameter_of (byte_at hex s parameter_at) ≡ k) × (k < love_count)))
    × ((all_figures decimal (part s value_at sign_at) ≡ true) × ((sign_right s ≡ true) × (number_in s ≡ word)))

pub shaped : (s : List ℕ) → Shape s (order_in s)
unfolding order_in order_by order_write
shaped s =
    by_choice (Shape s) _ _ _
    (λ _. by_choice (Shape s) _ _ _
    (λ _. by_choice (Shape s) _ _ _
    (λ command. by_choice (Shape s) _ _ _ (λ d. (eqb-true (length s) status_length d, eqb-true (byte_at hex s command_at) status_command command)) (λ _. tt))
    (λ _. by_choice (Shape s) _ _ _
    (λ _. by_choice (Shape s) _ _ _
    (λ known.
    let k : parameter_of (byte_at hex s parameter_at) < love_count = ltb-true (parameter_of (byte_at hex s parameter_at)) love_count known in
    by_choice (Shape s) _ _ _
    (λ command. by_choice (Shape s) _ _ _ (λ d. ((eqb-true (length s) read_length d, eqb-true (byte_at hex s command_at) read_command command), (refl, k))) (λ _. tt))
    (λ _. by_choice (Shape s) _ _ _
    (λ command. by_choice (Shape s) _ _ _
    (λ d. by_choice (Shape s) _ _ _
    (λ figures. by_choice (Shape s) _ _ _
    (λ sign. by_choice (Shape s) _ _ _
    (λ _. (((eqb-true (length s) write_length d, eqb-true (byte_at hex s command_at) write_command command), (refl, k)), (figures, (sign, refl))))
    (λ _. tt)) (λ _. tt)) (λ _. tt)) (λ _. tt)) (λ _. tt)))
    (λ _. tt)) (λ _. tt)))
    (λ _. tt)) (λ _. tt)

-- the first four elements of a list, and the last three
pub first_four : (f : List ℕ) → 4 ≤ length f → f ≡ get_or f 0 0 ∷ get_or f 1 0 ∷ get_or f 2 0 ∷ get_or f 3 0 ∷ drop 4 f
first_four f h =
    let a : f ≡ get_or f 0 0 ∷ drop 1 f = drop-cons f 0 0 (omega arith) in
    let b : drop 1 f ≡ get_or f 1 0 ∷ drop 2 f = drop-cons f 1 0 (omega arith) in
    let c : drop 2 f ≡ get_or f 2 0 ∷ drop 3 f = drop-cons f 2 0 (omega arith) in
    let d : drop 3 f ≡ get_or f 3 0 ∷ drop 4 f = drop-cons f 3 0 (omega arith) in
    a ∙ ap (λ (l : List ℕ). get_or f 0 0 ∷ l) (b ∙ ap (λ (l : List ℕ). get_or f 1 0 ∷ l) (c ∙ ap (λ (l : List ℕ). get_or f 2 0 ∷ l) d))

last_three : (f : List ℕ) (n : ℕ) → length f ≡ n + 3 → drop n f ≡ get_or f n 0 ∷ get_or f (n + 1) 0 ∷ get_or f (n + 2) 0 ∷ []
last_three f n h =
    let b : suc n ≡ n + 1 = omega arith in
    let c : suc (n + 1) ≡ n + 2 = omega arith in
    let e : drop (suc (n + 2)) f ≡ [] = drop_of_length-le f {i = suc (n + 2)} (omega arith) in
    drop-cons f n 0 (omega arith)
    ∙ ap (λ (l : List ℕ). get_or f n 0 ∷ l)
    (ap (λ (k : ℕ). drop k f) b ∙ drop-cons f (n + 1) 0 (omega arith)
    ∙ ap (λ (l : List ℕ). get_or f (n + 1) 0 ∷ l) (ap (λ (k : ℕ). drop k f) c ∙ drop-cons f (n + 2) 0 (omega arith) ∙ ap (λ (l : List ℕ). get_or f (n + 2) 0 ∷ l) e))

-- a frame is its parts
parts_of : (f : List ℕ) → shortest ≤ length f
    → f ≡ framed (get_or f 0 0) (get_or f filter_at 0) (get_or f address_at 0) (get_or f (address_at + 1) 0) (data_of f) (get_or f (length f - tail) 0) (get_or f (length f - tail + 1) 0) (get_or f (length f - 1) 0)
parts_of f h =
    let n = length f - tail in
    let e : data_at + (n - data_at) ≡ n = omega arith in
    let l : n + 2 ≡ length f - 1 = omega arith in
    let d : drop 4 f ≡ data_of f ++ (get_or f n 0 ∷ get_or f (n + 1) 0 ∷ get_or f (n + 2) 0 ∷ []) =
    sym (take-append-drop (n - data_at) (drop data_at f)) ∙ ap (λ (x : List ℕ). data_of f ++ x) (drop-drop (n - data_at) data_at f ∙ ap (λ (k : ℕ). drop k f) e ∙ last_three f n (omega arith)) in
    first_four f (omega arith)
    ∙ ap (λ (x : List ℕ). get_or f 0 0 ∷ get_or f 1 0 ∷ get_or f 2 0 ∷ get_or f 3 0 ∷ x) (d ∙ ap (λ (k : ℕ). data_of f ++ (get_or f n 0 ∷ get_or f (n + 1) 0 ∷ get_or f k 0 ∷ [])) l)

-- a frame that is carried out is the one that a host makes with its data
pub host_known : (address : ℕ) (f : List ℕ) (order : Order) → Carried address f order → f ≡ host_frame address (data_of f)
unfolding host_frame pair_of for_unit checksum_right
host_known address f order c =
    let n = length f - tail in
    let s = data_of f in
    let long = (between_facts shortest longest (length f) c.formed.long).0 in
    let parts = parts_of f long in
    let unit = and_true (eqb (get_or f filter_at 0) (filter_of address)) _ c.unit in
    let first : get_or f 0 0 ≡ stx = eqb-true (get_or f 0 0) stx c.formed.begins in
    let filter : get_or f filter_at 0 ≡ filter_of address = eqb-true (get_or f filter_at 0) (filter_of address) unit.0 in
    let last : get_or f (length f - 1) 0 ≡ etx = eqb-true (get_or f (length f - 1) 0) etx c.formed.ends in
    let a = address % love_hundred in
    let xy = pair_chars (get_or f address_at 0) (get_or f (address_at + 1) 0) a (omega arith) (eqb-true (byte_at upper_hex f address_at) a unit.1) in
    let b = char_of (a / base) ∷ char_of (a % base) ∷ s in
    let summed : part f address_at n ≡ b =
    ap (λ (g : List ℕ). part g address_at (length g - tail)) parts
    ∙ framed_summed (get_or f 0 0) (get_or f filter_at 0) (get_or f address_at 0) (get_or f (address_at + 1) 0) s (get_or f n 0) (get_or f (n + 1) 0) (get_or f (length f - 1) 0)
    ∙ ap₂ (λ (x y : ℕ). x ∷ y ∷ s) xy.0 xy.1 in
    let uv = pair_chars (get_or f n 0) (get_or f (n + 1) 0) (sum_of b) (sum_byte b) (eqb-true (byte_at upper_hex f n) (sum_of (part f address_at n)) c.checked ∙ ap sum_of summed) in
    parts
    ∙ ap₂ (λ (x y : ℕ). framed x y (get_or f address_at 0) (get_or f (address_at + 1) 0) s (get_or f n 0) (get_or f (n + 1) 0) (get_or f (length f - 1) 0)) first filter
    ∙ ap₂ (λ (x y : ℕ). framed stx (filter_of address) x y s (get_or f n 0) (get_or f (n + 1) 0) (get_or f (length f - 1) 0)) xy.0 xy.1
    ∙ ap₂ (λ (x y : ℕ). framed stx (filter_of address) (char_of (a / base)) (char_of (a % base)) s x y (get_or f (length f - 1) 0)) uv.0 uv.1
    ∙ ap (framed stx (filter_of address) (char_of (a / base)) (char_of (a % base)) s (char_of (sum_of b / base)) (char_of (sum_of b % base))) last
