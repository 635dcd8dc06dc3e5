-- LucidControl: a made frame is the only one for its request, and so the least. Assumes nothing.
use Rattle.std.proofs.Common.{◌≡◌, ℕ, ◌+◌, ◌*◌, ◌^◌, ◌<◌, ◌≤◌, Bool, true, false, not, ◌||◌, eqb, List, [], ◌∷◌, ◌++◌, length, get_or, take, drop, Ok, Result, sym, refl, ap, ◌∙◌, subst, inl, arith, length-drop, take-append-drop, drop_of_length-le, take_all, drop-drop, ltb-true, eqb-true}
use Prim.{tt}
use Rattle.wire.specs.Choose.{choose}
use Rattle.wire.specs.Sum.{byte_values}
use Rattle.wire.proofs.Cases.{by_choice}
use Rattle.wire.proofs.Sweep.{swept}
use Rattle.card.specs.Layout.{channels, parameters_each}
use Rattle.lucid.specs.Form.{p2_at, data_at, value_at, get_io, get_io_group, set_io, set_io_group, get_param, set_param, channels_of, demand}
use Rattle.lucid.specs.Form.{default, persistent, cycle_address, floor_address, address_size, parameter_size, little, number_at}
use Rattle.lucid.specs.Frame.{opc_in, p1_in, p2_in, len_in, is_reset, saves, option_right, address_in, value_in, address_known, value_right, mask_of, len_for, place_of, asked}
use Rattle.lucid.specs.Stages.{parameter_asked, command_asked, Sound}
use Rattle.lucid.specs.declared.frame.Order.{Order}
use Rattle.lucid.specs.declared.frame.Refusal.{Refusal}
use Rattle.lucid.specs.declared.frame.Order.TheVariants.{GetIo as GetOrder, SetIo as SetOrder, GetParam as GetParamOrder, SetParam as SetParamOrder, Reset as ResetOrder}
use Rattle.lucid.proofs.Frames.{asked_sound}
use Rattle.lucid.proofs.Laws.{one_channel}
use Rattle.lucid.proofs.Numbers.{little_number}
use Rattle.lucid.proofs.Passing.{Obeyed, Passed, passed}
use Rattle.asking.specs.Claims.{Below, Askable, ForSame, Least}
use Rattle.asking.proofs.Later.{no_later_law}
use Rattle.lucid_master.specs.Request.{Asking, opc_of, p1_right, p2_right, address_right, demand_bytes, data_of, made}
use Rattle.lucid_master.specs.declared.request.Command.{Command}
use Rattle.lucid_master.specs.declared.request.Command.TheVariants.{GetIo, GetIoGroup, SetIo, SetIoGroup, GetParam, SetParam, Reset}
use Rattle.lucid_master.proofs.Requests.{Parts, parts, one_of, by_two}
use Rattle.masters.specs.Lucid.{Asked, demands_from, demands_in, asked_in, order_of, demands_of, asked_of, lucid_master}
use Rattle.masters.proofs.LucidValues.{demands_bytes}
use Rattle.masters.proofs.LucidMeans.{asking, by_address, lucid_means}

-- a contradiction between orders
apart : {A : Type 0} → ◌≡◌ {A = ℕ} 0 1 → A
apart e = let z : ⊥ = omega (arith, e) in absurd z

-- a frame's head, and its data
frame_head : (f : List ℕ) → data_at ≤ length f → f ≡ opc_in f ∷ p1_in f ∷ p2_in f ∷ len_in f ∷ drop data_at f
frame_head [] h = let z : ⊥ = omega arith in absurd z
frame_head (a ∷ []) h = let z : ⊥ = omega arith in absurd z
frame_head (a ∷ b ∷ []) h = let z : ⊥ = omega arith in absurd z
frame_head (a ∷ b ∷ c ∷ []) h = let z : ⊥ = omega arith in absurd z
frame_head (a ∷ b ∷ c ∷ d ∷ f) h = refl

-- a frame by its parts
framed_as : (opc p1 p2 : ℕ) (bytes f : List ℕ) → Passed f → opc_in f ≡ opc → p1_in f ≡ p1 → p2_in f ≡ p2 → drop data_at f ≡ bytes → f ≡ opc ∷ p1 ∷ p2 ∷ length bytes ∷ bytes
framed_as opc p1 p2 bytes f p o a b d =
    let len : len_in f ≡ length bytes = omega (arith, p.sized, ap length d, length-drop data_at f) in
    frame_head f (omega (arith, p.sized)) ∙ rw (o, a, b, len, d)

-- a power of two has one exponent below four
exponent : (a b : ℕ) → a < channels → b < channels → 2 ^ a ≡ 2 ^ b → a ≡ b
exponent a b h k e = let s : a ∷ [] ≡ b ∷ [] = sym (one_channel a h) ∙ ap channels_of e ∙ one_channel b k in cc

-- a place has one channel and one address
place_same : (a b x y : ℕ) → address_known x ≡ true → address_known y ≡ true → place_of a x ≡ place_of b y → (a ≡ b) × (x ≡ y)
unfolding place_of choose
place_same a b x y h k =
    by_address (λ u. place_of a u ≡ place_of b y → (a ≡ b) × (u ≡ y))
    (by_address (λ v. parameters_each * a ≡ place_of b v → (a ≡ b) × (cycle_address ≡ v)) (λ e. (omega arith, refl)) (λ e. (omega arith, omega arith)) y k)
    (by_address (λ v. parameters_each * a + 1 ≡ place_of b v → (a ≡ b) × (floor_address ≡ v)) (λ e. (omega arith, omega arith)) (λ e. (omega arith, refl)) y k)
    x h

-- an option of SetParam, by what its bits say
unfoldable option_of : Bool → Bool → ℕ
option_of resets saved = choose resets default 0 + choose saved persistent 0

-- the one with these bits
option_known : (x : ℕ) → x < byte_values → option_right set_param x ≡ true → x ≡ option_of (is_reset set_param x) (saves x)
unfolding option_of choose
option_known x h r =
    let t : test x ≡ true = swept test byte_values tt x h in
    eqb-true x (option_of (is_reset set_param x) (saves x)) (rw r at t)
  where
    test : ℕ → Bool
    test n = not (option_right set_param n) || eqb n (option_of (is_reset set_param n) (saves n))

module _ (f : List ℕ) (bytes : Below byte_values f) where
  -- the last n bytes are those of their number
  last_bytes : (n i : ℕ) → length f ≡ i + n → drop i f ≡ little n (number_at n f i)
  last_bytes n i l = sym (take_all n (drop i f) (rw length-drop (omega (arith, l)))) ∙ sym (little_number n f i bytes (omega (arith, l)))

  -- a frame without data
  no_data : length f ≡ data_at → drop data_at f ≡ []
  no_data l = drop_of_length-le f {i = data_at} (omega (arith, l))

  module _ (p1 p2 address : ℕ) (values : List ℕ) where
    -- GetIo and GetIoGroup
    only_get : Parts GetIo p1 p2 address values → opc_in f ≡ get_io → asked f ≡ Ok (GetOrder p2 (2 ^ p1)) → f ≡ made (asking GetIo p1 p2 address values)
    unfolding made opc_of data_of p1_right command_asked mask_of len_for choose
    only_get q c e =
        let p = passed f (subst Obeyed (sym e) tt) in
        let o : Ok (GetOrder (p2_in f) (2 ^ p1_in f)) ≡ Ok (GetOrder p2 (2 ^ p1)) = rw c at (sym p.order ∙ e) in
        let t : p2_in f ≡ p2 = cc in
        let m : 2 ^ p1_in f ≡ 2 ^ p1 = cc in
        let n : len_in f ≡ 0 = rw c at p.measured in
        let channel = exponent (p1_in f) p1 (ltb-true (p1_in f) channels (rw c at p.channel)) (ltb-true p1 channels q.first) m in
        framed_as get_io p1 p2 [] f p c channel t (no_data (omega (arith, p.sized)))

    only_get_group : opc_in f ≡ get_io_group → asked f ≡ Ok (GetOrder p2 p1) → f ≡ made (asking GetIoGroup p1 p2 address values)
    unfolding made opc_of data_of command_asked mask_of len_for choose
    only_get_group c e =
        let p = passed f (subst Obeyed (sym e) tt) in
        let o : Ok (GetOrder (p2_in f) (p1_in f)) ≡ Ok (GetOrder p2 p1) = rw c at (sym p.order ∙ e) in
        let t : p2_in f ≡ p2 = cc in
        let m : p1_in f ≡ p1 = cc in
        let n : len_in f ≡ 0 = rw c at p.measured in
        framed_as get_io_group p1 p2 [] f p c m t (no_data (omega (arith, p.sized)))

    -- the data of a frame that sets these demands
    set_data : (mask : ℕ) → asked f ≡ Ok (SetOrder mask) → demands_in (asked f) f ≡ values → drop data_at f ≡ demand_bytes values
    unfolding demands_in
    set_data mask e d =
        let read : demands_from (length (channels_of mask)) f data_at ≡ values = rw e at d in
        demands_bytes f bytes (length (channels_of mask)) data_at (subst (Sound f) e (asked_sound f)) ∙ ap demand_bytes read

    -- SetIo and SetIoGroup
    only_set : Parts SetIo p1 p2 address values → opc_in f ≡ set_io → asked f ≡ Ok (SetOrder (2 ^ p1)) → demands_in (asked f) f ≡ values → f ≡ made (asking SetIo p1 p2 address values)
    unfolding made opc_of data_of p1_right p2_right command_asked mask_of choose
    only_set q c e d =
        let p = passed f (subst Obeyed (sym e) tt) in
        let o : Ok (SetOrder (2 ^ p1_in f)) ≡ Ok (SetOrder (2 ^ p1)) = rw c at (sym p.order ∙ e) in
        let m : 2 ^ p1_in f ≡ 2 ^ p1 = cc in
        let t : p2_in f ≡ p2 = eqb-true (p2_in f) demand (rw c at p.writable) ∙ sym (eqb-true p2 demand q.second) in
        let channel = exponent (p1_in f) p1 (ltb-true (p1_in f) channels (rw c at p.channel)) (ltb-true p1 channels q.first) m in
        framed_as set_io p1 p2 (demand_bytes values) f p c channel t (set_data (2 ^ p1) e d)

    only_set_group : Parts SetIoGroup p1 p2 address values → opc_in f ≡ set_io_group → asked f ≡ Ok (SetOrder p1) → demands_in (asked f) f ≡ values → f ≡ made (asking SetIoGroup p1 p2 address values)
    unfolding made opc_of data_of p2_right command_asked mask_of choose
    only_set_group q c e d =
        let p = passed f (subst Obeyed (sym e) tt) in
        let o : Ok (SetOrder (p1_in f)) ≡ Ok (SetOrder p1) = rw c at (sym p.order ∙ e) in
        let m : p1_in f ≡ p1 = cc in
        let t : p2_in f ≡ p2 = eqb-true (p2_in f) demand (rw c at p.writable) ∙ sym (eqb-true p2 demand q.second) in
        framed_as set_io_group p1 p2 (demand_bytes values) f p c m t (set_data p1 e d)

    -- a frame that asks for a parameter names it
    get_param_named : (place : ℕ) → command_asked get_param (p1_in f) (p2_in f) f ≡ Ok (GetParamOrder place) → (address_known (address_in f) ≡ true) × (place_of (p1_in f) (address_in f) ≡ place)
    unfolding command_asked parameter_asked choose
    get_param_named place =
        by_choice (λ (o : Result Order Refusal). o ≡ Ok (GetParamOrder place) → (address_known (address_in f) ≡ true) × (place_of (p1_in f) (address_in f) ≡ place)) (address_known (address_in f)) _ _
        (λ k e. (k, cc)) (λ _ e. apart (cc))

    -- GetParam
    only_get_param : Parts GetParam p1 p2 address values → opc_in f ≡ get_param → asked f ≡ Ok (GetParamOrder (place_of p1 address)) → f ≡ made (asking GetParam p1 p2 address values)
    unfolding made opc_of data_of p2_right address_right len_for little choose
    only_get_param q c e =
        let p = passed f (subst Obeyed (sym e) tt) in
        let n = get_param_named (place_of p1 address) (rw c at (sym p.order ∙ e)) in
        let s = place_same (p1_in f) p1 (address_in f) address n.0 q.known n.1 in
        let option : (eqb (p2_in f) 0 || false) ≡ true = rw c at p.option in
        let none : p2_in f ≡ 0 = one_of (λ x. x ≡ 0) (p2_in f) 0 false option refl (λ z. apart (cc)) in
        let len : len_in f ≡ address_size = rw c at p.measured in
        let all = last_bytes address_size data_at (omega (arith, p.sized)) ∙ ap (little address_size) s.1 in
        framed_as get_param p1 p2 (little address_size address) f p c s.0 (none ∙ sym (eqb-true p2 0 q.second)) all

    -- what is known of a frame that sets a parameter
    record SetsParam (place : ℕ) (saved : Bool) (value : ℕ) : Type 0 where
      stays : is_reset set_param (p2_in f) ≡ false
      known : address_known (address_in f) ≡ true
      named : place_of (p1_in f) (address_in f) ≡ place
      kept : saves (p2_in f) ≡ saved
      given : value_in f ≡ value

    -- its order says so
    set_param_named : (place : ℕ) (saved : Bool) (value : ℕ) → command_asked set_param (p1_in f) (p2_in f) f ≡ Ok (SetParamOrder place saved value) → SetsParam place saved value
    unfolding command_asked parameter_asked choose
    set_param_named place saved value =
        by_choice P (address_known (address_in f)) _ _
        (λ k. by_choice P (is_reset set_param (p2_in f)) _ _ (λ _ e. apart (cc))
        (λ s. by_choice P (value_right (place_of (p1_in f) (address_in f)) (value_in f)) _ _ (λ _ e. record { stays = s; known = k; named = cc; kept = cc; given = cc }) (λ _ e. apart (cc))))
        (λ _ e. apart (cc))
      where
        P : Result Order Refusal → Type 0
        P o = o ≡ Ok (SetParamOrder place saved value) → SetsParam place saved value

    -- SetParam
    only_set_param : Parts SetParam p1 p2 address values → opc_in f ≡ set_param → asked f ≡ Ok (SetParamOrder (place_of p1 address) (eqb p2 persistent) (get_or values 0 0))
        → f ≡ made (asking SetParam p1 p2 address values)
    unfolding made opc_of data_of p2_right address_right len_for option_of choose
    only_set_param q c e =
        let p = passed f (subst Obeyed (sym e) tt) in
        let n = set_param_named (place_of p1 address) (eqb p2 persistent) (get_or values 0 0) (rw c at (sym p.order ∙ e)) in
        let s = place_same (p1_in f) p1 (address_in f) address n.known q.known n.named in
        let mine : p2 ≡ option_of false (eqb p2 persistent) = by_two (λ x. x ≡ option_of false (eqb x persistent)) 0 persistent refl refl p2 q.second in
        let option : p2_in f ≡ p2 = option_known (p2_in f) (bytes p2_at) (rw c at p.option) ∙ rw (n.stays, n.kept) (sym mine) in
        let len : len_in f ≡ address_size + parameter_size = rw (c, n.stays) at p.measured in
        let value : drop value_at f ≡ little parameter_size (get_or values 0 0) = last_bytes parameter_size value_at (omega (arith, p.sized)) ∙ ap (little parameter_size) n.given in
        let front : take address_size (drop data_at f) ≡ little address_size address =
        sym (little_number address_size f data_at bytes (omega (arith, p.sized))) ∙ ap (little address_size) s.1 in
        let all : drop data_at f ≡ little address_size address ++ little parameter_size (get_or values 0 0) =
        sym (take-append-drop address_size (drop data_at f)) ∙ rw (front, drop-drop address_size data_at f, value) in
        framed_as set_param p1 p2 (little address_size address ++ little parameter_size (get_or values 0 0)) f p c s.0 option all

    -- what is known of a frame that resets
    record Resets (place : ℕ) (saved : Bool) : Type 0 where
      resets : is_reset set_param (p2_in f) ≡ true
      known : address_known (address_in f) ≡ true
      named : place_of (p1_in f) (address_in f) ≡ place
      kept : saves (p2_in f) ≡ saved

    -- its order says so
    reset_named : (place : ℕ) (saved : Bool) → command_asked set_param (p1_in f) (p2_in f) f ≡ Ok (ResetOrder place saved) → Resets place saved
    unfolding command_asked parameter_asked choose
    reset_named place saved =
        by_choice P (address_known (address_in f)) _ _
        (λ k. by_choice P (is_reset set_param (p2_in f)) _ _ (λ r e. record { resets = r; known = k; named = cc; kept = cc })
        (λ _. by_choice P (value_right (place_of (p1_in f) (address_in f)) (value_in f)) _ _ (λ _ e. apart (cc)) (λ _ e. apart (cc))))
        (λ _ e. apart (cc))
      where
        P : Result Order Refusal → Type 0
        P o = o ≡ Ok (ResetOrder place saved) → Resets place saved

    -- Reset
    only_reset : Parts Reset p1 p2 address values → opc_in f ≡ set_param → asked f ≡ Ok (ResetOrder (place_of p1 address) (eqb p2 (default + persistent)))
        → f ≡ made (asking Reset p1 p2 address values)
    unfolding made opc_of data_of p2_right address_right len_for little option_of choose
    only_reset q c e =
        let p = passed f (subst Obeyed (sym e) tt) in
        let n = reset_named (place_of p1 address) (eqb p2 (default + persistent)) (rw c at (sym p.order ∙ e)) in
        let mine : p2 ≡ option_of true (eqb p2 (default + persistent)) = by_two (λ x. x ≡ option_of true (eqb x (default + persistent))) default (default + persistent) refl refl p2 q.second in
        let option : p2_in f ≡ p2 = option_known (p2_in f) (bytes p2_at) (rw c at p.option) ∙ rw (n.resets, n.kept) (sym mine) in
        let s = place_same (p1_in f) p1 (address_in f) address n.known q.known n.named in
        let len : len_in f ≡ address_size = rw (c, n.resets) at p.measured in
        let all = last_bytes address_size data_at (omega (arith, p.sized)) ∙ ap (little address_size) s.1 in
        framed_as set_param p1 p2 (little address_size address) f p c s.0 option all

  -- whatever the command
  only_of : (command : Command) (p1 p2 address : ℕ) (values : List ℕ) → Parts command p1 p2 address values → opc_in f ≡ opc_of command → asked f ≡ order_of command p1 p2 address values
      → demands_in (asked f) f ≡ demands_of command values → f ≡ made (asking command p1 p2 address values)
  unfolding opc_of order_of demands_of
  only_of GetIo p1 p2 address values q c e d = only_get p1 p2 address values q c e
  only_of GetIoGroup p1 p2 address values q c e d = only_get_group p1 p2 address values c e
  only_of SetIo p1 p2 address values q c e d = only_set p1 p2 address values q c e d
  only_of SetIoGroup p1 p2 address values q c e d = only_set_group p1 p2 address values q c e d
  only_of GetParam p1 p2 address values q c e d = only_get_param p1 p2 address values q c e
  only_of SetParam p1 p2 address values q c e d = only_set_param p1 p2 address values q c e
  only_of Reset p1 p2 address values q c e d = only_reset p1 p2 address values q c e

-- the only frame for its request
pub only : (q : Asking) → Askable lucid_master q → (f : List ℕ) → ForSame lucid_master q f → f ≡ made q
unfolding asked_in asked_of
only q a f s =
    let r = q.request in
    let e : asked_in f ≡ asked_of q = s.asks 0 refl ∙ (lucid_means q a).means 0 in
    only_of f s.bytes r.command r.p1 r.p2 r.address q.values (parts r q.values a.right)
    (ap (λ (x : Asked). x.opc) e) (ap (λ (x : Asked). x.order) e) (ap (λ (x : Asked). x.demands) e)

-- least
pub lucid_least : (q : Asking) → Askable lucid_master q → Least lucid_master q
lucid_least q a = record { least = λ f s. no_later_law f (made q) (inl (only q a f s)) }
