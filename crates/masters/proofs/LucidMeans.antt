-- LucidControl: a made frame asks the card what was asked. Assumes nothing.
use Rattle.std.proofs.Common.{◌≡◌, ℕ, ◌+◌, ◌*◌, ◌^◌, ◌<◌, true, false, eqb, ltb, List, [], ◌∷◌, ◌++◌, length, get_or, Ok, Result, sym, refl, ap, ◌∙◌, arith, ltb-true}
use Rattle.wire.specs.Choose.{choose}
use Rattle.wire.specs.Word.{word_values}
use Rattle.wire.specs.Sum.{byte_values}
use Rattle.card.specs.Layout.{channels}
use Rattle.lucid.specs.Form.{data_at, get_io, get_io_group, set_io, set_io_group, get_param, set_param, channels_of, size_of}
use Rattle.lucid.specs.Form.{default, persistent, cycle_address, floor_address, address_size, parameter_size, little}
use Rattle.lucid.specs.Frame.{is_reset, saves, option_right, address_known, address_in, value_in, value_right, mask_of, len_for, place_of, asked, opc_in}
use Rattle.lucid.specs.Stages.{parameter_asked, command_asked}
use Rattle.lucid.specs.declared.frame.Order.{Order}
use Rattle.lucid.specs.declared.frame.Refusal.{Refusal}
use Rattle.lucid.specs.declared.frame.Order.TheVariants.{GetIo as GetOrder, SetIo as SetOrder, GetParam as GetParamOrder, SetParam as SetParamOrder, Reset as ResetOrder}
use Rattle.lucid.proofs.Laws.{one_channel}
use Rattle.lucid.proofs.Numbers.{number_little}
use Rattle.lucid.proofs.Passing.{asked_framed}
use Rattle.asking.specs.Claims.{Askable, Means}
use Rattle.lucid_master.specs.Request.{Asking, asking_of, opc_of, p1_right, p2_right, address_right, count_of, values_right, all_demands, demand_bytes, data_of, made}
use Rattle.lucid_master.specs.declared.request.Command.{Command}
use Rattle.lucid_master.specs.declared.request.Command.TheVariants.{GetIo, GetIoGroup, SetIo, SetIoGroup, GetParam, SetParam, Reset}
use Rattle.lucid_master.proofs.Requests.{Parts, parts, by_two, count_most}
use Rattle.lucid_master.proofs.Demands.{length_demands}
use Rattle.masters.specs.Lucid.{demands_from, demands_in, asked_in, order_of, demands_of, asked_of, lucid_master}
use Rattle.masters.proofs.LucidValues.{demands_read}

-- a request by its parts
abbrev pub asking : Command → ℕ → ℕ → ℕ → List ℕ → Asking
asking command p1 p2 address values = asking_of (record { command = command; p1 = p1; p2 = p2; address = address }) values

-- an address is one of two
pub by_address : (P : ℕ → Type 0) → P cycle_address → P floor_address → (x : ℕ) → address_known x ≡ true → P x
by_address P a b x h = by_two P cycle_address floor_address a b x h

-- what a frame asks, by its order
asked_as : (f : List ℕ) (order : Result Order Refusal) → asked f ≡ order → asked_in f ≡ record { opc = opc_in f; order = order; demands = demands_in order f }
unfolding asked_in
asked_as f order e = rw e

-- the address in a frame that has one
address_read : (opc p1 p2 len address : ℕ) (rest : List ℕ) → address_known address ≡ true → address_in (opc ∷ p1 ∷ p2 ∷ len ∷ (little address_size address ++ rest)) ≡ address
address_read opc p1 p2 len address rest known =
    number_little address_size address (opc ∷ p1 ∷ p2 ∷ len ∷ []) rest (by_address (λ x. x < byte_values * byte_values) (omega arith) (omega arith) address known)

-- and the value behind it
value_read : (opc p1 p2 len address value : ℕ) → value < word_values → value_in (opc ∷ p1 ∷ p2 ∷ len ∷ (little address_size address ++ little parameter_size value)) ≡ value
unfolding little
value_read opc p1 p2 len address value h = number_little parameter_size value (opc ∷ p1 ∷ p2 ∷ len ∷ little address_size address) [] h

module _ (p1 p2 address : ℕ) (values : List ℕ) where
  -- command by command
  means_get : Parts GetIo p1 p2 address values → asked_in (made (asking GetIo p1 p2 address values)) ≡ asked_of (asking GetIo p1 p2 address values)
  unfolding made opc_of data_of asked_of order_of demands_of demands_in p1_right p2_right command_asked mask_of len_for choose
  means_get p = asked_as _ (Ok (GetOrder p2 (2 ^ p1))) (asked_framed get_io p1 p2 [] (omega arith) refl p.first refl p.second refl refl refl)

  means_get_group : Parts GetIoGroup p1 p2 address values → asked_in (made (asking GetIoGroup p1 p2 address values)) ≡ asked_of (asking GetIoGroup p1 p2 address values)
  unfolding made opc_of data_of asked_of order_of demands_of demands_in p1_right p2_right command_asked mask_of len_for choose
  means_get_group p = asked_as _ (Ok (GetOrder p2 p1)) (asked_framed get_io_group p1 p2 [] (omega arith) refl refl p.first p.second refl refl refl)

  -- a frame that sets demands, of which the order names as many channels
  set_asked : (opc mask : ℕ) → length (channels_of mask) ≡ length values → all_demands values ≡ true
      → asked (opc ∷ p1 ∷ p2 ∷ length (demand_bytes values) ∷ demand_bytes values) ≡ Ok (SetOrder mask)
      → asked_in (opc ∷ p1 ∷ p2 ∷ length (demand_bytes values) ∷ demand_bytes values) ≡ record { opc = opc; order = Ok (SetOrder mask); demands = values }
  unfolding demands_in
  set_asked opc mask n all e =
      let f = opc ∷ p1 ∷ p2 ∷ length (demand_bytes values) ∷ demand_bytes values in
      let read : demands_from (length (channels_of mask)) f data_at ≡ values = rw n (demands_read values (opc ∷ p1 ∷ p2 ∷ length (demand_bytes values) ∷ []) all) in
      asked_as f (Ok (SetOrder mask)) e ∙ ap (λ (ds : List ℕ). record { opc = opc; order = Ok (SetOrder mask); demands = ds }) read

  means_set : Parts SetIo p1 p2 address values → asked_in (made (asking SetIo p1 p2 address values)) ≡ asked_of (asking SetIo p1 p2 address values)
  unfolding made opc_of data_of asked_of order_of demands_of p1_right p2_right count_of values_right command_asked mask_of len_for size_of choose
  means_set p =
      let one = ap length (one_channel p1 (ltb-true p1 channels p.first)) in
      let long = length_demands values in
      set_asked set_io (2 ^ p1) (one ∙ sym p.count) p.inside
      (asked_framed set_io p1 p2 (demand_bytes values) (omega (arith, long, p.count)) refl p.first refl (rw p.second) p.second refl
      (rw p.second (omega (arith, long, p.count, one))))

  means_set_group : Parts SetIoGroup p1 p2 address values → asked_in (made (asking SetIoGroup p1 p2 address values)) ≡ asked_of (asking SetIoGroup p1 p2 address values)
  unfolding made opc_of data_of asked_of order_of demands_of p1_right p2_right count_of values_right command_asked mask_of len_for size_of choose
  means_set_group p =
      let most = count_most p1 in
      let long = length_demands values in
      set_asked set_io_group p1 (sym p.count) p.inside
      (asked_framed set_io_group p1 p2 (demand_bytes values) (omega (arith, long, p.count)) refl refl p.first (rw p.second) p.second refl (rw p.second (omega (arith, long, p.count))))

  means_get_param : Parts GetParam p1 p2 address values → asked_in (made (asking GetParam p1 p2 address values)) ≡ asked_of (asking GetParam p1 p2 address values)
  unfolding made opc_of data_of asked_of order_of demands_of demands_in p1_right p2_right address_right command_asked parameter_asked mask_of len_for little choose
  means_get_param p =
      let read = address_read get_param p1 p2 address_size address [] p.known in
      asked_as _ (Ok (GetParamOrder (place_of p1 address)))
      (asked_framed get_param p1 p2 (little address_size address) (omega arith) refl p.first refl refl refl (rw p.second) refl ∙ rw (read, p.known))

-- a frame that sets a parameter, with an option that resets nothing
module _ (p1 option address : ℕ) (values : List ℕ) where
  set_param_asked : is_reset set_param option ≡ false → option_right set_param option ≡ true → saves option ≡ eqb option persistent → ltb p1 channels ≡ true → address_known address ≡ true
      → value_right (place_of p1 address) (get_or values 0 0) ≡ true → get_or values 0 0 < word_values
      → asked_in (made (asking SetParam p1 option address values)) ≡ asked_of (asking SetParam p1 option address values)
  unfolding made opc_of data_of asked_of order_of demands_of demands_in command_asked parameter_asked len_for little choose
  set_param_asked stays right saved channel known inside word =
      let value = get_or values 0 0 in
      let bytes = little address_size address ++ little parameter_size value in
      let named = address_read set_param p1 option (length bytes) address (little parameter_size value) known in
      let given = value_read set_param p1 option (length bytes) address value word in
      asked_as _ (Ok (SetParamOrder (place_of p1 address) (eqb option persistent) value))
      (asked_framed set_param p1 option bytes (omega arith) refl channel refl refl refl right (rw stays) ∙ rw (stays, named, known, given, inside, saved))

  -- and one that resets it
  reset_asked : is_reset set_param option ≡ true → option_right set_param option ≡ true → saves option ≡ eqb option (default + persistent) → ltb p1 channels ≡ true → address_known address ≡ true
      → asked_in (made (asking Reset p1 option address values)) ≡ asked_of (asking Reset p1 option address values)
  unfolding made opc_of data_of asked_of order_of demands_of demands_in command_asked parameter_asked len_for little choose
  reset_asked resets right saved channel known =
      let named = address_read set_param p1 option address_size address [] known in
      asked_as _ (Ok (ResetOrder (place_of p1 address) (eqb option (default + persistent))))
      (asked_framed set_param p1 option (little address_size address) (omega arith) refl channel refl refl refl right (rw resets) ∙ rw (named, known, resets, saved))

-- a made frame, whatever its command
pub means_of : (command : Command) (p1 p2 address : ℕ) (values : List ℕ) → Parts command p1 p2 address values → get_or values 0 0 < word_values
    → asked_in (made (asking command p1 p2 address values)) ≡ asked_of (asking command p1 p2 address values)
unfolding p1_right p2_right address_right values_right
means_of GetIo p1 p2 address values p w = means_get p1 p2 address values p
means_of GetIoGroup p1 p2 address values p w = means_get_group p1 p2 address values p
means_of SetIo p1 p2 address values p w = means_set p1 p2 address values p
means_of SetIoGroup p1 p2 address values p w = means_set_group p1 p2 address values p
means_of GetParam p1 p2 address values p w = means_get_param p1 p2 address values p
means_of SetParam p1 p2 address values p w =
    by_two (λ x. asked_in (made (asking SetParam p1 x address values)) ≡ asked_of (asking SetParam p1 x address values)) 0 persistent
    (set_param_asked p1 0 address values refl refl refl p.first p.known p.inside w)
    (set_param_asked p1 persistent address values refl refl refl p.first p.known p.inside w)
    p2 p.second
means_of Reset p1 p2 address values p w =
    by_two (λ x. asked_in (made (asking Reset p1 x address values)) ≡ asked_of (asking Reset p1 x address values)) default (default + persistent)
    (reset_asked p1 default address values refl refl refl p.first p.known)
    (reset_asked p1 (default + persistent) address values refl refl refl p.first p.known)
    p2 p.second

-- the place of the first value among a request's numbers
abbrev value_index : ℕ
value_index = 3

-- its first value is a word
pub first_word : (q : Asking) → Askable lucid_master q → get_or q.values 0 0 < word_values
first_word q a = a.words value_index

-- means
pub lucid_means : (q : Asking) → Askable lucid_master q → Means lucid_master q
lucid_means q a =
    let r = q.request in
    record { means = λ unit. means_of r.command r.p1 r.p2 r.address q.values (parts r q.values a.right) (first_word q a) }
