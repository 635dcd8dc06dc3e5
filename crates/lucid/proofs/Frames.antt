-- What is known of a LucidControl frame that was judged: its address and its value lie within it, and its order is sound. Assumes nothing.
use Rattle.std.proofs.Common.{Result, Err, ◌≡◌, refl, sym, ap, ◌∙◌, subst, Bool, true, false, List, ℕ, ◌+◌, ◌*◌, ◌≤◌, ◌<◌, arith, ltb-true, eqb-true, eqb, length}
use Prim.{tt}
use Rattle.wire.specs.Choose.{choose}
use Rattle.wire.proofs.Cases.{by_choice}
use Rattle.card.specs.Layout.{channels, parameter_count}
use Rattle.lucid.specs.Form.{length_right, data_at, value_at, set_param, get_param, channels_of, demand, demand_size, size_of}
use Rattle.lucid.specs.Frame.{is_get, is_set, is_reset, opc_known, channel_right, type_writable, mask_of, len_for, address_in, value_in, place_of, value_right, asked, opc_in, p1_in, p2_in, len_in}
use Rattle.lucid.specs.Stages.{parameter_asked, command_asked, option_asked, Sized, Addressed, Sound}
use Rattle.lucid.specs.declared.frame.Order.{Order}
use Rattle.lucid.specs.declared.frame.Refusal.{Refusal}
use Rattle.lucid.specs.declared.frame.Refusal.TheVariants.{Refused}

module _ (p1 p2 : ℕ) (f : List ℕ) where
  set_addressed : Sized set_param p1 p2 f → Addressed set_param p1 p2 f
  unfolding len_for choose
  set_addressed s = record { channel = ltb-true p1 channels s.channel; address = within; value = λ _ r. let l = rw r at s.measured in omega arith }
    where
      within : value_at ≤ length f
      within = rw s.measured (by_choice (λ (n : ℕ). value_at ≤ data_at + n) (is_reset set_param p2) _ _ (λ _. omega arith) (λ _. omega arith))

  get_addressed : Sized get_param p1 p2 f → Addressed get_param p1 p2 f
  unfolding len_for choose
  get_addressed s =
      let l : length f ≡ value_at = s.measured in
      record { channel = ltb-true p1 channels s.channel; address = omega arith; value = λ n. absurd (n refl) }

module _ (opc p1 p2 : ℕ) (f : List ℕ) (sized : Sized opc p1 p2 f) where
  -- a command on parameters
  pub addressed : is_get opc ≡ false → is_set opc ≡ false → Addressed opc p1 p2 f
  addressed g s = by (eqb opc set_param) refl
    where
      by : (t : Bool) → eqb opc set_param ≡ t → Addressed opc p1 p2 f
      by true e = subst (λ (o : ℕ). Sized o p1 p2 f → Addressed o p1 p2 f) (sym (eqb-true opc set_param e)) (set_addressed p1 p2 f) sized
      by false e =
          let k : eqb opc get_param ≡ true = rw (g, s, e) at sized.known in
          subst (λ (o : ℕ). Sized o p1 p2 f → Addressed o p1 p2 f) (sym (eqb-true opc get_param k)) (get_addressed p1 p2 f) sized

  -- SetIo and SetIoGroup have two bytes for each channel
  set_length : type_writable opc p2 ≡ true → is_get opc ≡ false → is_set opc ≡ true → length f ≡ data_at + demand_size * length (channels_of (mask_of opc p1))
  unfolding len_for size_of choose
  set_length w g s =
      let d : eqb p2 demand ≡ true = rw s at w in
      rw (g, s, d) at sized.measured

pub place_within : (channel address : ℕ) → channel < channels → place_of channel address < parameter_count
unfolding place_of
place_within channel address h = by_choice (λ (n : ℕ). n < parameter_count) _ _ _ (λ _. omega arith) (λ _. omega arith)

module _ (f : List ℕ) where
  -- a test, of which the other way is a refusal
  or_refused : (t : Bool) (order : Result Order Refusal) (number status : ℕ) → (t ≡ true → Sound f order) → Sound f (choose t order (Err (Refused number status)))
  or_refused t order number status p = by_choice (Sound f) t order (Err (Refused number status)) p (λ _. tt)

  parameter_sound : (opc p1 p2 : ℕ) → p1 < channels → Sound f (parameter_asked opc p1 p2 f)
  unfolding parameter_asked
  parameter_sound opc p1 p2 h =
      let inside = place_within p1 (address_in f) h in
      or_refused _ _ _ _
      (λ _. by_choice (Sound f) (eqb opc get_param) _ _ (λ _. inside)
      (λ _. by_choice (Sound f) (is_reset opc p2) _ _ (λ _. inside)
      (λ _. or_refused (value_right (place_of p1 (address_in f)) (value_in f)) _ _ _ (λ r. (inside, r)))))

  command_sound : (opc p1 p2 : ℕ) → Sized opc p1 p2 f → type_writable opc p2 ≡ true → Sound f (command_asked opc p1 p2 f)
  unfolding command_asked
  command_sound opc p1 p2 sized w =
      by_choice (Sound f) (is_get opc) _ _ (λ _. tt)
      (λ g. by_choice (Sound f) (is_set opc) _ _ (λ s. set_length opc p1 p2 f sized w g s)
      (λ s. parameter_sound opc p1 p2 (addressed opc p1 p2 f sized g s).channel))

  option_sound : (opc p1 p2 : ℕ) → opc_known opc ≡ true → channel_right opc p1 ≡ true → length f ≡ data_at + len_in f → Sound f (option_asked opc p1 p2 f)
  unfolding option_asked
  option_sound opc p1 p2 known channel l =
      or_refused _ _ _ _
      (λ _. or_refused (type_writable opc p2) _ _ _
      (λ w. or_refused _ _ _ _
      (λ _. or_refused (eqb (len_in f) (len_for opc p1 p2)) _ _ _
      (λ e. command_sound opc p1 p2 (record { known = known; channel = channel; measured = l ∙ ap (λ (n : ℕ). data_at + n) (eqb-true (len_in f) (len_for opc p1 p2) e) }) w))))

  pub asked_sound : Sound f (asked f)
  unfolding asked option_asked command_asked parameter_asked
  asked_sound =
      by_choice (Sound f) (length_right (length f)) _ _
      (λ _. or_refused (eqb (length f) (data_at + len_in f)) _ _ _
      (λ l. or_refused (opc_known (opc_in f)) _ _ _
      (λ k. or_refused (channel_right (opc_in f) (p1_in f)) _ _ _
      (λ h. or_refused _ _ _ _ (λ _. option_sound (opc_in f) (p1_in f) (p2_in f) k h (eqb-true (length f) (data_at + len_in f) l))))))
      (λ _. tt)
