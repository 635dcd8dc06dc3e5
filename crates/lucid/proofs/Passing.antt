-- A frame that is obeyed passed every test before its command, and one that passes them is asked what its command says. Assumes nothing.
use Prim.{Unit}
use Rattle.std.proofs.Common.{ℕ, ◌+◌, ◌≤◌, Result, Ok, Err, ◌≡◌, Bool, true, false, List, ◌∷◌, arith, le-leb, eq-eqb, eqb-true, eqb, length}
use Rattle.wire.specs.Choose.{choose}
use Rattle.wire.specs.Length.{between}
use Rattle.wire.proofs.Cases.{by_choice}
use Rattle.wire.proofs.Tests.{both}
use Rattle.lucid.specs.Form.{longest, length_right, data_at}
use Rattle.lucid.specs.Frame.{opc_in, p1_in, p2_in, len_in, opc_known, channel_right, mask_right, type_known, type_writable, option_right, len_for, asked}
use Rattle.lucid.specs.Stages.{parameter_asked, command_asked}
use Rattle.lucid.specs.declared.frame.Order.{Order}
use Rattle.lucid.specs.declared.frame.Refusal.{Refusal}

-- an order that is no refusal
abbrev pub Obeyed : Result Order Refusal → Type 0
Obeyed (Err refusal) = ⊥
Obeyed (Ok order) = Unit {0}

-- what a frame passed
pub record Passed (f : List ℕ) : Type 0 where
  pub sized : length f ≡ data_at + len_in f
  pub channel : channel_right (opc_in f) (p1_in f) ≡ true
  pub writable : type_writable (opc_in f) (p2_in f) ≡ true
  pub option : option_right (opc_in f) (p2_in f) ≡ true
  pub measured : len_in f ≡ len_for (opc_in f) (p1_in f) (p2_in f)
  pub order : asked f ≡ command_asked (opc_in f) (p1_in f) (p2_in f) f

-- the tests one after another
through : (f : List ℕ) → length_right (length f) ≡ true → eqb (length f) (data_at + len_in f) ≡ true → opc_known (opc_in f) ≡ true → channel_right (opc_in f) (p1_in f) ≡ true
    → mask_right (opc_in f) (p1_in f) ≡ true → type_known (opc_in f) (p2_in f) ≡ true → type_writable (opc_in f) (p2_in f) ≡ true → option_right (opc_in f) (p2_in f) ≡ true
    → eqb (len_in f) (len_for (opc_in f) (p1_in f) (p2_in f)) ≡ true → asked f ≡ command_asked (opc_in f) (p1_in f) (p2_in f) f
unfolding asked command_asked parameter_asked choose
through f long sized known channel mask type writable option measured = rw (long, sized, known, channel, mask, type, writable, option, measured)

-- a frame that is obeyed passed them all
pub passed : (f : List ℕ) → Obeyed (asked f) → Passed f
unfolding asked
passed f =
    by_choice P (length_right (length f)) _ _
    (λ l. by_choice P (eqb (length f) (data_at + len_in f)) _ _
    (λ a. by_choice P (opc_known (opc_in f)) _ _
    (λ b. by_choice P (channel_right (opc_in f) (p1_in f)) _ _
    (λ c. by_choice P (mask_right (opc_in f) (p1_in f)) _ _
    (λ d. by_choice P (type_known (opc_in f) (p2_in f)) _ _
    (λ e. by_choice P (type_writable (opc_in f) (p2_in f)) _ _
    (λ g. by_choice P (option_right (opc_in f) (p2_in f)) _ _
    (λ h. by_choice P (eqb (len_in f) (len_for (opc_in f) (p1_in f) (p2_in f))) _ _
    (λ i _. record { sized = eqb-true _ _ a; channel = c; writable = g; option = h; measured = eqb-true _ _ i; order = through f l a b c d e g h i })
    stop) stop) stop) stop) stop) stop) stop) stop) stop
  where
    P : Result Order Refusal → Type 0
    P o = Obeyed o → Passed f

    stop : {t : Bool} → t ≡ false → ⊥ → Passed f
    stop _ z = absurd z

-- a frame whose LEN counts its data
pub asked_framed : (opc p1 p2 : ℕ) (bytes : List ℕ) → data_at + length bytes ≤ longest → opc_known opc ≡ true → channel_right opc p1 ≡ true → mask_right opc p1 ≡ true → type_known opc p2 ≡ true
    → type_writable opc p2 ≡ true → option_right opc p2 ≡ true → length bytes ≡ len_for opc p1 p2
    → asked (opc ∷ p1 ∷ p2 ∷ length bytes ∷ bytes) ≡ command_asked opc p1 p2 (opc ∷ p1 ∷ p2 ∷ length bytes ∷ bytes)
unfolding between
asked_framed opc p1 p2 bytes few known channel mask type writable option measured =
    let f = opc ∷ p1 ∷ p2 ∷ length bytes ∷ bytes in
    through f (both (le-leb 4 (length f) (omega arith)) (le-leb (length f) longest (omega arith))) (eq-eqb (length f) (data_at + length bytes) (omega arith)) known channel mask type writable option
    (eq-eqb (length bytes) (len_for opc p1 p2) measured)
