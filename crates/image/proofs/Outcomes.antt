-- What reading gives at each place of its order, and what is known of an image that was read. Assumes nothing.
use Rattle.std.proofs.Common.{◌≡◌, ℕ, Bool, true, false, eqb, List, length, sym, refl, ap, ◌∙◌, arith, eq-eqb, ne_eqb, eqb-true}
use borrow.Author.Tests.{eqb-false}
use Rattle.wire.proofs.Cases.{yes, no}
use Rattle.card.specs.Numbers.{done, card_unfit, image_length, image_padding}
use Rattle.card.specs.Layout.{Card}
use Rattle.card.specs.Fitness.{fit}
use Rattle.card.specs.Reply.{Reply, silent}
use Rattle.image.specs.Form.{saved_form, image_size}
use Rattle.image.specs.Saved.{entries_of, padding_of, restored}
use Rattle.image.specs.Ranges.{entries_right}
use Rattle.image.specs.Entries.{read_image}

module _ (card : Card) (img : List ℕ) where
  pub read_unfit : fit card ≡ false → silent card_unfit card ≡ read_image card img
  unfolding read_image
  read_unfit h = no _ _ _ _ h refl

  module _ (fits : fit card ≡ true) where
    pub read_length_law : (length img ≡ image_size → ⊥) → silent image_length card ≡ read_image card img
    unfolding read_image
    read_length_law n = yes _ _ _ _ fits (no _ _ _ _ (ne_eqb (length img) image_size n) refl)

    module _ (long : length img ≡ image_size) where
      pub read_padding : (padding_of img ≡ 0 → ⊥) → silent image_padding card ≡ read_image card img
      unfolding read_image
      read_padding n = yes _ _ _ _ fits (yes _ _ _ _ (eq-eqb (length img) image_size long) (no _ _ _ _ (ne_eqb (padding_of img) 0 n) refl))

      module _ (zero : padding_of img ≡ 0) where
        pub read_outside : entries_right saved_form (entries_of img) ≡ false → silent card_unfit card ≡ read_image card img
        unfolding read_image
        read_outside h = yes _ _ _ _ fits (yes _ _ _ _ (eq-eqb (length img) image_size long) (yes _ _ _ _ (eq-eqb (padding_of img) 0 zero) (no _ _ _ _ h refl)))

        pub read_done : entries_right saved_form (entries_of img) ≡ true → silent done (restored card img) ≡ read_image card img
        unfolding read_image
        read_done h = yes _ _ _ _ fits (yes _ _ _ _ (eq-eqb (length img) image_size long) (yes _ _ _ _ (eq-eqb (padding_of img) 0 zero) (yes _ _ _ _ h refl)))

  -- all that is tested of the card and the image
  pub record Read : Type 0 where
    pub fits : fit card ≡ true
    pub long : length img ≡ image_size
    pub padded : padding_of img ≡ 0
    pub ranged : entries_right saved_form (entries_of img) ≡ true

  -- a number other than done is not done
  not_done : (n : ℕ) → silent n card ≡ read_image card img → (read_image card img).number ≡ done → n ≡ done
  not_done n e d = ap (λ (r : Reply). r.number) e ∙ d

  pub read_was_done : (read_image card img).number ≡ done → Read
  read_was_done d = by (fit card) refl (eqb (length img) image_size) refl (eqb (padding_of img) 0) refl (entries_right saved_form (entries_of img)) refl
    where
      by : (a : Bool) → fit card ≡ a → (b : Bool) → eqb (length img) image_size ≡ b → (z : Bool) → eqb (padding_of img) 0 ≡ z → (w : Bool) → entries_right saved_form (entries_of img) ≡ w → Read
      by false a b e z f w g = let x = not_done card_unfit (read_unfit a) d in let y : ⊥ = omega arith in absurd y
      by true a false e z f w g = let x = not_done image_length (read_length_law a (eqb-false _ _ e)) d in let y : ⊥ = omega arith in absurd y
      by true a true e false f w g = let x = not_done image_padding (read_padding a (eqb-true _ _ e) (eqb-false _ _ f)) d in let y : ⊥ = omega arith in absurd y
      by true a true e true f false g = let x = not_done card_unfit (read_outside a (eqb-true _ _ e) (eqb-true _ _ f) g) d in let y : ⊥ = omega arith in absurd y
      by true a true e true f true g = record { fits = a; long = eqb-true _ _ e; padded = eqb-true _ _ f; ranged = g }

  pub read_card : Read → read_image card img ≡ silent done (restored card img)
  read_card r = sym (read_done r.fits r.long r.padded r.ranged)
